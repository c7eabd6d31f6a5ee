-- What a rebuild tries, by the log.
use Rattle.std.proofs.Common.{◌≡◌, ℕ, zero, suc, ◌+◌, ◌<◌, ◌≤◌, Bool, true, false, cond, ◌&&◌, ◌||◌, eqb, ltb, leb, List, [], ◌∷◌, length, get_or, take, drop, None, sym, refl, ap, ◌∙◌, ⊎_elim, arith}
use Rattle.std.proofs.lemmas.Bool.{cases_lt, both_ways, and_parts, and_cases, or_parts, or_from, leb-true, leb-false, ltb-true, ltb-false, lt-ltb, lt-leb, le-leb, eq-eqb, ne_eqb}
use Rattle.trees.specs.Forest.{Forest, Law, size_at}
use Rattle.runs.specs.Session.{State, rebuild, steps, Turn, any, subtree_touched, tries, result, total}
use Rattle.runs.specs.Log.{answer, Log, one_inside, is_tried_lem, work}
use Rattle.runs.proofs.Back.{Follows, member}
use Rattle.runs.proofs.Marking.{Steady, untouched, not_touched}
use Rattle.runs.proofs.Findings.{rebuild_closed}

-- places listed outside an interval, and one inside
none_in : (ts : List ℕ) (i n : ℕ) → one_inside ts i n ≡ false → (q : ℕ) → i ≤ q → q < i + n → member q ts ≡ false
none_in [] i n h q a b = refl
none_in (t ∷ ts) i n h q a b =
    let (x, y) = or_parts (leb i t && ltb t (i + n)) (one_inside ts i n) h in
    let d : q ≡ t → ⊥ = λ e. ⊎_elim (λ z. omega (arith, leb-false i t z)) (λ z. omega (arith, ltb-false t (i + n) z)) (and_cases (leb i t) (ltb t (i + n)) x) in
    or_from (eqb q t) (member q ts) (ne_eqb q t d) (none_in ts i n y q a b)

or_second : (a b : Bool) → b ≡ true → (a || b) ≡ true
or_second true b e = refl
or_second false b e = e

some_in : (ts : List ℕ) (i n : ℕ) → one_inside ts i n ≡ true → (q : ℕ) × (i ≤ q) × (q < i + n) × (member q ts ≡ true)
some_in [] i n h = absurd (both_ways false refl h)
some_in (t ∷ ts) i n h = go (leb i t && ltb t (i + n)) refl h (some_in ts i n)
  where
    go : (u : Bool) → (leb i t && ltb t (i + n)) ≡ u → (u || one_inside ts i n) ≡ true → (one_inside ts i n ≡ true → (q : ℕ) × (i ≤ q) × (q < i + n) × (member q ts ≡ true)) → (q : ℕ) × (i ≤ q) × (q < i + n) × (member q (t ∷ ts) ≡ true)
    go true e k w = let (x, y) = and_parts (leb i t) (ltb t (i + n)) e in (t, leb-true i t x, ltb-true t (i + n) y, ap (λ (b : Bool). b || member t ts) (eq-eqb t t refl))
    go false e k w = let (q, x, y, z) = w k in (q, x, y, or_second (eqb q t) (member q ts) z)

-- a row of touched places, and their list
touched_inside : (u : List Bool) (ts : List ℕ) (i n : ℕ) → i + n ≤ length u → ((q : ℕ) → q < length u → get_or u q false ≡ member q ts) → any (take n (drop i u)) ≡ one_inside ts i n
touched_inside u ts i n l h = go (one_inside ts i n) (any (take n (drop i u))) refl refl
  where
    go : (a b : Bool) → one_inside ts i n ≡ a → any (take n (drop i u)) ≡ b → b ≡ a
    go true true e f = refl
    go false false e f = refl
    go false true e f = sym f ∙ not_touched u i n (λ q x y. h q (omega arith) ∙ none_in ts i n e q x y)
    go true false e f = let (q, x, y, z) = some_in ts i n e in absurd (both_ways (get_or u q false) (untouched u i n f q x y) (h q (omega arith) ∙ z))

-- a subtree ends inside the tree
ends_inside : (m : Forest) → Law m → (i : ℕ) → i < length m → i + size_at m i ≤ length m
ends_inside m h zero l = omega (arith, h.whole)
ends_inside m h (suc i) l = omega (arith, h.whole, h.inside 0 (suc i) h.some_node (omega arith) (omega (arith, h.whole)))

total_alike : (f g : ℕ → ℕ) (n : ℕ) → ((i : ℕ) → i < n → f i ≡ g i) → total f n ≡ total g n
total_alike f g zero h = refl
total_alike f g (suc n) h = omega (arith, total_alike f g n (λ i k. h i (omega arith)), h n (omega arith))

module _ (s : State) (k : Log) (h : Steady s) (f : Follows s k) where
  new_alike : (j : ℕ) → leb s.look.tried j ≡ leb (length s.patterns) (j + k.since_rebuild.added)
  new_alike j = ⊎_elim
      (λ (l : j < s.look.tried). lt-leb s.look.tried j l ∙ sym (lt-leb (length s.patterns) (j + k.since_rebuild.added) (omega (arith, f.added_too))))
      (λ (l : s.look.tried ≤ j). le-leb s.look.tried j l ∙ sym (le-leb (length s.patterns) (j + k.since_rebuild.added) (omega (arith, f.added_too)))) (cases_lt j s.look.tried)

  tries_alike : (i j : ℕ) → i < length s.tree → j < length s.patterns → tries s i j ≡ is_tried_lem s k i j
  tries_alike i j x y =
      let a : ltb j (length s.patterns) ≡ true = lt-ltb j (length s.patterns) y in
      let b : leb s.look.tried j ≡ leb (length s.patterns) (j + k.since_rebuild.added) = new_alike j in
      let c : subtree_touched s i ≡ one_inside k.since_rebuild.touched i (size_at s.tree i) = touched_inside s.look.touched k.since_rebuild.touched i (size_at s.tree i) (omega (arith, h.touches, ends_inside s.tree h.law i x)) f.touched_too in
      λ r. a r && (b r || c r)

  pub rebuild_works : s.journal.click ≡ None → answer s rebuild ≡ steps (work s k)
  rebuild_works o =
      ap (λ (t : Turn). t.1) (rebuild_closed s o)
      ∙ ap steps (total_alike _ _ (length s.patterns) (λ j y.
      total_alike _ _ (length s.look.marks) (λ i x. ap (λ (t : Bool). cond t (result s i j).steps 0) (tries_alike i j (omega (arith, h.rows)) y))
      ∙ ap (total (λ i. cond (is_tried_lem s k i j) (result s i j).steps 0)) h.rows))
