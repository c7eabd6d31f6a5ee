-- The nodes of an outline: what is read off the records, and that accepted records keep the law of trees.
use Rattle.std.specs.Prelude.{◌≡◌, ℕ, zero, suc, ◌+◌, ◌<◌, ◌≤◌, min, cond, ◌⊎◌, List, [], ◌∷◌, length, get_or, drop, nat_lt, refl}
use Rattle.std.proofs.Common.{ap, sym, ◌∙◌, inl, inr, ⊎_elim, arith}
use Rattle.std.proofs.lemmas.Bool.Decides.{nat_tests}
use Rattle.std.specs.List.{prefix_len, take_while}
use Rattle.std.proofs.lemmas.List.Folds.{length-prefix_len}
use Rattle.std.proofs.lemmas.Bool.{cases_lt, lt-ltb, le-ltb}
use Rattle.trees.specs.declared.record.Record.{Record}
use Rattle.trees.specs.Forest.{Node, Forest, Law, size_at, label_at, enclosing}
use Rattle.trees.specs.Outlines.{no_record, deeper, outline_nodes}
use Rattle.trees.specs.Faults.{Accepted}

pub length_nodes : (rs : List Record) → length (outline_nodes rs) ≡ length rs
length_nodes [] = refl
length_nodes (r ∷ rs) = ap suc (length_nodes rs)

pub label_read : (rs : List Record) (p : ℕ) → label_at (outline_nodes rs) p ≡ (get_or rs p no_record).label
label_read [] p = refl
label_read (r ∷ rs) zero = refl
label_read (r ∷ rs) (suc p) = label_read rs p

pub size_read : (rs : List Record) (p : ℕ) → p < length rs → size_at (outline_nodes rs) p ≡ suc (deeper (get_or rs p no_record).depth (drop (suc p) rs))
size_read [] p h = absurd (omega arith)
size_read (r ∷ rs) zero h = refl
size_read (r ∷ rs) (suc p) h = size_read rs p (omega arith)

deeper_in : (d : ℕ) (r : Record) (rs : List Record) → d < r.depth → deeper d (r ∷ rs) ≡ suc (deeper d rs)
deeper_in d r rs h = ap (λ b. cond b (suc (deeper d rs)) 0) (lt-ltb d r.depth h)

deeper_out : (d : ℕ) (r : Record) (rs : List Record) → r.depth ≤ d → deeper d (r ∷ rs) ≡ 0
deeper_out d r rs h = ap (λ b. cond b (suc (deeper d rs)) 0) (le-ltb d r.depth h)

-- the deeper records, counted as a chain counts them
pub deeper_count : (d : ℕ) (rs : List Record) → deeper d rs ≡ length (take_while (λ r. nat_lt d r.depth) rs)
deeper_count d rs = prefix d rs ∙ sym (length-prefix_len (λ r. nat_lt d r.depth) rs)
  where
    prefix : (d : ℕ) (rs : List Record) → deeper d rs ≡ prefix_len (λ r. nat_lt d r.depth) rs
    prefix d [] = refl
    prefix d (r ∷ rs) =
        let ih = prefix d rs in
        let e : suc (deeper d rs) ≡ 1 + prefix_len (λ x. nat_lt d x.depth) rs = omega arith in
        ap (λ n. cond (nat_lt d r.depth) n 0) e

-- a count that is known by where it stops
pub deeper_to : (d : ℕ) (rs : List Record) (n : ℕ) → n ≤ length rs → ((k : ℕ) → k < n → d < (get_or rs k no_record).depth) → (n < length rs → (get_or rs n no_record).depth ≤ d) → deeper d rs ≡ n
deeper_to d [] n l a b = omega arith
deeper_to d (r ∷ rs) zero l a b = deeper_out d r rs (b (omega arith))
deeper_to d (r ∷ rs) (suc n) l a b =
    deeper_in d r rs (a 0 (omega arith)) ∙ ap suc (deeper_to d rs n (omega arith) (λ k h. a (suc k) (omega arith)) (λ h. b (omega arith)))

-- the deeper, the nearer the end
deeper_anti : (d e : ℕ) (rs : List Record) → d ≤ e → deeper e rs ≤ deeper d rs
deeper_anti d e [] le = omega arith
deeper_anti d e (r ∷ rs) le =
    let ih = deeper_anti d e rs le in
    ⊎_elim (λ h. omega (arith, deeper_in e r rs h, deeper_in d r rs (omega arith))) (λ h. omega (arith, deeper_out e r rs h)) (cases_lt e r.depth)

-- a subtree among the deeper records ends among them
deeper_nested : (d : ℕ) (rs : List Record) (q : ℕ) → q < deeper d rs → q + size_at (outline_nodes rs) q ≤ deeper d rs
deeper_nested d [] q h = absurd (omega arith)
deeper_nested d (r ∷ rs) zero h =
    ⊎_elim (λ l. omega (arith, deeper_in d r rs l, deeper_anti d r.depth rs (omega arith))) (λ l. absurd (omega (arith, deeper_out d r rs l))) (cases_lt d r.depth)
deeper_nested d (r ∷ rs) (suc q) h =
    ⊎_elim (λ l. omega (arith, deeper_in d r rs l, deeper_nested d rs q (omega (arith, deeper_in d r rs l)))) (λ l. absurd (omega (arith, deeper_out d r rs l))) (cases_lt d r.depth)

nested : (rs : List Record) (p q : ℕ) → p < q → q < p + size_at (outline_nodes rs) p → q + size_at (outline_nodes rs) q ≤ p + size_at (outline_nodes rs) p
nested [] p q h k = absurd (omega arith)
nested (r ∷ rs) zero zero h k = absurd (omega arith)
nested (r ∷ rs) zero (suc q) h k = omega (arith, deeper_nested r.depth rs q (omega arith))
nested (r ∷ rs) (suc p) zero h k = absurd (omega arith)
nested (r ∷ rs) (suc p) (suc q) h k = omega (arith, nested rs p q (omega arith) (omega arith))

-- the least depth of the records up to p
abbrev least : List Record → ℕ → ℕ
least [] p = 0
least (r ∷ rs) zero = r.depth
least (r ∷ rs) (suc p) = min r.depth (least rs p)

-- the records up to p are deeper than d just where the least is
deeper_least : (d : ℕ) (rs : List Record) (p : ℕ) → p < length rs → ((p < deeper d rs) × (d < least rs p)) ⊎ ((deeper d rs ≤ p) × (least rs p ≤ d))
deeper_least d [] p h = absurd (omega arith)
deeper_least d (r ∷ rs) zero h =
    ⊎_elim (λ l. inl (omega (arith, deeper_in d r rs l), l)) (λ l. inr (omega (arith, deeper_out d r rs l), l)) (cases_lt d r.depth)
deeper_least d (r ∷ rs) (suc p) h =
    ⊎_elim
    (λ l. ⊎_elim (λ a. inl (omega (arith, deeper_in d r rs l, a.0), omega (arith, a.1))) (λ a. inr (omega (arith, deeper_in d r rs l, a.0), omega (arith, a.1))) (deeper_least d rs p (omega arith)))
    (λ l. inr (omega (arith, deeper_out d r rs l), omega arith))
    (cases_lt d r.depth)

enclosing_cons : (x : Node) (m : Forest) (p n : ℕ) → enclosing (x ∷ m) (suc p) (suc n) ≡ cond (nat_lt (suc p) (0 + x.size)) 1 0 + enclosing m p n
enclosing_cons x m p zero = omega arith
enclosing_cons x m p (suc n) =
    let ih = enclosing_cons x m p n in
    let e : ◌≡◌ {A = ℕ} (cond (nat_lt (suc p) (suc n + size_at m n)) 1 0) (cond (nat_lt p (n + size_at m n)) 1 0) = grind (arith, nat_tests) in
    omega (arith, ih, e)

-- no record is more than one deeper than the one before it
abbrev Near : List Record → Type 0
Near rs = (i : ℕ) → suc i < length rs → (get_or rs (suc i) no_record).depth ≤ (get_or rs i no_record).depth + 1

-- the first record of some is near
least_first : (rs : List Record) (p : ℕ) → p < length rs → least rs p ≤ (get_or rs 0 no_record).depth
least_first [] p h = absurd (omega arith)
least_first (r ∷ rs) zero h = omega arith
least_first (r ∷ rs) (suc p) h = omega arith

depths : (rs : List Record) (p : ℕ) → Near rs → p < length rs → enclosing (outline_nodes rs) p p + least rs p ≡ (get_or rs p no_record).depth
depths [] p w h = absurd (omega arith)
depths (r ∷ rs) zero w h = omega arith
depths (r ∷ rs) (suc p) w h =
    let e = enclosing_cons (record { label = r.label; size = suc (deeper r.depth rs) }) (outline_nodes rs) p p in
    let ih = depths rs p (λ i l. w (suc i) (omega arith)) (omega arith) in
    ⊎_elim
    (λ a.
    let one : ◌≡◌ {A = ℕ} (cond (nat_lt (suc p) (0 + suc (deeper r.depth rs))) 1 0) 1 = let k = a.0 in grind (arith, nat_tests) in
    omega (arith, e, one, ih, a.1, least_first rs p (omega arith), w 0 (omega arith)))
    (λ a.
    let none : ◌≡◌ {A = ℕ} (cond (nat_lt (suc p) (0 + suc (deeper r.depth rs))) 1 0) 0 = let k = a.0 in grind (arith, nat_tests) in
    omega (arith, e, none, ih, a.1))
    (deeper_least r.depth rs p (omega arith))

least_zero : (rs : List Record) (p : ℕ) → p < length rs → (get_or rs 0 no_record).depth ≡ 0 → least rs p ≡ 0
least_zero rs p h z = omega (arith, least_first rs p h)

-- the depth of each place is what its record says
pub depth_read : (rs : List Record) → Accepted rs → (p : ℕ) → p < length rs → enclosing (outline_nodes rs) p p ≡ (get_or rs p no_record).depth
depth_read rs a p h =
    omega (arith, depths rs p (λ i l. (a.each (suc i) l).near) h, least_zero rs p h (omega (arith, (a.each 0 a.some).near)))

-- the first record holds all others
holds_all : (rs : List Record) → Accepted rs → size_at (outline_nodes rs) 0 ≡ length rs
holds_all [] a = absurd (omega (arith, a.some))
holds_all (r ∷ rs) a = ap suc (deeper_to r.depth rs (length rs) (omega arith) (λ k h. omega (arith, (a.each 0 (omega arith)).near, (a.each (suc k) (omega arith)).one (omega arith))) (λ h. absurd (omega arith)))

sizes : (rs : List Record) (p : ℕ) → p < length rs → 0 < size_at (outline_nodes rs) p
sizes [] p h = absurd (omega arith)
sizes (r ∷ rs) zero h = omega arith
sizes (r ∷ rs) (suc p) h = sizes rs p (omega arith)

few_records : (rs : List Record) → Accepted rs → length rs ≤ 4096
few_records [] a = omega arith
few_records (r ∷ rs) a = omega (arith, (a.each (length rs) (omega arith)).few)

-- accepted records keep the law
pub outline_law : (rs : List Record) → Accepted rs → Law (outline_nodes rs)
outline_law rs a =
    let n = length_nodes rs in
    record {
      some_node = omega (arith, n, a.some);
      few_nodes = omega (arith, n, few_records rs a);
      whole = holds_all rs a ∙ sym n;
      labels = λ p h. omega (arith, label_read rs p, (a.each p (omega (arith, n))).small);
      sizes = λ p h. sizes rs p (omega (arith, n));
      inside = λ p q h. nested rs p q;
      shallow = λ p h. omega (arith, depth_read rs a p (omega (arith, n)), (a.each p (omega (arith, n))).low);
    }
