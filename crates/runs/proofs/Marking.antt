-- The marks are right wherever nothing was touched, and everywhere while they are not stale.
use Rattle.std.proofs.Common.{◌≡◌, ℕ, zero, suc, ◌+◌, ◌-◌, ◌<◌, ◌≤◌, Bool, true, false, cond, ◌&&◌, ◌||◌, leb, List, [], ◌∷◌, ◌++◌, length, get_or, take, drop, set, replicate, is_some, Some, None, Option, unwrap_or, sym, refl, ap, ◌∙◌, subst, ⊎_elim, arith, length-append, length-drop, length-set, length-take, get_or-drop, get_or-set_other, get_or-take, get_or-set_same, ext_get_or}
use mathlib.Core.List.{Memᴰ}
use lib.ListN.{length-replicate, get_or-append, get_or-eq_default}
use lib.Seq.{set_out, get_or_at}
use Rattle.std.proofs.lemmas.Bool.{cases_lt, cases_eq, cond_both, both_ways, leb-false, lt-ltb, or_parts}
use Rattle.trees.specs.Forest.{Forest, Law, size_at, label_at, subtree, no_node, relabel}
use Rattle.trees.proofs.Relabel.{relabel_keeps_the_law, length_relabel, relabel_other, relabel_out, relabel_sized}
use Rattle.patterns.specs.declared.row.Element.{Element}
use Rattle.matching.specs.Rules.{Bindings, Outcome, match_at_lem}
use Rattle.matching.specs.Laws.{moved_bound}
use Rattle.patterns.specs.Elements.{WellFormed}
use Rattle.matching.proofs.Elsewhere.{subtree_alone}
use Rattle.runs.specs.Session.{Change, State, Call, add, Answer, making, put, touch, any, subtree_touched, tries, matches, mark, tabulate, opened, places, noting, putting, extending}
use Rattle.runs.specs.Log.{after, run}
use Rattle.runs.specs.Runs.{Reached}
use Rattle.runs.proofs.Turns.{Went, stayed, asked, opens, changes, commits, abandons, undoes, settles, adds, rebuilds, went, rebuilt}

-- a row of tests of which none holds
any_none : (xs : List Bool) → any xs ≡ false → (k : ℕ) → get_or xs k false ≡ false
any_none [] h k = refl
any_none (true ∷ xs) h k = absurd (both_ways true h refl)
any_none (false ∷ xs) h zero = refl
any_none (false ∷ xs) h (suc k) = any_none xs h k

none_any : (xs : List Bool) → ((k : ℕ) → get_or xs k false ≡ false) → any xs ≡ false
none_any [] h = refl
none_any (true ∷ xs) h = h 0
none_any (false ∷ xs) h = none_any xs (λ k. h (suc k))

pub untouched : (u : List Bool) (i n : ℕ) → any (take n (drop i u)) ≡ false → (q : ℕ) → i ≤ q → q < i + n → get_or u q false ≡ false
untouched u i n h q j k =
    let z : i + (q - i) ≡ q = omega arith in
    ap (λ (x : ℕ). get_or u x false) (sym z) ∙ sym (get_or-drop i u (q - i) false) ∙ sym (get_or-take n (drop i u) (q - i) false (omega arith)) ∙ any_none (take n (drop i u)) h (q - i)

pub not_touched : (u : List Bool) (i n : ℕ) → ((q : ℕ) → i ≤ q → q < i + n → get_or u q false ≡ false) → any (take n (drop i u)) ≡ false
not_touched u i n h = none_any (take n (drop i u)) (λ k. ⊎_elim
    (λ j. get_or-take n (drop i u) k false j ∙ get_or-drop i u k false ∙ h (i + k) (omega arith) (omega arith))
    (λ (j : n ≤ k). get_or-eq_default (take n (drop i u)) false (simp length-take (omega arith))) (cases_lt k n))

-- forests that agree on a subtree
subtree_agrees : (m n : Forest) (i : ℕ) → length n ≡ length m → size_at n i ≡ size_at m i → ((q : ℕ) → i ≤ q → q < i + size_at m i → get_or m q no_node ≡ get_or n q no_node) → subtree m i ≡ subtree n i
subtree_agrees m n i l z a = ext_get_or no_node (subtree m i) (subtree n i) (simp (length-take, length-drop) (omega arith)) (λ r h.
    let u : r < size_at m i = omega (arith, length-take (size_at m i) (drop i m), h) in
    get_or-take (size_at m i) (drop i m) r no_node u ∙ get_or-drop i m r no_node ∙ a (i + r) (omega arith) (omega arith) ∙ sym (get_or-drop i n r no_node) ∙ sym (get_or-take (size_at n i) (drop i n) r no_node (omega arith)))

-- a tree and its touched places, before and after some labels are put
record Moved (t : Forest) (u : List Bool) (t' : Forest) (u' : List Bool) : Type 0 where
  long : length t' ≡ length t
  sized : (q : ℕ) → size_at t' q ≡ size_at t q
  touches : length u' ≡ length u
  rest : (q : ℕ) → get_or u' q false ≡ false → (get_or u q false ≡ false) × (get_or t q no_node ≡ get_or t' q no_node)

moved_relabel : (t : Forest) (u : List Bool) (p l : ℕ) → length u ≡ length t → Moved t u (relabel t p l) (set u p true)
moved_relabel t u p l e = record {
  long = length_relabel t p l;
  sized = relabel_sized t p l;
  touches = length-set u p true;
  rest = λ q n. ⊎_elim
      (λ (h : p < length t). ⊎_elim (λ d. absurd (both_ways (get_or (set u p true) q false) n (ap (λ (x : ℕ). get_or (set u p true) x false) d ∙ get_or-set_same u p true false (omega arith)))) (λ d. (sym (get_or-set_other u p q true false d) ∙ n, sym (relabel_other t p l q d))) (cases_eq q p))
      (λ (h : length t ≤ p). (ap (λ (x : List Bool). get_or x q false) (sym (set_out u p true (omega arith))) ∙ n, ap (λ (x : Forest). get_or x q no_node) (sym (relabel_out t p l h)))) (cases_lt p (length t));
}

moved_put : (cs : List Change) (t : Forest) (u : List Bool) → length u ≡ length t → Moved t u (put cs t) (touch cs u)
moved_put [] t u e = record { long = refl; sized = λ q. refl; touches = refl; rest = λ q n. (n, refl) }
moved_put (c ∷ cs) t u e =
    let a : Moved t u (relabel t c.place c.label) (set u c.place true) = moved_relabel t u c.place c.label e in
    let b : Moved (relabel t c.place c.label) (set u c.place true) (put cs (relabel t c.place c.label)) (touch cs (set u c.place true)) = moved_put cs (relabel t c.place c.label) (set u c.place true) (a.touches ∙ e ∙ sym a.long) in
    record { long = b.long ∙ a.long; sized = λ q. b.sized q ∙ a.sized q; touches = b.touches ∙ a.touches; rest = λ q n. let (x, y) = b.rest q n in let (v, w) = a.rest q x in (v, w ∙ y) }

-- changes to labels
abbrev Small : List Change → Type 0
Small [] = Unit {0}
Small (c ∷ cs) = (c.label < 32768) × Small cs

abbrev Smalls : List (List Change) → Type 0
Smalls [] = Unit {0}
Smalls (c ∷ cs) = Small c × Smalls cs

law_put : (cs : List Change) (t : Forest) → Small cs → Law t → Law (put cs t)
law_put [] t s h = h
law_put (c ∷ cs) t s h = law_put cs (relabel t c.place c.label) s.1 (relabel_keeps_the_law t c.place c.label h s.0)

-- what holds of a session at every moment
pub record Steady (s : State) : Type 0 where
  pub law : Law s.tree
  pub now : Small (opened s)
  pub before : Smalls s.journal.clicks
  pub touches : length s.look.touched ≡ length s.tree
  pub rows : length s.look.marks ≡ length s.tree
  pub few : length s.patterns ≤ 16
  pub paired : (j : ℕ) → j < length s.patterns → WellFormed (get_or s.patterns j [])
  pub behind : s.look.tried ≤ length s.patterns
  pub right : (i j : ℕ) → i < places s → j < s.look.tried → subtree_touched s i ≡ false → mark s i j ≡ matches s i j
  pub fresh : s.look.stale ≡ false → (i j : ℕ) → i < places s → j < length s.patterns → mark s i j ≡ matches s i j

-- another journal
steady_noted : (s : State) → Steady s → (cs : List (List Change)) (c : Option (List Change)) → Smalls cs → Small (unwrap_or c []) → Steady (noting s cs c)
steady_noted s h cs c x y = record { law = h.law; now = y; before = x; touches = h.touches; rows = h.rows; few = h.few; paired = h.paired; behind = h.behind; right = h.right; fresh = h.fresh }

-- bindings with their places moved are bindings
moved_some : (p q : ℕ) (o : Option Bindings) → is_some (moved_bound p q o) ≡ is_some o
moved_some p q (Some b) = refl
moved_some p q None = refl

-- other labels
steady_put : (s : State) → Steady s → (cs : List Change) → Small cs → Steady (putting s cs)
steady_put s h cs x =
    let t : Forest = put cs s.tree in
    let u : List Bool = touch cs s.look.touched in
    let d : Moved s.tree s.look.touched t u = moved_put cs s.tree s.look.touched h.touches in
    let g : Law t = law_put cs s.tree x h.law in
    record {
      law = g;
      now = h.now;
      before = h.before;
      touches = d.touches ∙ h.touches ∙ sym d.long;
      rows = h.rows ∙ sym d.long;
      few = h.few;
      paired = h.paired;
      behind = h.behind;
      right = λ i j k l n.
          let w : (q : ℕ) → i ≤ q → q < i + size_at t i → get_or u q false ≡ false = untouched u i (size_at t i) n in
          let y : size_at t i ≡ size_at s.tree i = d.sized i in
          let v : subtree_touched s i ≡ false = not_touched s.look.touched i (size_at s.tree i) (λ q a b. (d.rest q (w q a (omega (arith, y)))).0) in
          let i-in : i < length s.tree = omega (arith, d.long) in
          let e : subtree s.tree i ≡ subtree t i = subtree_agrees s.tree t i d.long y (λ q a b. (d.rest q (w q a (omega (arith, y)))).1) in
          h.right i j i-in l v ∙ sym (ap (λ (r : Outcome). is_some r.bound) (subtree_alone s.tree t (get_or s.patterns j []) i i h.law g (h.paired j (omega (arith, h.behind))) i-in k e) ∙ moved_some i i (match_at_lem s.tree (get_or s.patterns j []) i).bound);
      fresh = λ e. absurd (both_ways true e refl);
    }

-- a new pattern
module _ (ps : List (List Element)) (p : List Element) where
  added_old : (j : ℕ) → j < length ps → get_or (ps ++ (p ∷ [])) j [] ≡ get_or ps j []
  added_old j h = get_or-append ps (p ∷ []) [] j h

  added_paired : WellFormed p → ((j : ℕ) → j < length ps → WellFormed (get_or ps j [])) → (j : ℕ) → j < length (ps ++ (p ∷ [])) → WellFormed (get_or (ps ++ (p ∷ [])) j [])
  added_paired g h j k = ⊎_elim (λ l. subst WellFormed (sym (added_old j l)) (h j l))
      (λ (l : length ps ≤ j). subst WellFormed (sym (get_or_at ps p [] [] j (omega (arith, length-append ps (p ∷ []))))) g) (cases_lt j (length ps))

steady_added : (s : State) → Steady s → (p : List Element) → WellFormed p → length s.patterns < 16 → Steady (extending s p)
steady_added s h p g k = record {
  law = h.law;
  now = h.now;
  before = h.before;
  touches = h.touches;
  rows = h.rows;
  few = omega (arith, length-append s.patterns (p ∷ []));
  paired = added_paired s.patterns p g h.paired;
  behind = omega (arith, h.behind, length-append s.patterns (p ∷ []));
  right = λ i j a b n. h.right i j a b n ∙ ap (λ (es : List Element). is_some (match_at_lem s.tree es i).bound) (sym (added_old s.patterns p j (omega (arith, h.behind))));
  fresh = λ e. absurd (both_ways true e refl);
}

-- a table
pub length_tabulate : {A : Type 0} (f : ℕ → A) (n : ℕ) → length (tabulate f n) ≡ n
length_tabulate f zero = refl
length_tabulate f (suc n) = length-append (tabulate f n) (f n ∷ []) ∙ omega (arith, length_tabulate f n)

pub get_d_tabulate : {A : Type 0} (f : ℕ → A) (n i : ℕ) (d : A) → i < n → get_or (tabulate f n) i d ≡ f i
get_d_tabulate f zero i d h = absurd (omega arith)
get_d_tabulate f (suc n) i d h = ⊎_elim (λ (k : i < n). get_or-append (tabulate f n) (f n ∷ []) d i (omega (arith, length_tabulate f n)) ∙ get_d_tabulate f n i d k)
    (λ (k : n ≤ i). let e : n ≡ i = omega arith in get_or_at (tabulate f n) (f n) [] d i (length_tabulate f n ∙ e) ∙ ap f e) (cases_lt i n)

pub rebuilt_right : (s : State) → Steady s → (i j : ℕ) → i < places s → j < length s.patterns → mark (rebuilt s) i j ≡ matches s i j
rebuilt_right s h i j k l =
    ap (λ (r : List Bool). get_or r j false) (get_d_tabulate (λ a. tabulate (λ b. cond (tries s a b) (matches s a b) (mark s a b)) 16) (length s.look.marks) i [] (omega (arith, h.rows)))
    ∙ get_d_tabulate (λ b. cond (tries s i b) (matches s i b) (mark s i b)) 16 j false (omega (arith, h.few))
    ∙ cond_both (tries s i j) (matches s i j) (mark s i j) (λ (x : Bool). x ≡ matches s i j) (λ e. refl) (λ e. let (a, b) = or_parts (leb s.look.tried j) (subtree_touched s i) (ap (λ (t : Bool). t && (leb s.look.tried j || subtree_touched s i)) (sym (lt-ltb j (length s.patterns) l)) ∙ e) in
    h.right i j k (leb-false s.look.tried j a) b)

pub rebuilt_rows : (s : State) → Steady s → length (rebuilt s).look.marks ≡ places s
rebuilt_rows s h = length_tabulate (λ i. tabulate (λ j. cond (tries s i j) (matches s i j) (mark s i j)) 16) (length s.look.marks) ∙ h.rows

steady_rebuilt : (s : State) → Steady s → Steady (rebuilt s)
steady_rebuilt s h = record {
  law = h.law;
  now = h.now;
  before = h.before;
  touches = length-replicate (length s.look.touched) false ∙ h.touches;
  rows = rebuilt_rows s h;
  few = h.few;
  paired = h.paired;
  behind = omega arith;
  right = λ i j a b n. rebuilt_right s h i j a b;
  fresh = λ e. rebuilt_right s h;
}

steady_went : {s t : State} {c : Call} {a : Answer} → Went s c t a → ((p : List Element) → add p ≡ c → WellFormed p) → Steady s → Steady t
steady_went (stayed e) f h = h
steady_went asked f h = h
steady_went {s} (opens e i) f h = steady_noted s h s.journal.clicks (Some []) h.before tt
steady_went {s} (changes {p = p} {l = l} g e i j x) f h = steady_noted (putting s (record { place = p; label = l } ∷ [])) (steady_put s h (record { place = p; label = l } ∷ []) (x, tt)) s.journal.clicks (Some (record { place = p; label = label_at s.tree p } ∷ opened s)) h.before (h.law.labels p i, h.now)
steady_went {s} (commits g e) f h = steady_noted s h (opened s ∷ s.journal.clicks) None (h.now, h.before) tt
steady_went {s} (abandons g e) f h = steady_noted (putting s (opened s)) (steady_put s h (opened s) h.now) s.journal.clicks None h.before tt
steady_went {s} (undoes {c = c} {cs = cs} e i) f h = let b : Smalls (c ∷ cs) = subst Smalls i h.before in steady_noted (putting s c) (steady_put s h c b.0) cs None b.1 tt
steady_went {s} (settles e) f h = steady_noted s h [] None tt tt
steady_went {s} (adds {p = p} e i) f h = steady_added s h p (f p refl) i
steady_went {s} (rebuilds e) f h = steady_rebuilt s h

steady_from : (s : State) (cs : List Call) → ((p : List Element) → Memᴰ (add p) cs → WellFormed p) → Steady s → Steady (run s cs)
steady_from s [] f h = h
steady_from s (c ∷ cs) f h = steady_from (after s c) cs (λ p i. f p (Memᴰ.tail i)) (steady_went (went s c) (λ p e. f p (Memᴰ.head e)) h)

steady_making : (m : Forest) → Law m → (a : ℕ) → Steady (making m a)
steady_making m l a = record { law = l; now = tt; before = tt; touches = length-replicate (length m) false; rows = length-replicate (length m) (replicate 16 false); few = omega arith; paired = λ j k. absurd (omega arith); behind = omega arith; right = λ i j k x n. absurd (omega arith); fresh = λ e i j x y. absurd (omega arith) }

pub steady : {m : Forest} {a : ℕ} {cs : List Call} {s : State} → Reached m a cs s → Steady s
steady {m} {a} {cs} r = subst Steady r.by_calls (steady_from (making m a) cs r.patterned (steady_making m r.lawful a))
