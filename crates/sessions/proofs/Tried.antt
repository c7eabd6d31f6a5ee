-- Marks brought up to date pattern by pattern are those that a rebuild has.
use Rattle.std.proofs.Common.{◌≡◌, ℕ, zero, suc, ◌+◌, ◌-◌, ◌<◌, ◌≤◌, Bool, true, false, cond, ◌&&◌, ◌||◌, ltb, leb, List, [], ◌∷◌, ◌++◌, map, length, get_or, take, drop, set, replicate, is_some, is_ok, Some, None, Err, Option, Result, sym, refl, ap, ◌∙◌, subst, ⊎_elim, add-one, one-add, arith, length-set}
use Rattle.std.specs.Bool.{then_some}
use Rattle.std.specs.Option.{option_or}
use Rattle.std.proofs.lemmas.Bool.{cases_lt, cases_eq, cases_Bool, cond-true, cond-false, cond_both, both_ways, lt-ltb, le-ltb, and_left}
use Rattle.std.proofs.lemmas.List.{get_or-take, get_or-drop, get_or-set_same, get_or-set_other, get_or_at, set_at, drop_more, drop_all, append_assoc, append-nil, replicate_more, ext_get_or, length-map}
use Rattle.refusals.specs.declared.Refusal.{Refusal}
use Rattle.patterns.specs.declared.row.Element.{Element}
use Rattle.trees.specs.Forest.{Forest, size_at}
use Rattle.trees.specs.Questions.{no_such_place}
use Rattle.matching.specs.declared.found.Match.{Match}
use Rattle.matching.specs.Rules.{Bindings, Outcome, fails, choose, by_rule, walk, match_at_lem}
use Rattle.matching.specs.Answers.{answered_by, match_answer, steps_of}
use Rattle.runs.specs.Session.{Marks, any, tabulate, total, tries, subtree_touched, rebuilt_marks, rebuild_steps}
use Rattle.sessions.specs.declared.marks.Mark.{Mark}
use Rattle.sessions.specs.Looks.{touched_of, rows_of}
use Rattle.sessions.specs.Tries.{seen, spread_out, Nearest, within, tried_row, all_rows, all_steps}
use Rattle.runs.proofs.Marking.{not_touched, length_tabulate, get_d_tabulate}

-- a test that holds in a row
any_at : (xs : List Bool) (k : ℕ) → get_or xs k false ≡ true → any xs ≡ true
any_at [] k e = absurd (both_ways false refl e)
any_at (true ∷ xs) k e = refl
any_at (false ∷ xs) zero e = absurd (both_ways false refl e)
any_at (false ∷ xs) (suc k) e = any_at xs k e

-- the nearest touched place tells of a whole subtree
pub any_within : (t : List Bool) (p n : ℕ) (o : Option ℕ) → Nearest t p o → any (take n (drop p t)) ≡ within o p n
any_within t p n None h = not_touched t p n (λ q a b. h q a)
any_within t p n (Some a) h = ⊎_elim
    (λ (l : a - p < n).
    let z : p + (a - p) ≡ a = omega (arith, h.0) in
    any_at (take n (drop p t)) (a - p) (get_or-take n (drop p t) (a - p) false l ∙ get_or-drop p t (a - p) false ∙ ap (λ q. get_or t q false) z ∙ h.1) ∙ sym (lt-ltb (a - p) n l))
    (λ (l : n ≤ a - p). not_touched t p n (λ q u v. h.2 q u (omega (arith, h.0))) ∙ sym (le-ltb (a - p) n l))
    (cases_lt (a - p) n)

keeps : (t : List Bool) (p : ℕ) (o : Option ℕ) → get_or t p false ≡ false → Nearest t (p + 1) o → Nearest t p o
keeps t p None e h = λ q a. ⊎_elim (λ (l : q < p + 1). let z : q ≡ p = omega arith in ap (λ x. get_or t x false) z ∙ e) (λ (l : p + 1 ≤ q). h q l) (cases_lt q (p + 1))
keeps t p (Some b) e h = (omega (arith, h.0), h.1, λ q a c. ⊎_elim (λ (l : q < p + 1). let z : q ≡ p = omega arith in ap (λ x. get_or t x false) z ∙ e) (λ (l : p + 1 ≤ q). h.2 q l c) (cases_lt q (p + 1)))

pub nearest_step : (t : List Bool) (p : ℕ) (b : Bool) (o : Option ℕ) → b ≡ get_or t p false → Nearest t (p + 1) o → Nearest t p (option_or (then_some b p) o)
nearest_step t p true o e h = (omega arith, sym e, λ q a c. absurd (omega arith))
nearest_step t p false o e h = keeps t p o (sym e) h

-- lists written from the front
tabulate_more : {A : Type 0} (f : ℕ → A) (n : ℕ) → tabulate f (n + 1) ≡ tabulate f n ++ (f n ∷ [])
tabulate_more f n = ap (tabulate f) (add-one n)

module _ {A : Type 0} (f : ℕ → A) (xs : List A) (p : ℕ) (d : A) (h : p < length xs) where
  pub written_more : set (tabulate f p ++ drop p xs) p (f p) ≡ tabulate f (p + 1) ++ drop (p + 1) xs
  written_more =
      ap (λ y. set (tabulate f p ++ y) p (f p)) (drop_more xs p d h)
      ∙ set_at (tabulate f p) (get_or xs p d) (drop (p + 1) xs) (f p) p (length_tabulate f p)
      ∙ sym (append_assoc (tabulate f p) (f p ∷ []) (drop (p + 1) xs))
      ∙ ap (λ y. y ++ drop (p + 1) xs) (sym (tabulate_more f p))

  pub kept_more : f p ≡ get_or xs p d → tabulate f p ++ drop p xs ≡ tabulate f (p + 1) ++ drop (p + 1) xs
  kept_more e =
      ap (λ y. tabulate f p ++ y) (drop_more xs p d h)
      ∙ ap (λ y. tabulate f p ++ (y ∷ drop (p + 1) xs)) (sym e)
      ∙ sym (append_assoc (tabulate f p) (f p ∷ []) (drop (p + 1) xs))
      ∙ ap (λ y. y ++ drop (p + 1) xs) (sym (tabulate_more f p))

  pub read_here : get_or (tabulate f p ++ drop p xs) p d ≡ get_or xs p d
  read_here = ap (λ y. get_or (tabulate f p ++ y) p d) (drop_more xs p d h) ∙ get_or_at (tabulate f p) (get_or xs p d) (drop (p + 1) xs) d p (length_tabulate f p)

pub written_all : {A : Type 0} (f : ℕ → A) (xs : List A) (p : ℕ) → p ≡ length xs → tabulate f p ++ drop p xs ≡ tabulate f (length xs)
written_all f xs p e = ap (λ y. tabulate f p ++ y) (drop_all p xs (omega arith)) ∙ append-nil (tabulate f p) ∙ ap (tabulate f) e

pub tabulate_same : {A : Type 0} (a : A) (n : ℕ) → tabulate (λ _. a) n ≡ replicate n a
tabulate_same a zero = refl
tabulate_same a (suc n) = ap (λ x. x ++ (a ∷ [])) (tabulate_same a n) ∙ replicate_more n a ∙ ap (λ k. replicate k a) (add-one n)

pub total_more : (f : ℕ → ℕ) (n : ℕ) → total f (n + 1) ≡ total f n + f n
total_more f n = ap (total f) (add-one n)

total_same : (f h : ℕ → ℕ) (n : ℕ) → ((i : ℕ) → i < n → f i ≡ h i) → total f n ≡ total h n
total_same f h zero e = refl
total_same f h (suc n) e = (λ i. total_same f h n (λ j l. e j (omega arith)) i + e n (omega arith) i)

-- a match outside the tree fails
take_none : (n : ℕ) (f : Forest) → f ≡ [] → take n f ≡ []
take_none zero f e = refl
take_none (suc n) f e = ap (take (suc n)) e

fails_outside : (m : Forest) (es : List Element) (p : ℕ) → 1 ≤ length es → length m ≤ p → match_at_lem m es p ≡ fails
fails_outside m [] p h o = absurd (omega arith)
fails_outside m (e ∷ es) p h o =
    ap (λ n. walk n m (e ∷ es) p (p + size_at m p) (replicate 16 None)) (one-add (length m))
    ∙ ap (λ (f : Forest). by_rule (walk (length m) m) m (e ∷ es) p (size_at m p) (p + size_at m p) (replicate 16 None) (choose (e ∷ es) f)) (take_none (p + size_at m p - p) (drop p m) (drop_all p m o))

-- what an answer tells of the outcome
pub record Tells (r : Result Match Refusal) (o : Outcome) : Type 0 where
  pub hit : is_ok r ≡ is_some o.bound
  pub steps : steps_of r ≡ o.steps

tells_answered : (b : Option Bindings) (n : ℕ) → Tells (answered_by b n) (record { bound = b; steps = n })
tells_answered None n = record { hit = refl; steps = refl }
tells_answered (Some x) n = record { hit = refl; steps = refl }

pub tells : (m : Forest) (es : List Element) (p : ℕ) (r : Result Match Refusal) → 1 ≤ length es → r ≡ match_answer m es p → Tells r (match_at_lem m es p)
tells m es p r h e = ⊎_elim
    (λ (l : p < length m). subst (λ x. Tells x (match_at_lem m es p)) (sym (e ∙ cond-true (ltb p (length m)) _ _ (lt-ltb p (length m) l))) (tells_answered (match_at_lem m es p).bound (match_at_lem m es p).steps))
    (λ (l : length m ≤ p). let none : Tells (Err no_such_place) fails = record { hit = refl; steps = refl } in
    subst (λ x. Tells x (match_at_lem m es p)) (sym (e ∙ cond-false (ltb p (length m)) _ _ (le-ltb p (length m) l))) (subst (Tells (Err no_such_place)) (sym (fails_outside m es p h l)) none))
    (cases_lt p (length m))

-- the rows stay as many
pub all_long : (m : Forest) (ps : List (List Element)) (k : ℕ) (t : List Bool) (rows : List (List Bool)) (n : ℕ) → length (all_rows m ps k t rows n) ≡ length rows
all_long m ps k t rows zero = refl
all_long m ps k t rows (suc n) = length_tabulate (tried_row m (get_or ps n []) n (leb k n) t (all_rows m ps k t rows n)) (length (all_rows m ps k t rows n)) ∙ all_long m ps k t rows n

-- the rows after some patterns
module _ (m : Forest) (ps : List (List Element)) (k : ℕ) (t : List Bool) (rows : List (List Bool)) (wide : (i : ℕ) → i < length rows → length (get_or rows i []) ≡ 16) where
  row_is : (n i : ℕ) → i < length rows → get_or (all_rows m ps k t rows (suc n)) i [] ≡ tried_row m (get_or ps n []) n (leb k n) t (all_rows m ps k t rows n) i
  row_is n i h = get_d_tabulate (tried_row m (get_or ps n []) n (leb k n) t (all_rows m ps k t rows n)) (length (all_rows m ps k t rows n)) i [] (omega (arith, all_long m ps k t rows n))

  row_wide : (n i : ℕ) → i < length rows → length (get_or (all_rows m ps k t rows n) i []) ≡ 16
  row_wide zero i h = wide i h
  row_wide (suc n) i h =
      ap length (row_is n i h)
      ∙ cond_both (leb k n || get_or t i false) (set (get_or (all_rows m ps k t rows n) i []) n (is_some (match_at_lem m (get_or ps n []) i).bound)) (get_or (all_rows m ps k t rows n) i []) (λ x. length x ≡ 16)
      (λ _. length-set (get_or (all_rows m ps k t rows n) i []) n (is_some (match_at_lem m (get_or ps n []) i).bound) ∙ row_wide n i h)
      (λ _. row_wide n i h)

  -- what a row has at q
  abbrev mark_at : ℕ → ℕ → ℕ → Bool
  mark_at n i q = cond (ltb q n && (leb k q || get_or t i false)) (is_some (match_at_lem m (get_or ps q []) i).bound) (get_or (get_or rows i []) q false)

  not_yet : (n i q : ℕ) → n ≤ q → mark_at n i q ≡ get_or (get_or rows i []) q false
  not_yet n i q h = cond-false (ltb q n && (leb k q || get_or t i false)) _ _ (and_left (ltb q n) (leb k q || get_or t i false) (le-ltb q n h))

  done_at : (n i q : ℕ) → q < n → mark_at n i q ≡ cond (leb k q || get_or t i false) (is_some (match_at_lem m (get_or ps q []) i).bound) (get_or (get_or rows i []) q false)
  done_at n i q h = ap (λ b. cond (b && (leb k q || get_or t i false)) (is_some (match_at_lem m (get_or ps q []) i).bound) (get_or (get_or rows i []) q false)) (lt-ltb q n h)

  pub row_at : (n i q : ℕ) → n ≤ 16 → i < length rows → q < 16 → get_or (get_or (all_rows m ps k t rows n) i []) q false ≡ mark_at n i q
  row_at zero i q l h r = sym (not_yet 0 i q (omega arith))
  row_at (suc n) i q l h r =
      let x = get_or (all_rows m ps k t rows n) i [] in
      let b = leb k n || get_or t i false in
      let v = is_some (match_at_lem m (get_or ps n []) i).bound in
      ap (λ y. get_or y q false) (row_is n i h)
      ∙ ⊎_elim
      (λ (e : q ≡ n).
      ⊎_elim
      (λ (u : (leb k n || get_or t i false) ≡ true).
      ap (λ y. get_or y q false) (cond-true (leb k n || get_or t i false) (set (get_or (all_rows m ps k t rows n) i []) n (is_some (match_at_lem m (get_or ps n []) i).bound)) (get_or (all_rows m ps k t rows n) i []) u)
      ∙ ap (λ z. get_or (set (get_or (all_rows m ps k t rows n) i []) n (is_some (match_at_lem m (get_or ps n []) i).bound)) z false) e
      ∙ get_or-set_same (get_or (all_rows m ps k t rows n) i []) n (is_some (match_at_lem m (get_or ps n []) i).bound) false (omega (arith, row_wide n i h))
      ∙ sym (ap (mark_at (suc n) i) e ∙ done_at (suc n) i n (omega arith) ∙ cond-true (leb k n || get_or t i false) _ _ u))
      (λ (u : (leb k n || get_or t i false) ≡ false).
      ap (λ y. get_or y q false) (cond-false (leb k n || get_or t i false) (set (get_or (all_rows m ps k t rows n) i []) n (is_some (match_at_lem m (get_or ps n []) i).bound)) (get_or (all_rows m ps k t rows n) i []) u)
      ∙ row_at n i q (omega arith) h r
      ∙ not_yet n i q (omega arith)
      ∙ sym (ap (mark_at (suc n) i) e ∙ done_at (suc n) i n (omega arith) ∙ cond-false (leb k n || get_or t i false) _ _ u ∙ ap (λ z. get_or (get_or rows i []) z false) (sym e)))
      (cases_Bool (leb k n || get_or t i false)))
      (λ (ne : q ≡ n → ⊥).
      cond_both (leb k n || get_or t i false) (set (get_or (all_rows m ps k t rows n) i []) n (is_some (match_at_lem m (get_or ps n []) i).bound)) (get_or (all_rows m ps k t rows n) i []) (λ y. get_or y q false ≡ get_or (get_or (all_rows m ps k t rows n) i []) q false)
      (λ _. get_or-set_other (get_or (all_rows m ps k t rows n) i []) n q (is_some (match_at_lem m (get_or ps n []) i).bound) false ne)
      (λ _. refl)
      ∙ row_at n i q (omega arith) h r
      ∙ ⊎_elim
      (λ (a : q < n). done_at n i q a ∙ sym (done_at (suc n) i q (omega arith)))
      (λ (a : n ≤ q). not_yet n i q a ∙ sym (not_yet (suc n) i q (omega (arith, ne))))
      (cases_lt q n))
      (cases_eq q n)

-- the tests of a rebuild
touched_at : (m : Forest) (ps : List (List Element)) (K : Marks) (i : ℕ) → i < length K.touched → get_or (spread_out m K.touched) i false ≡ subtree_touched (seen m ps K) i
touched_at m ps K i h = get_d_tabulate (λ j. any (take (size_at m j) (drop j K.touched))) (length K.touched) i false h

pub all_rebuilt : (m : Forest) (ps : List (List Element)) (K : Marks) → ((i : ℕ) → i < length K.marks → length (get_or K.marks i []) ≡ 16) → length K.touched ≡ length K.marks → length ps ≤ 16 → all_rows m ps K.tried (spread_out m K.touched) K.marks (length ps) ≡ rebuilt_marks (seen m ps K)
all_rebuilt m ps K wide same few =
    let t = spread_out m K.touched in
    let F = all_rows m ps K.tried (spread_out m K.touched) K.marks (length ps) in
    let s = seen m ps K in
    let G : ℕ → ℕ → Bool = λ i j. cond (tries (seen m ps K) i j) (is_some (match_at_lem m (get_or ps j []) i).bound) (get_or (get_or K.marks i []) j false) in
    ext_get_or [] _ _ (all_long m ps K.tried (spread_out m K.touched) K.marks (length ps) ∙ sym (length_tabulate (λ i. tabulate (G i) 16) (length K.marks))) (λ i h.
    let l : i < length K.marks = omega (arith, all_long m ps K.tried (spread_out m K.touched) K.marks (length ps)) in
    let w = row_wide m ps K.tried (spread_out m K.touched) K.marks wide (length ps) i l in
    ext_get_or false (get_or F i []) (tabulate (G i) 16) (w ∙ sym (length_tabulate (G i) 16)) (λ q r.
    let c : q < 16 = omega arith in
    row_at m ps K.tried (spread_out m K.touched) K.marks wide (length ps) i q few l c
    ∙ ap (λ b. cond (ltb q (length ps) && (leb K.tried q || b)) (is_some (match_at_lem m (get_or ps q []) i).bound) (get_or (get_or K.marks i []) q false)) (touched_at m ps K i (omega arith))
    ∙ sym (get_d_tabulate (G i) 16 q false c))
    ∙ sym (get_d_tabulate (λ a. tabulate (G a) 16) (length K.marks) i [] l))

pub all_stepped : (m : Forest) (ps : List (List Element)) (K : Marks) → length K.touched ≡ length K.marks → all_steps m ps K.tried (spread_out m K.touched) (length K.marks) (length ps) ≡ rebuild_steps (seen m ps K)
all_stepped m ps K same =
    total_same _ _ (length ps) (λ j h. total_same _ _ (length K.marks) (λ i l.
    ap (λ b. cond (leb K.tried j || b) (match_at_lem m (get_or ps j []) i).steps 0) (touched_at m ps K i (omega arith))
    ∙ ap (λ b. cond (b && (leb K.tried j || subtree_touched (seen m ps K) i)) (match_at_lem m (get_or ps j []) i).steps 0) (sym (lt-ltb j (length ps) h))))

-- the marks of places, as the lists of a state
pub rows_wide : (ms : List Mark) (i : ℕ) → i < length (rows_of ms) → length (get_or (rows_of ms) i []) ≡ 16
rows_wide [] i h = absurd (omega arith)
rows_wide (x ∷ ms) zero h = x.wide
rows_wide (x ∷ ms) (suc i) h = rows_wide ms i (omega arith)

pub as_many : (ms : List Mark) → length (touched_of ms) ≡ length (rows_of ms)
as_many ms = length-map ms (λ (x : Mark). x.touched) ∙ sym (length-map ms (λ (x : Mark). x.matched))

pub map_same : {A B : Type 0} (f : A → B) (n : ℕ) (a : A) → map f (replicate n a) ≡ replicate n (f a)
map_same f zero a = refl
map_same f (suc n) a = ap (λ xs. f a ∷ xs) (map_same f n a)
