-- Findings counted, written one by one, and found by a scan.
use Rattle.std.proofs.Common.{◌≡◌, ℕ, zero, suc, ◌+◌, ◌<◌, ◌≤◌, Bool, true, false, cond, List, [], ◌∷◌, ◌++◌, length, get_or, take, drop, set, sum_by, count_by, Some, None, Option, sym, refl, ap, ◌∙◌, ⊎_elim, add-one, arith, length-append, length-take}
use Rattle.std.proofs.lemmas.Bool.{cases_lt, cases_Bool, cond-true, cond-false}
use Rattle.std.proofs.lemmas.List.{set_at, drop_more, append_assoc, take_at, take_more, take_all, drop-drop, drop_at}
use Rattle.std.proofs.lemmas.List.Sums.{sum_by_push, count_by_more_yes, count_by_more_no}
use Rattle.std.specs.Option.{ok_or}
use Rattle.refusals.specs.Numbers.{refused as refusal_of}
use Rattle.refusals.specs.declared.Cause.TheVariants.{NoMatch}
use Rattle.refusals.specs.declared.Layer.TheVariants.{Session as SessionLayer}
use Rattle.runs.specs.Session.{State, Question, is_open, mark, marked_at, marked, all_found, finding_first, answering, asking}
use Rattle.sessions.specs.Firsts.{NoneBelow, NoPlaceBelow, IsFirst, First}
use Rattle.sessions.specs.View.{found_answer}

-- a question that is answered
pub asked : (s : State) (q : Question) → is_open s ≡ false → s.look.stale ≡ false → answering s q ≡ asking s q
asked s q a b = sym (cond-false (is_open s) _ _ a ∙ cond-false s.look.stale _ _ b)

-- nothing marked
none_at : (s : State) (i n : ℕ) → NoneBelow s i n → marked_at s i n ≡ []
none_at s i zero h = refl
none_at s i (suc n) h = ap (λ x. x ++ cond (mark s i n) ((i, n) ∷ []) []) (none_at s i n (λ j l. h j (omega arith))) ∙ cond-false (mark s i n) _ _ (h n (omega arith))

none : (s : State) (n : ℕ) → NoPlaceBelow s n → marked s n ≡ []
none s zero h = refl
none s (suc n) h = ap (λ x. x ++ marked_at s n (length s.patterns)) (none s n (λ i l. h i (omega arith))) ∙ none_at s n (length s.patterns) (h n (omega arith))

-- a list that begins with an element
record Begins (f : ℕ × ℕ) (xs : List (ℕ × ℕ)) : Type 0 where
  rest : List (ℕ × ℕ)
  is : xs ≡ f ∷ rest

begins_more : (f : ℕ × ℕ) (xs ys : List (ℕ × ℕ)) → Begins f xs → Begins f (xs ++ ys)
begins_more f xs ys b = record { rest = b.rest ++ ys; is = ap (λ x. x ++ ys) b.is }

begins_behind : (f : ℕ × ℕ) (xs ys : List (ℕ × ℕ)) → xs ≡ [] → Begins f ys → Begins f (xs ++ ys)
begins_behind f xs ys e b = record { rest = b.rest; is = ap (λ x. x ++ ys) e ∙ b.is }

hit_at : (s : State) (i j n : ℕ) → NoneBelow s i j → mark s i j ≡ true → j < n → Begins (i, j) (marked_at s i n)
hit_at s i j zero b e h = absurd (omega arith)
hit_at s i j (suc n) b e h = ⊎_elim
    (λ (l : j < n). begins_more (i, j) (marked_at s i n) (cond (mark s i n) ((i, n) ∷ []) []) (hit_at s i j n b e l))
    (λ (l : n ≤ j).
    let q : n ≡ j = omega arith in
    begins_behind (i, j) (marked_at s i n) (cond (mark s i n) ((i, n) ∷ []) []) (none_at s i n (λ k m. b k (omega arith))) (record { rest = []; is = cond-true (mark s i n) ((i, n) ∷ []) [] (ap (mark s i) q ∙ e) ∙ ap (λ (k : ℕ). (i, k) ∷ []) q }))
    (cases_lt j n)

hit : (s : State) (i j n : ℕ) → IsFirst s i j → i < n → Begins (i, j) (marked s n)
hit s i j zero b h = absurd (omega arith)
hit s i j (suc n) b h = ⊎_elim
    (λ (l : i < n). begins_more (i, j) (marked s n) (marked_at s n (length s.patterns)) (hit s i j n b l))
    (λ (l : n ≤ i).
    let q : n ≡ i = omega arith in
    let here = hit_at s i j (length s.patterns) b.there b.hit b.pattern in
    begins_behind (i, j) (marked s n) (marked_at s n (length s.patterns)) (none s n (λ k m. b.lowest k (omega arith))) (record { rest = here.rest; is = ap (λ k. marked_at s k (length s.patterns)) q ∙ here.is }))
    (cases_lt i n)

-- what a scan finds is what a question for the first finding is told
pub first_told : (s : State) (o : Option (ℕ × ℕ)) → First s o → found_answer (ok_or o (refusal_of NoMatch SessionLayer 0 0)) ≡ finding_first (all_found s)
first_told s None h = sym (ap finding_first (none s (length s.look.marks) h))
first_told s (Some f) h = sym (ap finding_first (hit s f.0 f.1 (length s.look.marks) h h.place).is)

-- one pattern more at a place
pub marked_more : (s : State) (i n : ℕ) → mark s i n ≡ true → marked_at s i (n + 1) ≡ marked_at s i n ++ ((i, n) ∷ [])
marked_more s i n e = ap (marked_at s i) (add-one n) ∙ ap (λ x. marked_at s i n ++ x) (cond-true (mark s i n) ((i, n) ∷ []) [] e)

append_none : (xs : List (ℕ × ℕ)) → xs ++ [] ≡ xs
append_none [] = refl
append_none (x ∷ xs) = ap (λ y. x ∷ y) (append_none xs)

pub marked_same : (s : State) (i n : ℕ) → mark s i n ≡ false → marked_at s i (n + 1) ≡ marked_at s i n
marked_same s i n e = ap (marked_at s i) (add-one n) ∙ ap (λ x. marked_at s i n ++ x) (cond-false (mark s i n) ((i, n) ∷ []) [] e) ∙ append_none (marked_at s i n)

pub counted_more : (s : State) (i n : ℕ) → mark s i n ≡ true → length (marked_at s i (n + 1)) ≡ length (marked_at s i n) + 1
counted_more s i n e = ap length (marked_more s i n e) ∙ length-append (marked_at s i n) ((i, n) ∷ [])

pub at_most : (s : State) (i n k : ℕ) → n ≤ k → length (marked_at s i n) ≤ length (marked_at s i k)
at_most s i n zero h = let z : n ≡ 0 = omega arith in omega (arith, ap (λ x. length (marked_at s i x)) z)
at_most s i n (suc k) h = ⊎_elim
    (λ (l : n < suc k). omega (arith, at_most s i n k (omega arith), length-append (marked_at s i k) (cond (mark s i k) ((i, k) ∷ []) [])))
    (λ (l : suc k ≤ n). let z : n ≡ suc k = omega arith in omega (arith, ap (λ x. length (marked_at s i x)) z))
    (cases_lt n (suc k))

-- one place more
pub placed_more : (s : State) (i : ℕ) → marked s (i + 1) ≡ marked s i ++ marked_at s i (length s.patterns)
placed_more s i = ap (marked s) (add-one i)

pub counted_place : (s : State) (i : ℕ) → length (marked s (i + 1)) ≡ length (marked s i) + length (marked_at s i (length s.patterns))
counted_place s i = ap length (placed_more s i) ∙ length-append (marked s i) (marked_at s i (length s.patterns))

pub at_most_places : (s : State) (i n : ℕ) → i ≤ n → length (marked s i) ≤ length (marked s n)
at_most_places s i zero h = let z : i ≡ 0 = omega arith in omega (arith, ap (λ x. length (marked s x)) z)
at_most_places s i (suc n) h = ⊎_elim
    (λ (l : i < suc n). omega (arith, at_most_places s i n (omega arith), length-append (marked s n) (marked_at s n (length s.patterns))))
    (λ (l : suc n ≤ i). let z : i ≡ suc n = omega arith in omega (arith, ap (λ x. length (marked s x)) z))
    (cases_lt i (suc n))

-- one finding written behind others
pub written_one : (out fs : List (ℕ × ℕ)) (from n : ℕ) (x : ℕ × ℕ) → n ≡ from + length fs → n < length out → set (take from out ++ (fs ++ drop n out)) n x ≡ take from out ++ ((fs ++ (x ∷ [])) ++ drop (n + 1) out)
written_one out fs from n x e h =
    let long : length (take from out ++ fs) ≡ n = length-append (take from out) fs ∙ omega (arith, length-take from out) in
    ap (λ y. set y n x) (sym (append_assoc (take from out) fs (drop n out)) ∙ ap (λ y. (take from out ++ fs) ++ y) (drop_more out n (0, 0) h))
    ∙ set_at (take from out ++ fs) (get_or out n (0, 0)) (drop (n + 1) out) x n long
    ∙ append_assoc (take from out) fs (x ∷ drop (n + 1) out)
    ∙ ap (λ y. take from out ++ y) (sym (append_assoc fs (x ∷ []) (drop (n + 1) out)))

-- the findings of a place written behind those of the places before
pub written_place : (o out fs gs : List (ℕ × ℕ)) (n r : ℕ) → n ≡ length fs → r ≡ n + length gs → o ≡ fs ++ drop n out → take n o ++ (gs ++ drop r o) ≡ (fs ++ gs) ++ drop r out
written_place o out fs gs n r e q w =
    let front : take n o ≡ fs = ap (take n) w ∙ take_at fs (drop n out) n (sym e) in
    let back : drop r o ≡ drop r out = ap (λ k. drop k o) q ∙ sym (drop-drop (length gs) n o) ∙ ap (drop (length gs)) (ap (drop n) w ∙ drop_at fs (drop n out) n (sym e)) ∙ drop-drop (length gs) n out ∙ ap (λ k. drop k out) (sym q) in
    (λ i. front i ++ (gs ++ back i)) ∙ sym (append_assoc fs gs (drop r out))

-- the findings counted row by row
abbrev pub hits : ℕ → List Bool → ℕ
hits n r = count_by (λ (b : Bool). b) (take n r)

counted_at : (s : State) (i n : ℕ) → n ≤ length (get_or s.look.marks i []) → length (marked_at s i n) ≡ hits n (get_or s.look.marks i [])
counted_at s i zero h = refl
counted_at s i (suc n) h =
    let row = get_or s.look.marks i [] in
    let more : length (marked_at s i (suc n)) ≡ length (marked_at s i (n + 1)) = ap (λ (k : ℕ). length (marked_at s i k)) (sym (add-one n)) in
    let back : hits (n + 1) row ≡ hits (suc n) row = ap (λ (k : ℕ). hits k row) (add-one n) in
    let few : n ≤ length (get_or s.look.marks i []) = omega arith in
    let inside : n < length (get_or s.look.marks i []) = omega arith in
    ⊎_elim
    (λ (t : mark s i n ≡ true). more ∙ counted_more s i n t ∙ ap (λ (k : ℕ). k + 1) (counted_at s i n few) ∙ sym (count_by_more_yes (λ (b : Bool). b) row n false inside t) ∙ back)
    (λ (t : mark s i n ≡ false). more ∙ ap length (marked_same s i n t) ∙ counted_at s i n few ∙ sym (count_by_more_no (λ (b : Bool). b) row n false inside t) ∙ back)
    (cases_Bool (mark s i n))

counted_rows : (s : State) → ((i : ℕ) → i < length s.look.marks → length s.patterns ≤ length (get_or s.look.marks i [])) → (n : ℕ) → n ≤ length s.look.marks → length (marked s n) ≡ sum_by (hits (length s.patterns)) (take n s.look.marks)
counted_rows s w zero h = refl
counted_rows s w (suc n) h =
    let inside : n < length s.look.marks = omega arith in
    length-append (marked s n) (marked_at s n (length s.patterns))
    ∙ (λ i. counted_rows s w n (omega arith) i + counted_at s n (length s.patterns) (w n inside) i)
    ∙ sym (sum_by_push (hits (length s.patterns)) (take n s.look.marks) (get_or s.look.marks n []))
    ∙ ap (sum_by (hits (length s.patterns))) (sym (take_more s.look.marks n [] inside))
    ∙ ap (λ (k : ℕ). sum_by (hits (length s.patterns)) (take k s.look.marks)) (add-one n)

pub counted_all : (s : State) → ((i : ℕ) → i < length s.look.marks → length s.patterns ≤ length (get_or s.look.marks i [])) → length (all_found s) ≡ sum_by (hits (length s.patterns)) s.look.marks
counted_all s w = counted_rows s w (length s.look.marks) (omega arith) ∙ ap (sum_by (hits (length s.patterns))) (take_all (length s.look.marks) s.look.marks (omega arith))
