-- The same tree, and the questions that tell it; a label that is taken back.
use Rattle.std.proofs.Common.{◌≡◌, ℕ, ◌+◌, ◌<◌, Bool, true, false, ltb, length, get_or, Ok, Err, sym, refl, ap, ◌∙◌, subst, ⊎_elim, arith}
use Rattle.std.specs.Prelude.{slice_index_or}
use Rattle.std.specs.Bool.{MatchBool}
use Rattle.std.specs.List.{range_with_len, AllWithin, HoldsAt}
use Rattle.std.proofs.lemmas.List.FromFn.{length-range_with_len, get_or-range_with_len}
use Rattle.std.proofs.lemmas.List.{ext_get_or}
use Rattle.std.proofs.lemmas.Bool.{cases_lt, cases_Bool, lt-ltb, le-ltb, cond-true, cond-false, true≢false}
use Rattle.trees.specs.Forest.{Forest, no_node, label_at, size_at, relabel, same_node, same}
use Rattle.trees.specs.Questions.{label_answer, size_answer, no_such_place}
use Rattle.trees.specs.Laws.{Alike, MakesAgree}
use Rattle.trees.proofs.Same.{same_node_true, same_node_refl, same_true, same_refl, same_is_equal}
use Rattle.trees.proofs.Relabel.{relabel_goes_back}
use Rattle.trees.proofs.OutlineOf.{outline_meant}
use Rattle.trees.proofs.ImageOf.{image_meant}

abbrev both_here : Forest → Forest → ℕ → Bool
both_here m n p = same_node (get_or m p no_node) (get_or n p no_node)

-- trees are the same at a place, if both have it
abbrev pub HereIs : Forest → Forest → Bool → ℕ → Type 0
HereIs m n b p = p < length m → p < length n → b ≡ both_here m n p

-- trees of one length are told by a test of every place
pub same_answer : (m n : Forest) (r : Bool) → length m ≡ length n → MatchBool r (AllWithin (HereIs m n true) (range_with_len 0 (length m)) 0 (length (range_with_len 0 (length m)))) ((k : ℕ) × (k < length (range_with_len 0 (length m))) × HoldsAt (HereIs m n false) (range_with_len 0 (length m)) k) → r ≡ same m n
same_answer m n true e h =
    let is : m ≡ n = ext_get_or no_node m n e (λ p i.
    let l = length-range_with_len 0 (length m) in
    let x : slice_index_or (range_with_len 0 (length m)) p 0 ≡ p = let z : 0 + p ≡ p = omega arith in get_or-range_with_len 0 (length m) p 0 i ∙ z in
    let t : HereIs m n true p = subst (HereIs m n true) x (h p 0 (omega arith) (omega arith)) in
    same_node_true _ _ (sym (t i (omega arith)))) in
    sym (ap (same m) (sym is) ∙ same_refl m)
same_answer m n false e (k, l, h) =
    let i : k < length m = omega (arith, length-range_with_len 0 (length m)) in
    let x : slice_index_or (range_with_len 0 (length m)) k 0 ≡ k = let z : 0 + k ≡ k = omega arith in get_or-range_with_len 0 (length m) k 0 i ∙ z in
    let t : HereIs m n false k = subst (HereIs m n false) x (h 0) in
    ⊎_elim
    (λ s. absurd (true≢false (sym (same_node_refl (get_or m k no_node)) ∙ ap (λ (f : Forest). same_node (get_or m k no_node) (get_or f k no_node)) (same_true m n s) ∙ sym (t i (omega arith)))))
    (λ f. sym f)
    (cases_Bool (same m n))

-- equal trees answer alike
pub alike : (m n : Forest) → m ≡ n → Alike m n
alike m n e = record { places = ap length e; labels = λ p. ap (λ t. label_answer t p) e; sizes = λ p. ap (λ t. size_answer t p) e }

pub label_inside : (m : Forest) (p : ℕ) → p < length m → label_answer m p ≡ Ok (label_at m p)
label_inside m p h = cond-true (ltb p (length m)) (Ok (label_at m p)) (Err no_such_place) (lt-ltb p (length m) h)

pub size_inside : (m : Forest) (p : ℕ) → p < length m → size_answer m p ≡ Ok (size_at m p)
size_inside m p h = cond-true (ltb p (length m)) (Ok (size_at m p)) (Err no_such_place) (lt-ltb p (length m) h)

-- trees that answer alike are equal
pub told : (m n : Forest) → Alike m n → m ≡ n
told m n a = ext_get_or no_node m n a.places (λ p h.
    let k : p < length n = omega (arith, a.places) in
    let l : label_at m p ≡ label_at n p = let x = label_inside m p h in let y = label_inside n p k in let z = a.labels p in cc in
    let s : size_at m p ≡ size_at n p = let x = size_inside m p h in let y = size_inside n p k in let z = a.sizes p in cc in
    λ i. record { label = l i; size = s i })

pub same_alike : (m n : Forest) (r : Bool) → r ≡ same m n → (r ≡ true → Alike m n) × (Alike m n → r ≡ true)
same_alike m n r e = (λ t. alike m n (same_true m n (sym e ∙ t)), λ a. e ∙ (same_is_equal m n).1 (told m n a))

pub makes_agree : MakesAgree
makes_agree m h = alike _ _ (outline_meant _ m h refl ∙ sym (image_meant _ m h refl))

-- a label that was answered stands inside the tree
pub answered_inside : (m : Forest) (p l : ℕ) → label_answer m p ≡ Ok l → p < length m
answered_inside m p l e = ⊎_elim (λ h. h)
    (λ h. let f : label_answer m p ≡ Err no_such_place = cond-false (ltb p (length m)) (Ok (label_at m p)) (Err no_such_place) (le-ltb p (length m) h) in let z : ◌≡◌ {A = ℕ} 0 1 = cc in absurd (omega arith))
    (cases_lt p (length m))

-- the label that stood there takes a change back
pub put_back : (m n : Forest) (p l old : ℕ) → label_answer m p ≡ Ok old → n ≡ relabel m p l → relabel n p old ≡ m
put_back m n p l old e f =
    let h = answered_inside m p old e in
    let o : old ≡ label_at m p = let x = label_inside m p h in cc in
    (λ i. relabel (f i) p (o i)) ∙ relabel_goes_back m p l h
