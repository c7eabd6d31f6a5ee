-- The steps of the walk that checks an image.
use Rattle.std.proofs.Common.{◌≡◌, ℕ, ◌+◌, ◌-◌, ◌/◌, ◌<◌, List, [], ◌∷◌, ◌++◌, length, get_or, reverse, Option, refl, sym, ap, ◌∙◌, subst, arith}
use Rattle.std.specs.Prelude.{slice_get}
use Rattle.std.specs.Option.{unwrap_or}
use Rattle.std.proofs.lemmas.List.{get_or-reverse, length-reverse, reverse-append}
use Rattle.std.proofs.lemmas.Option.{unwrap_or-slice_get}
use Rattle.refusals.specs.declared.Cause.{Cause}
use Rattle.trees.specs.Forest.{size_at}
use Rattle.trees.specs.Images.{length_in, image_nodes, around, inner_end, place_fault, image_fault}
use Rattle.trees.specs.Opened.{popped}
use Rattle.trees.specs.Opens.{Nested, Opened, opened_more}
use Rattle.trees.specs.Imaging.{FitsAt, nested_fit, size_read}

-- the innermost end is the last that is kept
pub last_end : (whole : ℕ) (es : List ℕ) → unwrap_or (slice_get es (length es - 1)) whole ≡ inner_end whole (reverse es)
last_end whole es = unwrap_or-slice_get es (length es - 1) whole ∙ last_is es ∙ sym (first_is (reverse es))
  where
    first_is : (xs : List ℕ) → inner_end whole xs ≡ get_or xs 0 whole
    first_is [] = refl
    first_is (x ∷ xs) = refl

    last_is : (xs : List ℕ) → get_or xs (length xs - 1) whole ≡ get_or (reverse xs) 0 whole
    last_is [] = refl
    last_is (x ∷ xs) = let z : length (x ∷ xs) - 1 ≡ length (x ∷ xs) - 1 - 0 = omega arith in ap (λ k. get_or (x ∷ xs) k whole) z ∙ sym (get_or-reverse (x ∷ xs) 0 whole (omega arith))

-- what is wrong with the record of a place is told by the ends around it
pub walk_fault : (bs : List ℕ) (p depth end : ℕ) (es : List ℕ) (o : Option Cause) → reverse es ≡ around (image_nodes bs) p p → depth ≡ length es → end ≡ inner_end (length bs / 6) (reverse es) → place_fault bs p depth end ≡ o → image_fault bs p ≡ o
walk_fault bs p depth end es o a d e f =
    let deep : length (around (image_nodes bs) p p) ≡ depth = ap length (sym a) ∙ length-reverse es ∙ sym d in
    let inner : inner_end (length bs / 6) (around (image_nodes bs) p p) ≡ end = ap (inner_end (length bs / 6)) (sym a) ∙ sym e in
    (λ i. place_fault bs p (deep i) (inner i)) ∙ f

-- the walk goes on
pub walk_more : (bs : List ℕ) (p size : ℕ) (was es : List ℕ) → p < length bs / 6 → ((q : ℕ) → q < p + 1 → FitsAt bs q) → Opened (image_nodes bs) p (reverse was) → reverse es ≡ popped p (reverse was) → size ≡ length_in bs p / 6 → Opened (image_nodes bs) (p + 1) (reverse (es ++ (p + size) ∷ []))
walk_more bs p size was es l fits w t h =
    let s : Nested (image_nodes bs) (p + 1) = nested_fit bs (p + 1) (omega arith) fits in
    let end : p + size ≡ p + size_at (image_nodes bs) p = ap (λ n. p + n) (h ∙ sym (size_read bs p l)) in
    subst (Opened (image_nodes bs) (p + 1)) (sym (reverse-append es ((p + size) ∷ []))) (opened_more (image_nodes bs) p (p + size) (reverse was) (reverse es) s w t end)
