-- The steps of writing an image.
use Rattle.std.proofs.Common.{◌≡◌, ℕ, ◌+◌, ◌*◌, ◌<◌, ◌≤◌, List, [], ◌∷◌, ◌++◌, length, get_or, take, drop, Ok, sym, refl, ap, ◌∙◌, append_assoc, arith}
use borrow.Rule.Slice.PartMut.{put_mid}
use Rattle.std.proofs.lemmas.List.{take_more, take_all, take_at, drop_at, drop-drop, length-take-le}
use Rattle.trees.specs.Forest.{Node, Forest, Law, no_node, size_at, label_at}
use Rattle.trees.specs.Questions.{label_answer, size_answer}
use Rattle.trees.specs.Images.{image_of, node_bytes}
use Rattle.trees.specs.Writing.{ReadsBack}
use Rattle.trees.proofs.Comparing.{label_inside, size_inside}
use Rattle.trees.proofs.ImageOf.{length_image, image_taken, image_meant}

-- the questions inside the tree
pub size_is : (m : Forest) (p n : ℕ) → p < length m → size_answer m p ≡ Ok n → n ≡ size_at m p
size_is m p n h e = let f = size_inside m p h in cc

pub label_is : (m : Forest) (p n : ℕ) → p < length m → label_answer m p ≡ Ok n → n ≡ label_at m p
label_is m p n h e = let f = label_inside m p h in cc

image_push : (m : Forest) (a : Node) → image_of (m ++ a ∷ []) ≡ image_of m ++ node_bytes a
image_push [] a = refl
image_push (b ∷ m) a = ap (λ t. node_bytes b ++ t) (image_push m a) ∙ sym (append_assoc (node_bytes b) (image_of m) (node_bytes a))

pub length_front : (m : Forest) (p : ℕ) → p ≤ length m → length (image_of (take p m)) ≡ 6 * p
length_front m p h = length_image (take p m) ∙ ap (λ n. 6 * n) (length-take-le p m h)

-- one more record
pub write_more : (m : Forest) (p k : ℕ) (was out ys : List ℕ) → p < length m → k ≡ 6 → out ≡ image_of (take p m) ++ drop (6 * p) was → ys ≡ node_bytes (get_or m p no_node) → put_mid (6 * p) k out ys ≡ image_of (take (p + 1) m) ++ drop (6 * (p + 1)) was
write_more m p k was out ys h e o y =
    let front = image_of (take p m) in
    let long : length front ≡ 6 * p = length_front m p (omega arith) in
    let a : take (6 * p) out ≡ front = ap (take (6 * p)) o ∙ take_at front (drop (6 * p) was) (6 * p) long in
    let n : 6 * p + 6 ≡ 6 * (p + 1) = omega arith in
    let b : drop k (drop (6 * p) out) ≡ drop (6 * (p + 1)) was =
    (λ i. drop (e i) (drop (6 * p) (o i))) ∙ ap (drop 6) (drop_at front (drop (6 * p) was) (6 * p) long) ∙ drop-drop 6 (6 * p) was ∙ ap (λ j. drop j was) n in
    let c : image_of (take (p + 1) m) ≡ front ++ node_bytes (get_or m p no_node) = ap image_of (take_more m p no_node h) ∙ image_push (take p m) (get_or m p no_node) in
    (λ i. a i ++ (y i ++ b i)) ∙ sym (append_assoc front (node_bytes (get_or m p no_node)) (drop (6 * (p + 1)) was)) ∙ ap (λ t. t ++ drop (6 * (p + 1)) was) (sym c)

-- all is written
pub write_all : (m : Forest) (p : ℕ) (was out : List ℕ) → p ≡ length m → out ≡ image_of (take p m) ++ drop (6 * p) was → out ≡ image_of m ++ drop (6 * length m) was
write_all m p was out e o = o ∙ (λ i. image_of (take (e i) m) ++ drop (6 * e i) was) ∙ ap (λ t. image_of t ++ drop (6 * length m) was) (take_all (length m) m (omega arith))

-- what is written reads back
pub reads_back : (m : Forest) (n : ℕ) (rest out : List ℕ) → Law m → n ≡ 6 * length m → out ≡ image_of m ++ rest → ReadsBack m (take n out)
reads_back m n rest out h e o =
    let is : take n out ≡ image_of m = ap (take n) o ∙ take_at (image_of m) rest n (length_image m ∙ sym e) in
    (ap Rattle.trees.specs.Images.image_answer is ∙ image_taken m h, image_meant (take n out) m h is)
