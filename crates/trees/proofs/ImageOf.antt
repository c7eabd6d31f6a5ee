-- The image of a tree is accepted and means the tree, and accepted bytes are the image of what they mean.
use Rattle.std.proofs.Common.{◌≡◌, ℕ, zero, suc, ◌+◌, ◌*◌, ◌/◌, ◌%◌, ◌<◌, ◌≤◌, List, [], ◌∷◌, ◌++◌, map, length, get_or, drop, is_ok, Ok, Result, sym, refl, ap, ◌∙◌, ⊎_elim, arith}
use Rattle.std.specs.List.{range_with_len}
use Rattle.std.proofs.lemmas.List.{ext_get_or, drop_more, drop_all}
use Rattle.std.proofs.lemmas.Bool.{cases_lt, cond-true}
use Rattle.refusals.specs.declared.Refusal.{Refusal}
use Rattle.trees.specs.Forest.{Node, Forest, Law, no_node, size_at, label_at, enclosing}
use Rattle.trees.specs.Images.{length_in, label_in, node_in, image_nodes, around, inner_end, image_answer, image_meaning, node_bytes, image_of}
use Rattle.trees.specs.Laws.{Bytes, TakesImages, OneImage}
use Rattle.trees.specs.Windows.{sound, fits_whole}
use Rattle.trees.specs.Scan.{leaf}
use Rattle.trees.specs.Enclosing.{under_root}
use Rattle.trees.specs.Opens.{around_in, around_out, around_length}
use Rattle.trees.specs.Imaging.{many, at, FitsAt, Taken, taken, takes, exact, image_law}

pub length_image : (m : Forest) → length (image_of m) ≡ 6 * length m
length_image [] = refl
length_image (a ∷ m) = omega (arith, length_image m)

-- the records of the later places follow the first one
shift : (a : Node) (m : Forest) (p k : ℕ) → get_or (image_of (a ∷ m)) (6 * suc p + k) 0 ≡ get_or (image_of m) (6 * p + k) 0
shift a m p k = let e : 6 * suc p + k ≡ suc (suc (suc (suc (suc (suc (6 * p + k)))))) = omega arith in ap (λ i. get_or (image_of (a ∷ m)) i 0) e

shift_first : (a : Node) (m : Forest) (p : ℕ) → get_or (image_of (a ∷ m)) (6 * suc p) 0 ≡ get_or (image_of m) (6 * p) 0
shift_first a m p = let e : 6 * suc p ≡ suc (suc (suc (suc (suc (suc (6 * p)))))) = omega arith in ap (λ i. get_or (image_of (a ∷ m)) i 0) e

-- the length is written in four bytes
lengths : (m : Forest) (p : ℕ) → p < length m → ((q : ℕ) → q < length m → 6 * size_at m q < 4294967296) → length_in (image_of m) p ≡ 6 * size_at m p
lengths [] p h f = absurd (omega arith)
lengths (a ∷ m) zero h f = let l : 6 * a.size < 4294967296 = f 0 (omega arith) in omega arith
lengths (a ∷ m) (suc p) h f =
    let e₀ = shift_first a m p in
    let e₁ = shift a m p 1 in
    let e₂ = shift a m p 2 in
    let e₃ = shift a m p 3 in
    omega (arith, e₀, e₁, e₂, e₃, lengths m p (omega arith) (λ q l. f (suc q) (omega arith)))

labels : (m : Forest) (p : ℕ) → p < length m → ((q : ℕ) → q < length m → label_at m q < 32768) → label_in (image_of m) p ≡ label_at m p
labels [] p h f = absurd (omega arith)
labels (a ∷ m) zero h f = let l : a.label < 32768 = f 0 (omega arith) in omega arith
labels (a ∷ m) (suc p) h f = omega (arith, shift a m p 4, shift a m p 5, labels m p (omega arith) (λ q l. f (suc q) (omega arith)))

length_of : (m : Forest) → Law m → (p : ℕ) → p < length m → length_in (image_of m) p ≡ 6 * size_at m p
length_of m h p l = lengths m p l (λ q k. omega (arith, fits_whole m (sound m h) q k, h.few_nodes))

label_of : (m : Forest) → Law m → (p : ℕ) → p < length m → label_in (image_of m) p ≡ label_at m p
label_of m h p l = labels m p l h.labels

pub image_means : (m : Forest) → Law m → image_nodes (image_of m) ≡ m
image_means m h =
    let n = length_image m in
    let long : length (image_nodes (image_of m)) ≡ length m = omega (arith, many (image_of m)) in
    ext_get_or no_node (image_nodes (image_of m)) m long (λ p i.
    let l : p < length m = omega arith in
    let a : label_in (image_of m) p ≡ label_at m p = label_of m h p l in
    let b : length_in (image_of m) p / 6 ≡ size_at m p = omega (arith, length_of m h p l) in
    let e : node_in (image_of m) p ≡ get_or m p no_node = λ j. record { label = a j; size = b j } in
    at (image_of m) p (omega arith) ∙ e)

-- the innermost end is one of the ends
inner_all : (m : Forest) (w x p n : ℕ) → x ≤ w → ((k : ℕ) → k < n → p < k + size_at m k → x ≤ k + size_at m k) → x ≤ inner_end w (around m p n)
inner_all m w x p zero a f = a
inner_all m w x p (suc n) a f = ⊎_elim
    (λ h. omega (arith, ap (inner_end w) (around_in m p n h), f n (omega arith) h))
    (λ h. omega (arith, ap (inner_end w) (around_out m p n h), inner_all m w x p n a (λ k i. f k (omega arith))))
    (cases_lt p (n + size_at m n))

image_fits : (m : Forest) → Law m → (p : ℕ) → p < length m → FitsAt (image_of m) p
image_fits m h p l =
    let bs = image_of m in
    let n = length_image m in
    let same : around (image_nodes bs) p p ≡ around m p p = ap (λ t. around t p p) (image_means m h) in
    let whole : length bs / 6 ≡ length m = omega arith in
    let depth : length (around (image_nodes bs) p p) ≡ enclosing m p p = ap length same ∙ around_length m p p in
    let inner : inner_end (length bs / 6) (around (image_nodes bs) p p) ≡ inner_end (length m) (around m p p) = λ i. inner_end (whole i) (same i) in
    let size : length_in bs p ≡ 6 * size_at m p = length_of m h p l in
    record {
      one = λ k. omega (arith, depth, under_root m (sound m h) p l k);
      room = omega arith;
      some = omega (arith, h.sizes p l);
      within = omega (arith, inner, inner_all m (length m) (p + size_at m p) p p (fits_whole m (sound m h) p l) (λ k i j. h.inside k p (omega arith) i j));
      even = omega arith;
      small = omega (arith, label_of m h p l, h.labels p l);
      few = omega (arith, h.few_nodes);
      low = omega (arith, depth, h.shallow p l);
    }

pub image_taken : (m : Forest) → Law m → image_answer (image_of m) ≡ Ok (length m)
image_taken m h =
    let n = length_image m in
    let t : Taken (image_of m) = record { some = omega (arith, h.some_node); each = λ p l. image_fits m h p (omega arith) } in
    let e : length (image_of m) / 6 ≡ length m = omega arith in
    takes (image_of m) t ∙ ap Ok e

-- six bytes at a time
six : (bs : List ℕ) (p : ℕ) → 6 * p + 6 ≤ length bs → drop (6 * p) bs ≡ get_or bs (6 * p) 0 ∷ get_or bs (6 * p + 1) 0 ∷ get_or bs (6 * p + 2) 0 ∷ get_or bs (6 * p + 3) 0 ∷ get_or bs (6 * p + 4) 0 ∷ get_or bs (6 * p + 5) 0 ∷ drop (6 * (p + 1)) bs
six bs p h =
    let a : drop (6 * p) bs ≡ get_or bs (6 * p) 0 ∷ drop (6 * p + 1) bs = drop_more bs (6 * p) 0 (omega arith) in
    let b : drop (6 * p + 1) bs ≡ get_or bs (6 * p + 1) 0 ∷ drop (6 * p + 1 + 1) bs = drop_more bs (6 * p + 1) 0 (omega arith) in
    let c : drop (6 * p + 2) bs ≡ get_or bs (6 * p + 2) 0 ∷ drop (6 * p + 2 + 1) bs = drop_more bs (6 * p + 2) 0 (omega arith) in
    let d : drop (6 * p + 3) bs ≡ get_or bs (6 * p + 3) 0 ∷ drop (6 * p + 3 + 1) bs = drop_more bs (6 * p + 3) 0 (omega arith) in
    let e : drop (6 * p + 4) bs ≡ get_or bs (6 * p + 4) 0 ∷ drop (6 * p + 4 + 1) bs = drop_more bs (6 * p + 4) 0 (omega arith) in
    let f : drop (6 * p + 5) bs ≡ get_or bs (6 * p + 5) 0 ∷ drop (6 * p + 5 + 1) bs = drop_more bs (6 * p + 5) 0 (omega arith) in
    let n₁ : drop (6 * p + 1 + 1) bs ≡ drop (6 * p + 2) bs = let z : 6 * p + 1 + 1 ≡ 6 * p + 2 = omega arith in ap (λ i. drop i bs) z in
    let n₂ : drop (6 * p + 2 + 1) bs ≡ drop (6 * p + 3) bs = let z : 6 * p + 2 + 1 ≡ 6 * p + 3 = omega arith in ap (λ i. drop i bs) z in
    let n₃ : drop (6 * p + 3 + 1) bs ≡ drop (6 * p + 4) bs = let z : 6 * p + 3 + 1 ≡ 6 * p + 4 = omega arith in ap (λ i. drop i bs) z in
    let n₄ : drop (6 * p + 4 + 1) bs ≡ drop (6 * p + 5) bs = let z : 6 * p + 4 + 1 ≡ 6 * p + 5 = omega arith in ap (λ i. drop i bs) z in
    let n₅ : drop (6 * p + 5 + 1) bs ≡ drop (6 * (p + 1)) bs = let z : 6 * p + 5 + 1 ≡ 6 * (p + 1) = omega arith in ap (λ i. drop i bs) z in
    cc

-- the lowest byte of a number, and the rest
split : (x a y : ℕ) → x ≡ a + 256 * y → a < 256 → (a ≡ x % 256) × (x / 256 ≡ y)
split x a y e h = (omega arith, omega arith)

-- a record is what its node is written as
record_is : (bs : List ℕ) (p : ℕ) (rest : List ℕ) → length_in bs p % 6 ≡ 0 → Bytes bs → (get_or bs (6 * p) 0 ∷ get_or bs (6 * p + 1) 0 ∷ get_or bs (6 * p + 2) 0 ∷ get_or bs (6 * p + 3) 0 ∷ get_or bs (6 * p + 4) 0 ∷ get_or bs (6 * p + 5) 0 ∷ rest) ≡ node_bytes (node_in bs p) ++ rest
record_is bs p rest e low =
    let n = length_in bs p in
    let d₁ = get_or bs (6 * p + 1) 0 + 256 * (get_or bs (6 * p + 2) 0 + 256 * get_or bs (6 * p + 3) 0) in
    let s₀ = split (6 * (n / 6)) (get_or bs (6 * p) 0) d₁ (omega arith) (low (6 * p)) in
    let s₁ = split (6 * (n / 6) / 256) (get_or bs (6 * p + 1) 0) (get_or bs (6 * p + 2) 0 + 256 * get_or bs (6 * p + 3) 0) s₀.1 (low (6 * p + 1)) in
    let s₂ = split (6 * (n / 6) / 256 / 256) (get_or bs (6 * p + 2) 0) (get_or bs (6 * p + 3) 0) s₁.1 (low (6 * p + 2)) in
    let s₃ = split (6 * (n / 6) / 256 / 256 / 256) (get_or bs (6 * p + 3) 0) 0 (s₂.1 ∙ omega arith) (low (6 * p + 3)) in
    let s₄ = split (label_in bs p) (get_or bs (6 * p + 4) 0) (get_or bs (6 * p + 5) 0) refl (low (6 * p + 4)) in
    let s₅ = split (label_in bs p / 256) (get_or bs (6 * p + 5) 0) 0 (s₄.1 ∙ omega arith) (low (6 * p + 5)) in
    λ i. s₀.0 i ∷ s₁.0 i ∷ s₂.0 i ∷ s₃.0 i ∷ s₄.0 i ∷ s₅.0 i ∷ rest

records_are : (bs : List ℕ) (p n : ℕ) → length bs ≡ 6 * (p + n) → ((q : ℕ) → q < p + n → length_in bs q % 6 ≡ 0) → Bytes bs → drop (6 * p) bs ≡ image_of (map (node_in bs) (range_with_len p n))
records_are bs p zero l f b = drop_all (6 * p) bs (omega arith)
records_are bs p (suc n) l f b =
    six bs p (omega arith)
    ∙ record_is bs p (drop (6 * (p + 1)) bs) (f p (omega arith)) b
    ∙ ap (λ rest. node_bytes (node_in bs p) ++ rest) (records_are bs (p + 1) n (omega arith) (λ q h. f q (omega arith)) b)

-- accepted bytes are the image of their nodes
pub image_is : (bs : List ℕ) → Taken bs → Bytes bs → bs ≡ image_of (image_nodes bs)
image_is bs t b = records_are bs 0 (length bs / 6) (omega (arith, exact bs t)) (λ q h. (t.each q (omega arith)).even) b

-- what the check answers is exact
pub takes_images : (bs : List ℕ) (r : Result ℕ Refusal) → r ≡ image_answer bs → Bytes bs → TakesImages bs r
takes_images bs r e b = (
  (λ h. let t = taken bs (ap is_ok (sym e) ∙ h) in (image_nodes bs, image_law bs t, image_is bs t b)),
  (λ m h k. e ∙ ap image_answer k ∙ image_taken m h),
)

-- the tree made of a tree's image means that tree
pub image_meant : (bs : List ℕ) (m : Forest) → Law m → bs ≡ image_of m → image_meaning bs ≡ m
image_meant bs m h e = ap image_meaning e ∙ cond-true (is_ok (image_answer (image_of m))) (image_nodes (image_of m)) (leaf 0) (ap is_ok (image_taken m h)) ∙ image_means m h

pub one_image : OneImage
one_image bs cs b c s t e =
    let nodes : image_nodes bs ≡ image_nodes cs = sym (cond-true (is_ok (image_answer bs)) (image_nodes bs) (leaf 0) s) ∙ e ∙ cond-true (is_ok (image_answer cs)) (image_nodes cs) (leaf 0) t in
    image_is bs (taken bs s) b ∙ ap image_of nodes ∙ sym (image_is cs (taken cs t) c)
