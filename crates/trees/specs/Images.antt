-- Images: which bytes are one, what they mean, and the image of a tree.
use Rattle.std.specs.Prelude.{ℕ, zero, suc, ◌+◌, ◌*◌, ◌/◌, ◌%◌, cond, ◌&&◌, ◌||◌, List, [], ◌∷◌, ◌++◌, map, length, is_ok, Some, None, Err, Option, Result, ◌==◌, nat_lt, slice_index}
use Rattle.std.specs.List.{range_with_len, flat_map}
use Rattle.refusals.specs.declared.Cause.{Cause}
use Rattle.refusals.specs.declared.Cause.TheVariants.{OneTree, BadLength, BadLabel, TooMany}
use Rattle.refusals.specs.declared.Layer.TheVariants.{Image}
use Rattle.refusals.specs.declared.Refusal.{Refusal}
use Rattle.refusals.specs.Numbers.{refused}
use Rattle.trees.specs.Forest.{Node, Forest, size_at}
use Rattle.trees.specs.Scan.{scan, leaf}

-- The length that the record of a place gives: four bytes, the lowest first.
abbrev pub length_in : List ℕ → ℕ → ℕ
length_in bs p = slice_index bs (6 * p) + 256 * slice_index bs (6 * p + 1) + 65536 * slice_index bs (6 * p + 2) + 16777216 * slice_index bs (6 * p + 3)

-- The label that the record of a place gives: two bytes, the lower first.
abbrev pub label_in : List ℕ → ℕ → ℕ
label_in bs p = slice_index bs (6 * p + 4) + 256 * slice_index bs (6 * p + 5)

-- The node of a place: a record of six bytes counts for each node of its subtree.
abbrev pub node_in : List ℕ → ℕ → Node
node_in bs p = record { label = label_in bs p; size = length_in bs p / 6 }

-- The nodes of an image.
abbrev pub image_nodes : List ℕ → Forest
image_nodes bs = map (node_in bs) (range_with_len 0 (length bs / 6))

-- The ends of the subtrees that begin before place n and hold place p, the innermost first.
abbrev pub around : Forest → ℕ → ℕ → List ℕ
around m p zero = []
around m p (suc n) = cond (nat_lt p (n + size_at m n)) ((n + size_at m n) ∷ around m p n) (around m p n)

-- The innermost of some ends, or the end of all where there is none.
abbrev pub inner_end : ℕ → List ℕ → ℕ
inner_end whole [] = whole
inner_end whole (e ∷ es) = e

-- What is wrong with the record of a place that lies at a depth and has to end before a place; of several faults the first one here.
abbrev pub place_fault : List ℕ → ℕ → ℕ → ℕ → Option Cause
place_fault bs p depth end =
    cond (nat_lt 0 p && depth == 0) (Some OneTree)
    (cond (nat_lt (length bs) (6 * p + 6)) (Some BadLength)
    (cond (nat_lt (length_in bs p) 6 || (nat_lt end (p + length_in bs p / 6) || nat_lt 0 (length_in bs p % 6))) (Some BadLength)
    (cond (nat_lt 32767 (label_in bs p)) (Some BadLabel)
    (cond (nat_lt 4095 p || nat_lt 63 depth) (Some TooMany) None))))

-- What is wrong with the record of a place.
abbrev pub image_fault : List ℕ → ℕ → Option Cause
image_fault bs p = place_fault bs p (length (around (image_nodes bs) p p)) (inner_end (length bs / 6) (around (image_nodes bs) p p))

-- The answer to the check of an image: its number of places, or the refusal of the first record at fault. Bytes too few for a record count as one.
abbrev pub image_answer : List ℕ → Result ℕ Refusal
image_answer bs = cond (length bs == 0) (Err (refused OneTree Image 0 0)) (scan (image_fault bs) (λ p c. refused c Image (6 * p) 0) 0 ((length bs + 5) / 6))

-- What a tree made of bytes means: their nodes if they are an image, else a leaf with label 0.
abbrev pub image_meaning : List ℕ → Forest
image_meaning bs = cond (is_ok (image_answer bs)) (image_nodes bs) (leaf 0)

-- A number in so many bytes, the lowest first.
abbrev pub number_bytes : ℕ → ℕ → List ℕ
number_bytes zero n = []
number_bytes (suc k) n = n % 256 ∷ number_bytes k (n / 256)

-- The record of a node: the length of its subtree's records in four bytes, and its label in two.
abbrev pub node_bytes : Node → List ℕ
node_bytes a = number_bytes 4 (6 * a.size) ++ number_bytes 2 a.label

-- The image of a tree: the records of its nodes, in order of place.
abbrev pub image_of : Forest → List ℕ
image_of m = flat_map node_bytes m
