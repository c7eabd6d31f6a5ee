-- The head of a record: four bytes of length and two of kind, the low byte first.
use Rattle.std.specs.Prelude.{ℕ, ◌+◌, ◌*◌, ◌/◌, ◌%◌, cond, List, [], ◌∷◌, length, Some, None, Option, nat_lt, slice_index}
use Rattle.records.specs.declared.Head.{Head}

-- The length that the bytes of a record begin with; it counts the whole record.
abbrev pub length_of : List ℕ → ℕ
length_of bs = slice_index bs 0 + slice_index bs 1 * 256 + slice_index bs 2 * 65536 + slice_index bs 3 * 16777216

-- The kind that follows the length.
abbrev pub kind_of : List ℕ → ℕ
kind_of bs = slice_index bs 4 + slice_index bs 5 * 256

-- The head of the record that bytes begin with, if there are six of them.
abbrev pub head_of : List ℕ → Option Head
head_of bs = cond (nat_lt (length bs) 6) None (Some (record { length = length_of bs; kind = kind_of bs }))

-- The six bytes of a head.
abbrev pub head_bytes : Head → List ℕ
head_bytes h = h.length % 256 ∷ h.length / 256 % 256 ∷ h.length / 256 / 256 % 256 ∷ h.length / 256 / 256 / 256 % 256 ∷ h.kind % 256 ∷ h.kind / 256 % 256 ∷ []
