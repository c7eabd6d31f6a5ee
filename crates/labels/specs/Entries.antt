-- The entries of a label book, and the first fault of bytes that are none.
use Rattle.std.specs.Prelude.{ℕ, zero, suc, ◌+◌, ◌-◌, ◌<◌, Bool, true, cond, not, ◌&&◌, ◌||◌, List, [], ◌∷◌, length, take, drop, is_some, Some, None, Ok, Err, Option, Result, ◌==◌, nat_le, nat_lt}
use Rattle.std.specs.List.{AllByRecursion, list_all}
use Rattle.std.specs.Str.{bytes_eq}
use Rattle.records.specs.Heads.{length_of, kind_of}
use Rattle.refusals.specs.declared.Cause.{Cause}
use Rattle.refusals.specs.declared.Cause.TheVariants.{BadLength, BadLabel, BadName, UnknownName, TooMany}
use Rattle.refusals.specs.declared.Layer.TheVariants.{Book}
use Rattle.refusals.specs.declared.Refusal.{Refusal}
use Rattle.refusals.specs.Numbers.{refused}

-- An entry of a book: a label and its name. Lists of entries have the last entry first.
pub record Entry : Type 0 where
  pub label : ℕ
  pub name : List ℕ

-- Entries as pairs.
abbrev pub pairs : List Entry → List (ℕ × List ℕ)
pairs [] = []
pairs (e ∷ es) = (e.label, e.name) ∷ pairs es

-- A byte that may stand in a name: from 33 to 126, and not the quote.
abbrev pub name_byte : ℕ → Bool
name_byte b = nat_le 33 b && (nat_le b 126 && not (b == 39))

-- A name has 1 to 64 bytes, and each may stand in one.
abbrev pub good_name : List ℕ → Bool
good_name n = nat_lt 0 (length n) && (nat_le (length n) 64 && list_all name_byte n)

-- The label whose name this is.
abbrev pub label_of : List Entry → List ℕ → Option ℕ
label_of [] n = None
label_of (e ∷ es) n = cond (bytes_eq e.name n) (Some e.label) (label_of es n)

-- The name of a label.
abbrev pub name_of : List Entry → ℕ → Option (List ℕ)
name_of [] l = None
name_of (e ∷ es) l = cond (e.label == l) (Some e.name) (name_of es l)

-- A label is above the last one.
abbrev pub above_last : List Entry → ℕ → Bool
above_last [] l = true
above_last (e ∷ es) l = nat_lt e.label l

-- Each label is above all before it.
abbrev pub Rising : List Entry → Type 0
Rising [] = Unit {0}
Rising (e ∷ es) = AllByRecursion (λ d. d.label < e.label) es × Rising es

-- The entry whose record the bytes begin with.
abbrev pub first_entry : List ℕ → Entry
first_entry bs = record { label = kind_of bs; name = take (length_of bs - 6) (drop 6 bs) }

-- The bytes do not begin with a whole record.
abbrev pub bad_length : List ℕ → Bool
bad_length bs = nat_lt (length bs) 6 || (nat_lt (length_of bs) 6 || nat_lt (length bs) (length_of bs))

-- A label cannot follow these entries.
abbrev pub bad_label : List Entry → ℕ → Bool
bad_label es l = nat_lt 32767 l || not (above_last es l)

-- A name cannot follow these entries.
abbrev pub bad_name : List Entry → List ℕ → Bool
bad_name es n = not (good_name n) || is_some (label_of es n)

-- What is wrong with the record that the bytes begin with, where these entries stand before it.
abbrev pub fault : List Entry → List ℕ → Option Cause
fault es bs =
    cond (bad_length bs) (Some BadLength)
    (cond (bad_label es (first_entry bs).label) (Some BadLabel)
    (cond (bad_name es (first_entry bs).name) (Some BadName)
    (cond (nat_lt 4095 (length es)) (Some TooMany) None)))

-- The entries of what is left of a book, from the byte i on, behind those that stand before it; at most n records are read.
abbrev pub read_on : ℕ → List Entry → ℕ → List ℕ → Result (List Entry) Refusal
read_on zero es i bs = Ok es
read_on (suc n) es i [] = Ok es
read_on (suc n) es i (b ∷ bs) = elim (fault es (b ∷ bs)) [
  | None ↦ read_on n (first_entry (b ∷ bs) ∷ es) (i + length_of (b ∷ bs)) (drop (length_of (b ∷ bs)) (b ∷ bs))
  | Some c ↦ Err (refused c Book i 0)
]

-- The entries of a book, or its first fault.
abbrev pub read_book : List ℕ → Result (List Entry) Refusal
read_book bs = read_on (length bs) [] 0 bs

-- The entries of a book; of bytes that are none, no entry.
abbrev pub entries : List ℕ → List Entry
entries bs = elim (read_book bs) [ Ok es ↦ es | Err f ↦ [] ]

-- How many entries a book has, or its first fault.
abbrev pub counted : Result (List Entry) Refusal → Result ℕ Refusal
counted (Ok es) = Ok (length es)
counted (Err f) = Err f

-- The name of a label in a book that was read, or the refusal of the book, or of the label.
abbrev pub named : Result (List Entry) Refusal → ℕ → Result (List ℕ) Refusal
named (Ok es) l = elim (name_of es l) [ Some n ↦ Ok n | None ↦ Err (refused UnknownName Book 0 0) ]
named (Err f) l = Err f
