-- What tree text is read into: the records of an outline, or the refusal of the first token at fault.
use Rattle.std.specs.Prelude.{ℕ, ◌+◌, ◌-◌, Bool, true, false, cond, ◌&&◌, ◌||◌, List, [], ◌∷◌, ◌++◌, length, drop, Some, None, Ok, Err, Option, Result, ◌==◌, nat_lt}
use Rattle.refusals.specs.declared.Cause.{Cause}
use Rattle.refusals.specs.declared.Cause.TheVariants.{BadText, UnknownName, Unpaired, OneTree, TooMany, NoRoom}
use Rattle.refusals.specs.declared.Layer.TheVariants.{TreeText, Tree}
use Rattle.refusals.specs.declared.Refusal.{Refusal}
use Rattle.refusals.specs.Numbers.{refused}
use Rattle.labels.specs.Entries.{Entry, label_of}
use Rattle.trees.specs.declared.record.Record.{Record}
use Rattle.texts.specs.Results.{also}
use Rattle.texts.specs.Tokens.{Shape, word, quoted, variable, sign, open_group, close_group, fault, end, Spot}

-- A refusal of tree text at a byte.
abbrev pub tree_fault : Cause → ℕ → Refusal
tree_fault c i = refused c TreeText i 0

-- The record of a node with this name, where d nodes are open and n were read before; or what is wrong with its token at i.
abbrev pub node_answer : List Entry → ℕ → ℕ → List ℕ → ℕ → Result Record Refusal
node_answer es d n w i = elim (label_of es w) [
  | None ↦ Err (tree_fault UnknownName i)
  | Some l ↦
      cond (d == 0 && nat_lt 0 n) (Err (tree_fault OneTree i))
      (cond (nat_lt 4095 n || nat_lt 63 d) (Err (tree_fault TooMany i)) (Ok (record { depth = d; label = l })))
]

-- What is wrong with the end of a text, where d nodes are open and n were read.
abbrev pub end_fault_lem : ℕ → ℕ → Option Cause
end_fault_lem d n = cond (nat_lt 0 d) (Some Unpaired) (cond (n == 0) (Some OneTree) None)

-- What is wrong with a single byte, where d nodes are open, the innermost of which may still be empty.
abbrev pub sign_fault_lem : ℕ → ℕ → Bool → Option Cause
sign_fault_lem b d empty = cond (b == 41) (cond (d == 0 || empty) (Some Unpaired) None) (Some BadText)

-- A token opens a node.
abbrev pub is_open : Shape → Bool
is_open (word w) = false
is_open (quoted w) = false
is_open (variable k w) = false
is_open (sign b) = b == 40
is_open open_group = false
is_open close_group = false
is_open fault = false
is_open end = false

-- The records of a tree text: d nodes are open, the innermost of which may still be empty, these records were read, and these tokens are left, the last of which is the end.
abbrev pub tree_scan : List Entry → ℕ → Bool → List Record → List Spot → Result (List Record) Refusal
tree_scan es d empty rs [] = Ok rs
tree_scan es d empty rs (t ∷ []) = elim (end_fault_lem d (length rs)) [ None ↦ Ok rs | Some c ↦ Err (tree_fault c t.start) ]
tree_scan es d empty rs (t ∷ u ∷ us) = elim t.what [
  | word w ↦
      cond (is_open u.what)
      (also (node_answer es d (length rs) w t.start) (λ r. tree_scan es (d + 1) true (rs ++ (r ∷ [])) us))
      (Err (tree_fault BadText t.start))
  | quoted w ↦ also (node_answer es d (length rs) w t.start) (λ r. tree_scan es d false (rs ++ (r ∷ [])) (u ∷ us))
  | variable k w ↦ Err (tree_fault BadText t.start)
  | sign b ↦ elim (sign_fault_lem b d empty) [ None ↦ tree_scan es (d - 1) false rs (u ∷ us) | Some c ↦ Err (tree_fault c t.start) ]
  | open_group ↦ Err (tree_fault BadText t.start)
  | close_group ↦ Err (tree_fault BadText t.start)
  | fault ↦ Err (tree_fault BadText t.start)
  | end ↦ Err (tree_fault BadText t.start)
]

-- The records of a tree text by a book that was read.
abbrev pub read_records_lem : Result (List Entry) Refusal → List Spot → Result (List Record) Refusal
read_records_lem b ts = also b (λ es. tree_scan es 0 false [] ts)

-- How many records fit into so many slots, or that they are too many.
abbrev pub room_for : ℕ → List Record → Result ℕ Refusal
room_for n rs = cond (nat_lt n (length rs)) (Err (refused NoRoom Tree 0 0)) (Ok (length rs))

-- The answer to the reading of tree text into so many slots.
abbrev pub tree_answer : Result (List Entry) Refusal → List Spot → ℕ → Result ℕ Refusal
tree_answer b ts n = also (read_records_lem b ts) (room_for n)

-- What the slots hold after the reading: the records and then what stood there, or what stood there.
abbrev pub tree_slots : Result (List Entry) Refusal → List Spot → List Record → List Record
tree_slots b ts slots = elim (read_records_lem b ts) [
  | Ok rs ↦ cond (nat_lt (length slots) (length rs)) slots (rs ++ drop (length rs) slots)
  | Err f ↦ slots
]
