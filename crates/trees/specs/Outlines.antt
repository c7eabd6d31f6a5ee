-- Outlines: which records are one, what they mean, and the outline of a tree.
use Rattle.std.specs.Prelude.{ℕ, zero, suc, ◌+◌, cond, ◌&&◌, ◌||◌, List, [], ◌∷◌, map, length, get_or, is_ok, Some, None, Err, Option, Result, ◌==◌, nat_lt, slice_index_or}
use Rattle.std.specs.List.{range_with_len}
use Rattle.refusals.specs.declared.Cause.{Cause}
use Rattle.refusals.specs.declared.Cause.TheVariants.{OneTree, BadLength, BadLabel, TooMany}
use Rattle.refusals.specs.declared.Layer.TheVariants.{Tree}
use Rattle.refusals.specs.declared.Refusal.{Refusal}
use Rattle.refusals.specs.Numbers.{refused}
use Rattle.trees.specs.declared.record.Record.{Record}
use Rattle.trees.specs.Forest.{Forest, enclosing, label_at}
use Rattle.trees.specs.Scan.{scan, leaf}

-- What is read where there is no record.
abbrev pub no_record : Record
no_record = record { depth = 0; label = 0 }

-- The greatest depth that the record of a number may have: 0 for the first, else one more than the record before.
abbrev pub depth_limit : List Record → ℕ → ℕ
depth_limit rs zero = 0
depth_limit rs (suc i) = (get_or rs i no_record).depth + 1

-- What is wrong with the record of a number whose depth may be up to a limit; of several faults the first one here.
abbrev pub record_fault : ℕ → ℕ → Record → Option Cause
record_fault i limit r =
    cond (nat_lt 0 i && r.depth == 0) (Some OneTree)
    (cond (nat_lt limit r.depth) (Some BadLength)
    (cond (nat_lt 32767 r.label) (Some BadLabel)
    (cond (nat_lt 4095 i || nat_lt 63 r.depth) (Some TooMany) None)))

-- What is wrong with the record of a number.
abbrev pub outline_fault : List Record → ℕ → Option Cause
outline_fault rs i = record_fault i (depth_limit rs i) (slice_index_or rs i no_record)

-- The answer to the check of an outline: its number of places, or the refusal of the first record at fault.
abbrev pub outline_answer : List Record → Result ℕ Refusal
outline_answer rs = cond (length rs == 0) (Err (refused OneTree Tree 0 0)) (scan (outline_fault rs) (λ i c. refused c Tree i 0) 0 (length rs))

-- How many records come before the first that is no deeper than d.
abbrev pub deeper : ℕ → List Record → ℕ
deeper d [] = 0
deeper d (r ∷ rs) = cond (nat_lt d r.depth) (suc (deeper d rs)) 0

-- The nodes of an outline: the records under a record are the deeper ones that follow it.
abbrev pub outline_nodes : List Record → Forest
outline_nodes [] = []
outline_nodes (r ∷ rs) = record { label = r.label; size = suc (deeper r.depth rs) } ∷ outline_nodes rs

-- What a tree made of records means: their nodes if they are an outline, else a leaf with label 0.
abbrev pub outline_meaning : List Record → Forest
outline_meaning rs = cond (is_ok (outline_answer rs)) (outline_nodes rs) (leaf 0)

-- The outline of a tree: a record for each place, with the number of places above it as the depth.
abbrev pub outline_of : Forest → List Record
outline_of m = map (λ p. record { depth = enclosing m p p; label = label_at m p }) (range_with_len 0 (length m))
