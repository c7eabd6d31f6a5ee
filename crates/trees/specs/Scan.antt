-- A scan over records that stops at the first one at fault, and the tree that faulty records give.
use Rattle.std.specs.Prelude.{ℕ, zero, suc, [], ◌∷◌, Some, None, Ok, Err, Option, Result}
use Rattle.refusals.specs.declared.Cause.{Cause}
use Rattle.refusals.specs.declared.Refusal.{Refusal}
use Rattle.trees.specs.Forest.{Forest}

-- What a fault leads to, or what is done where there is none.
abbrev pub unless : {X : Type 0} → Option Cause → (Cause → X) → X → X
unless None stop on = on
unless (Some c) stop on = stop c

-- The answer of a scan over n records from number p on: how many records there are, or the refusal of the first at fault.
abbrev pub scan : (ℕ → Option Cause) → (ℕ → Cause → Refusal) → ℕ → ℕ → Result ℕ Refusal
scan fault refusal p zero = Ok p
scan fault refusal p (suc n) = unless (fault p) (λ c. Err (refusal p c)) (scan fault refusal (suc p) n)

-- The tree of a single leaf.
abbrev pub leaf : ℕ → Forest
leaf l = record { label = l; size = 1 } ∷ []

-- What a make means: the leaf with the label that is held beside its records, or their nodes where none is held.
abbrev pub kept : Option ℕ → Forest → Forest
kept None m = m
kept (Some l) m = leaf l
