-- What a tree answers to its questions, and to a label put at a place.
use Rattle.std.specs.Prelude.{ℕ, cond, length, Ok, Err, Result, nat_lt}
use Rattle.refusals.specs.declared.Refusal.{Refusal}
use Rattle.refusals.specs.declared.Cause.TheVariants.{NoSuchPlace, BadLabel}
use Rattle.refusals.specs.declared.Layer.TheVariants.{Tree}
use Rattle.refusals.specs.Numbers.{refused}
use Rattle.trees.specs.Forest.{Forest, label_at, size_at}

-- The refusal of a place outside the tree.
abbrev pub no_such_place : Refusal
no_such_place = refused NoSuchPlace Tree 0 0

-- The refusal of a label above 32,767.
abbrev pub label_too_large : Refusal
label_too_large = refused BadLabel Tree 0 0

-- The answer to the question for the label at a place.
abbrev pub label_answer : Forest → ℕ → Result ℕ Refusal
label_answer m p = cond (nat_lt p (length m)) (Ok (label_at m p)) (Err no_such_place)

-- The answer to the question for the size at a place.
abbrev pub size_answer : Forest → ℕ → Result ℕ Refusal
size_answer m p = cond (nat_lt p (length m)) (Ok (size_at m p)) (Err no_such_place)

-- The answer to a label put at a place.
abbrev pub put_answer : Forest → ℕ → ℕ → Result (Unit {0}) Refusal
put_answer m p l = cond (nat_lt p (length m)) (cond (nat_lt l 32768) (Ok tt) (Err label_too_large)) (Err no_such_place)

-- The answer to a label put at a place in exchange for the one that stood there.
abbrev pub replace_answer : Forest → ℕ → ℕ → Result ℕ Refusal
replace_answer m p l = cond (nat_lt p (length m)) (cond (nat_lt l 32768) (Ok (label_at m p)) (Err label_too_large)) (Err no_such_place)
