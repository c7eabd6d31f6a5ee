-- The exchange of two labels.
use Rattle.std.specs.Prelude.{ℕ, cond, ◌&&◌, length, Ok, Err, Result, nat_lt}
use Rattle.refusals.specs.declared.Refusal.{Refusal}
use Rattle.trees.specs.Forest.{Forest, label_at, relabel}
use Rattle.trees.specs.Questions.{no_such_place}

-- The tree with the labels of two places exchanged.
abbrev pub exchanged : Forest → ℕ → ℕ → Forest
exchanged m a b = relabel (relabel m a (label_at m b)) b (label_at m a)

-- The answer to an exchange: refused just if one of the places lies outside the tree.
abbrev pub exchange_answer : Forest → ℕ → ℕ → Result (Unit {0}) Refusal
exchange_answer m a b = cond (nat_lt a (length m) && nat_lt b (length m)) (Ok tt) (Err no_such_place)
