-- What a match answers.
use Rattle.std.specs.Prelude.{◌≡◌, ℕ, ◌*◌, ◌<◌, ◌≤◌, true, cond, List, map, length, is_ok, Some, None, Ok, Err, Option, Result, nat_lt}
use Rattle.refusals.specs.declared.Refusal.{Refusal}
use Rattle.refusals.specs.declared.Cause.TheVariants.{NoMatch}
use Rattle.refusals.specs.declared.Layer.TheVariants.{Pattern}
use Rattle.refusals.specs.Numbers.{refused}
use Rattle.trees.specs.Forest.{Forest, Law, size_at, subtree}
use Rattle.trees.specs.Questions.{no_such_place}
use Rattle.patterns.specs.declared.row.Element.{Element}
use Rattle.matching.specs.declared.found.Match.{Match}
use Rattle.matching.specs.declared.found.Mismatch.{Mismatch}
use Rattle.matching.specs.Rules.{Bindings, Outcome, match_at_lem}
use Rattle.matching.specs.Laws.{moved}
use Rattle.matching.specs.Readings.{Substitution, Reads, Plain, bound_trees}

-- The outcome of a level that went well or not, with what was found.
abbrev pub ended : Result (Unit {0}) Mismatch → Match → Outcome
ended (Ok u) a = record { bound = Some a.places; steps = a.steps }
ended (Err e) a = record { bound = None; steps = a.steps }

-- The refusal of a match that fails after n steps.
abbrev pub no_match : ℕ → Refusal
no_match n = refused NoMatch Pattern 0 n

-- The bindings and the steps, or the refusal of a match that failed after so many steps.
abbrev pub answered_by : Option Bindings → ℕ → Result Match Refusal
answered_by (Some b) n = Ok (record { places = b; steps = n })
answered_by None n = Err (no_match n)

-- The answer to a match of a pattern at a place.
abbrev pub match_answer : Forest → List Element → ℕ → Result Match Refusal
match_answer m es p = cond (nat_lt p (length m)) (answered_by (match_at_lem m es p).bound (match_at_lem m es p).steps) (Err no_such_place)

-- The steps that an answer gives.
abbrev pub steps_of : Result Match Refusal → ℕ
steps_of (Ok a) = a.steps
steps_of (Err e) = e.steps

-- An answer with each bound place moved by as much as q is from p.
abbrev pub moved_answer : ℕ → ℕ → Result Match Refusal → Result Match Refusal
moved_answer p q (Ok a) = Ok (record { places = map (moved p q) a.places; steps = a.steps })
moved_answer p q (Err e) = Err e

-- What holds of an answer r to a match of a pattern at a place: bindings are a reading of the place, a plain reading leads to a match, the steps are at most two for each node there, and wherever a lawful tree has an equal subtree the answer is the same, with its places moved.
pub record MatchLaws (m : Forest) (es : List Element) (p : ℕ) (r : Result Match Refusal) : Type 0 where
  pub reading : (a : Match) → r ≡ Ok a → Reads (bound_trees m a.places) es (subtree m p)
  pub plain : p < length m → (σ : Substitution) (w : Reads σ es (subtree m p)) → Plain w → is_ok r ≡ true
  pub brief : steps_of r ≤ 2 * size_at m p
  pub alone : p < length m → (n : Forest) (q : ℕ) → Law n → q < length n → subtree m p ≡ subtree n q → match_answer n es q ≡ moved_answer p q r
