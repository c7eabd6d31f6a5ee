-- A session's value as a state, and the answers of its calls as answers. The state takes the meaning of the tree's make.
use Rattle.std.specs.Prelude.{ℕ, List, Ok, Err, Result}
use Rattle.refusals.specs.declared.Refusal.{Refusal}
use Rattle.refusals.specs.Numbers.{cause_number, layer_number}
use Rattle.trees.specs.Forest.{Forest}
use Rattle.matching.specs.declared.found.Match.{Match}
use Rattle.sessions.specs.declared.receipt.Receipt.{Receipt}
use Rattle.sessions.specs.declared.session.Session.{Session}
use Rattle.runs.specs.Session.{State, Answer, done, receipt, number, steps, wrote, found, bound, refused}
use Rattle.sessions.specs.Journals.{journal_view}
use Rattle.sessions.specs.Looks.{marks_view}
use Rattle.sessions.specs.Shelves.{shelf_view}

-- A session as a state.
abbrev pub view : {T : Type 0} → (T → Forest) → Session T → State
view meaning s = record { name = s.name; tree = meaning s.tree; patterns = shelf_view s.shelf; journal = journal_view s.journal; look = marks_view s.marks }

-- A refusal, by its four numbers.
abbrev pub refusal_answer : Refusal → Answer
refusal_answer e = refused (cause_number e.cause) (layer_number e.layer) e.byte e.steps

-- The answer of a call that opens a click.
abbrev pub receipt_answer : Result Receipt Refusal → Answer
receipt_answer (Ok k) = receipt k.session
receipt_answer (Err e) = refusal_answer e

-- The answer of a call that has nothing to tell.
abbrev pub done_answer : Result (Unit {0}) Refusal → Answer
done_answer (Ok u) = done
done_answer (Err e) = refusal_answer e

-- The answer of a call that spends a receipt.
abbrev pub spent_answer : Result (Unit {0}) (Receipt × Refusal) → Answer
spent_answer (Ok u) = done
spent_answer (Err e) = refusal_answer e.1

-- The answer of a call that tells a number.
abbrev pub number_answer : Result ℕ Refusal → Answer
number_answer (Ok n) = number n
number_answer (Err e) = refusal_answer e

-- The answer of a rebuild.
abbrev pub steps_answer : Result ℕ Refusal → Answer
steps_answer (Ok n) = steps n
steps_answer (Err e) = refusal_answer e

-- The answer of a call that wrote findings into a slice, which holds these now.
abbrev pub wrote_answer : List (ℕ × ℕ) → Result ℕ Refusal → Answer
wrote_answer out (Ok n) = wrote n out
wrote_answer out (Err e) = refusal_answer e

-- The answer of a call that tells a place and a pattern.
abbrev pub found_answer : Result (ℕ × ℕ) Refusal → Answer
found_answer (Ok f) = found f.0 f.1
found_answer (Err e) = refusal_answer e

-- The answer of a call that tells bindings.
abbrev pub bound_answer : Result Match Refusal → Answer
bound_answer (Ok a) = bound a.places a.steps
bound_answer (Err e) = refusal_answer e
