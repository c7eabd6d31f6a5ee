-- No place so far is touched, and the rest is as it was.
use Rattle.std.proofs.Common.{◌≡◌, ℕ, false, ◌++◌, drop}
use Rattle.runs.specs.Session.{tabulate}
use Rattle.sessions.specs.Looks.{touched_of, rows_of}
use Rattle.sessions.proofs.marks.Marks.rest.Given as goal

abbrev pub invariant-loop-mark : goal.invariant-loop-mark
invariant-loop-mark l = record {
  touched : touched_of l.mark-items ≡ tabulate (λ (_ : ℕ). false) l.mark-index ++ drop l.mark-index (touched_of l.initial.mark-items);
  rows : rows_of l.mark-items ≡ rows_of l.initial.mark-items;
}
