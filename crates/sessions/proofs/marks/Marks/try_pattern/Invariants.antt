-- The places so far have their rows and steps, and the rest is as it was.
use Rattle.std.proofs.Common.{◌≡◌, ◌*◌, ◌≤◌, ◌++◌, drop}
use Rattle.patterns.specs.Elements.{elements_of}
use Rattle.runs.specs.Session.{tabulate}
use Rattle.sessions.specs.Looks.{touched_of, rows_of}
use Rattle.sessions.specs.Tries.{tried_row, tried_steps}
use Rattle.sessions.proofs.marks.Marks.try_pattern.Given as goal

abbrev pub invariant-loop-place : goal.invariant-loop-place
invariant-loop-place g l =
    let m = g.T.Meant.meaning l.tree in
    let es = elements_of l.pattern.row in
    let t = touched_of l.initial.mark-items in
    record {
      touched : touched_of l.mark-items ≡ t;
      rows : rows_of l.mark-items ≡ tabulate (tried_row m es l.number l.is_new t (rows_of l.initial.mark-items)) l.place ++ drop l.place (rows_of l.initial.mark-items);
      steps : l.steps ≡ tried_steps m es l.is_new t l.place;
      few : l.steps ≤ 8192 * l.place;
    }
