-- The patterns so far have been tried.
use Rattle.std.proofs.Common.{◌≡◌, ◌*◌, ◌≤◌, length}
use Rattle.sessions.specs.Looks.{marks_view}
use Rattle.sessions.specs.Shelves.{shelf_view}
use Rattle.sessions.specs.Tries.{trying_all, all_steps}
use Rattle.sessions.proofs.marks.Marks.try_patterns.Given as goal

abbrev pub invariant-loop-number : goal.invariant-loop-number
invariant-loop-number g l =
    let m = g.T.Meant.meaning l.tree in
    let ps = shelf_view l.shelf in
    let k = marks_view l.initial.self in
    record {
      marks : marks_view l.self ≡ trying_all m ps l.number k;
      steps : l.steps ≡ all_steps m ps k.tried k.touched (length k.marks) l.number;
      few : l.steps ≤ 33554432 * l.number;
    }
