-- The pairs so far are the same, and each is counted.
use Rattle.std.proofs.Common.{◌≡◌, ◌+◌}
use Rattle.matching.proofs.Comparing.{SoFar}
use Rattle.matching.proofs.matcher.Matcher.compare.Given as goal

abbrev pub invariant-loop-i : goal.invariant-loop-i
invariant-loop-i g l = record {
  tree : l.self.tree ≡ l.initial.self.tree;
  places : l.self.found.places ≡ l.initial.self.found.places;
  steps : l.self.found.steps ≡ l.initial.self.found.steps + l.i;
  so_far : SoFar (g.T.Meant.meaning l.self.tree.now) l.first l.second l.i;
}
