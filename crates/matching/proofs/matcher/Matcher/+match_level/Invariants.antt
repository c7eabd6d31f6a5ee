-- A group has fewer places than the level around it, and a level goes on from where it has come.
use Rattle.std.proofs.Common.{◌≡◌, ◌+◌, ◌-◌, ◌*◌, ◌≤◌}
use Rattle.matching.specs.Rules.{walks}
use Rattle.matching.specs.Levels.{Known}
use Rattle.matching.proofs.Walking.{Reached}
use Rattle.matching.proofs.matcher.Matcher.+match_level.Given as goal

abbrev pub decreases-match_level : goal.decreases-match_level
decreases-match_level g l = l.end - l.place

abbrev pub invariant-loop-at : goal.invariant-loop-at
invariant-loop-at g l = record {
  on : l.initial.at ≤ l.at;
  tree : l.self.tree ≡ l.initial.self.tree;
  known : Known (g.T.Meant.meaning l.self.tree.now) l.at l.ahead;
  so : Reached (g.T.Meant.meaning l.self.tree.now) l.initial.self.found.steps (walks (g.T.Meant.meaning l.initial.self.tree.now) l.initial.rest l.initial.at l.end l.initial.self.found.places) (l.initial.self.found.steps + 2 * (l.end - l.initial.at)) l.rest l.at l.end l.self.found;
}

abbrev pub decreases-loop-at : goal.decreases-loop-at
decreases-loop-at g l = l.end - l.at
