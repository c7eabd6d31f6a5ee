-- What holds in the loop of `outline::check::check_outline`.
use Rattle.std.proofs.Common.{◌≡◌, ◌≤◌}
use Rattle.trees.specs.Outlines.{depth_limit, outline_fault}
use Rattle.trees.specs.Scans.{Clean}
use Rattle.trees.proofs.outline.check.check_outline.Given as goal

abbrev pub invariant-loop-i : goal.invariant-loop-i
invariant-loop-i l = Clean (outline_fault l.records) l.i × (l.limit ≡ depth_limit l.records l.i) × (l.limit ≤ 64)
