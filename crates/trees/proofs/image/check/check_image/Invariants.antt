-- What holds in the loop of `image::check::check_image`.
use Rattle.std.proofs.Common.{◌≤◌, length, reverse}
use Rattle.trees.specs.Images.{image_fault, image_nodes}
use Rattle.trees.specs.Scans.{Clean}
use Rattle.trees.specs.Opens.{Opened}
use Rattle.trees.proofs.image.check.check_image.Given as goal

abbrev pub invariant-loop-place : goal.invariant-loop-place
invariant-loop-place l = Clean (image_fault l.bytes) l.place × Opened (image_nodes l.bytes) l.place (reverse l.ends.items) × (length l.ends.items ≤ 64)
