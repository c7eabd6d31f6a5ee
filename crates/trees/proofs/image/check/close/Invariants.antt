-- What holds in the loop of `image::check::close`.
use Rattle.std.proofs.Common.{◌≡◌, length, reverse}
use Rattle.trees.specs.Opened.{popped}
use Rattle.trees.proofs.image.check.close.Given as goal

abbrev pub invariant-loop-place : goal.invariant-loop-place
invariant-loop-place l = popped l.place (reverse l.ends.items) ≡ popped l.place (reverse l.fn.ends.items)

abbrev pub decreases-loop-place : goal.decreases-loop-place
decreases-loop-place l = length l.ends.items
