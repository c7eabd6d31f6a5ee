-- What holds in the loop of `write::write_image`.
use Rattle.std.proofs.Common.{◌≡◌, ◌*◌, ◌++◌, take, drop}
use Rattle.trees.specs.Images.{image_of}
use Rattle.trees.proofs.write.write_image.Given as goal

abbrev pub invariant-loop-place : goal.invariant-loop-place
invariant-loop-place g l = l.out ≡ image_of (take l.place (g.T.Meant.meaning l.tree)) ++ drop (6 * l.place) l.initial.out
