-- What the proof of `image::tree::ImageTree::places` is asked to show.
use Rattle.std.proofs.Common.{sym, ◌∙◌}
use Rattle.trees.specs.Imaging.{many}
use Rattle.trees.specs.Leaves.{length_kept}
use Rattle.trees.proofs.image.tree.ImageTree.places.Goals as goal

pub returns-in-None : goal.returns-in-None
returns-in-None c = sym (length_kept _ _ c.in-None.is ∙ many c.args.self.now.bytes.now)
