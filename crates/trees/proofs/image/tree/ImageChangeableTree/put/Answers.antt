-- What the proof of `image::tree::ImageChangeableTree::put` is asked to show.
use Rattle.std.proofs.Common.{arith}
use Rattle.trees.specs.Leaves.{length_kept}
use Rattle.trees.specs.ImagePuts.{image_kept}
use Rattle.trees.specs.Images.{image_nodes}
use Rattle.trees.proofs.image.tree.ImageChangeableTree.put.Goals as goal

pub store-requires : goal.store-requires
store-requires c =
    let s = c.args.self.now in
    let bs = s.bytes.now in
    let law = image_kept s.leaf bs s.checked s.low in
    (omega (arith, length_kept s.leaf (image_nodes bs) c.in-None.is), (omega (arith, law.few_nodes), (c.in_ok-check_label.ensures, c.in-None.is)))
