-- What the proof of `image::tree::ImageTree::size` is asked to show.
use Rattle.std.proofs.Common.{◌/◌, ◌<◌, length, arith, rules}
use Rattle.trees.specs.Images.{image_nodes}
use Rattle.trees.specs.Leaves.{kept_none, length_kept}
use Rattle.trees.specs.Imaging.{at, many}
use Rattle.trees.proofs.Heads.{some_head}
use Rattle.trees.proofs.image.tree.ImageTree.size.Goals as goal

pub unwrap-requires : goal.unwrap-requires
unwrap-requires c =
    let s = c.args.self.now in
    let lt : c.args.place < length s.bytes.now / 6 = omega (arith, length_kept s.leaf (image_nodes s.bytes.now) c.in-None.is, many s.bytes.now) in
    some_head s.bytes.now c.args.place _ lt c.head_at.ensures

pub returns-in-None : goal.returns-in-None
returns-in-None c =
    let s = c.args.self.now in
    let long = length_kept s.leaf (image_nodes s.bytes.now) c.in-None.is in
    let m = kept_none s.leaf (image_nodes s.bytes.now) c.in-None.is in
    let lt : c.args.place < length s.bytes.now / 6 = omega (arith, many s.bytes.now) in
    let here = at s.bytes.now c.args.place lt in
    search rules
