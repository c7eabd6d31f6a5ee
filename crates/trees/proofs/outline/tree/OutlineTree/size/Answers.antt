-- What the proof of `outline::tree::OutlineTree::size` is asked to show.
use Rattle.std.proofs.Common.{arith}
use Rattle.trees.specs.Leaves.{length_kept}
use Rattle.trees.specs.Outlining.{length_nodes}
use Rattle.trees.specs.Outlines.{outline_nodes}
use Rattle.trees.specs.OutlinePuts.{outline_kept}
use Rattle.trees.proofs.outline.tree.OutlineTree.size.Goals as goal

pub span-requires : goal.span-requires
span-requires c =
    let s = c.args.self.now in
    let rs = s.records.now in
    let long = length_kept s.leaf (outline_nodes rs) c.in-None.is in
    let law = outline_kept s.leaf rs s.checked s.low in
    (omega (arith, length_nodes rs), omega (arith, law.few_nodes, length_nodes rs))
