-- What the proof of `outline::tree::OutlineTree::label` is asked to show.
use Rattle.std.proofs.Common.{arith, rules}
use Rattle.trees.specs.Leaves.{kept_none, length_kept}
use Rattle.trees.specs.Outlining.{label_read, length_nodes}
use Rattle.trees.specs.Outlines.{outline_nodes}
use Rattle.trees.specs.OutlinePuts.{outline_kept}
use Rattle.trees.proofs.outline.tree.OutlineTree.label.Goals as goal

pub bounds-self-place : goal.bounds-self-place
bounds-self-place c =
    let s = c.args.self.now in
    omega (arith, length_kept s.leaf (outline_nodes s.records.now) c.in-None.is, length_nodes s.records.now)

pub offset_bounds-self-place : goal.offset_bounds-self-place
offset_bounds-self-place c =
    let s = c.args.self.now in
    let law = outline_kept s.leaf s.records.now s.checked s.low in
    omega (arith, law.few_nodes)

pub returns-in-None : goal.returns-in-None
returns-in-None c =
    let s = c.args.self.now in
    let m = kept_none s.leaf (outline_nodes s.records.now) c.in-None.is in
    let r = label_read s.records.now c.args.place in
    search rules
