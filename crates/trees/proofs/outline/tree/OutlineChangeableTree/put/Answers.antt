-- What the proof of `outline::tree::OutlineChangeableTree::put` is asked to show.
use Rattle.std.proofs.Common.{sym, ◌∙◌, arith}
use Rattle.trees.specs.Leaves.{length_kept, sound_kept}
use Rattle.trees.specs.Outlining.{length_nodes}
use Rattle.trees.specs.Outlines.{outline_nodes}
use Rattle.trees.specs.OutlinePuts.{outline_kept, sound_stored, put_kept}
use Rattle.trees.proofs.outline.tree.OutlineChangeableTree.put.Goals as goal

pub bounds-self-place : goal.bounds-self-place
bounds-self-place c =
    let s = c.args.self.now in
    omega (arith, length_kept s.leaf (outline_nodes s.records.now) c.in-None.is, length_nodes s.records.now)

pub offset_bounds-self-place : goal.offset_bounds-self-place
offset_bounds-self-place c =
    let s = c.args.self.now in
    let law = outline_kept s.leaf s.records.now s.checked s.low in
    omega (arith, law.few_nodes)

pub invariant_of-self : goal.invariant_of-self
invariant_of-self c =
    let s = c.args.self.now in
    let sound = sound_kept s.leaf _ c.in-None.is s.checked in
    record { checked = s.checked ∙ sound ∙ sym (sound_stored s.records.now c.args.place c.args.label c.in_ok-check_label.ensures sound); low = s.low }

pub returns-in-None-clause-done : goal.returns-in-None-clause-done
returns-in-None-clause-done c =
    let s = c.args.self.now in
    put_kept s.leaf s.records.now c.args.place c.args.label c.in-None.is
