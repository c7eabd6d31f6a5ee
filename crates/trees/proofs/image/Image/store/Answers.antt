-- What the proof of `image::Image::store` is asked to show.
use Rattle.std.proofs.Common.{◌+◌, ◌*◌, ◌/◌, ◌<◌, length, get_or, sym, ap, ◌∙◌, arith, length-set}
use Rattle.trees.specs.Forest.{relabel}
use Rattle.trees.specs.Images.{image_nodes}
use Rattle.trees.specs.Imaging.{many, taken}
use Rattle.trees.specs.ImagePuts.{low_stored, both_stored, nodes_stored, sound_stored}
use Rattle.trees.specs.Leaves.{sound_kept}
use Rattle.trees.proofs.Heads.{label_bytes}
use Rattle.trees.proofs.image.Image.store.Goals as goal

pub bounds-self-place : goal.bounds-self-place
bounds-self-place c = omega (arith, many c.args.self.now.bytes.now)

-- between the two writes the label has the new low byte and the old high one
pub invariant_of-self : goal.invariant_of-self
invariant_of-self c =
    let s = c.args.self.now in
    let bs = s.bytes.now in
    let p = c.args.place in
    let t = sound_kept s.leaf _ c.requires.1.1.1 s.checked in
    let h : p < length bs / 6 = omega (arith, many bs) in
    let old : get_or bs (6 * p + 4) 0 + 256 * get_or bs (6 * p + 5) 0 < 32768 = ((taken bs t).each p (omega arith)).small in
    let b = label_bytes c.to_le_bytes.result c.args.label (omega arith) c.to_le_bytes.ensures in
    record { checked = s.checked ∙ t ∙ sym (sound_stored bs _ p _ (omega arith) (low_stored bs p (get_or c.to_le_bytes.result 0 0) h) t); low = s.low }

pub bounds-self-place-2 : goal.bounds-self-place-2
bounds-self-place-2 c =
    let bs = c.args.self.now.bytes.now in
    omega (arith, many bs, length-set bs (6 * c.args.place + 4) (get_or c.to_le_bytes.result 0 0))

pub invariant_of-self-2 : goal.invariant_of-self-2
invariant_of-self-2 c =
    let s = c.args.self.now in
    let bs = s.bytes.now in
    let p = c.args.place in
    let t = sound_kept s.leaf _ c.requires.1.1.1 s.checked in
    let h : p < length bs / 6 = omega (arith, many bs) in
    let b = label_bytes c.to_le_bytes.result c.args.label (omega arith) c.to_le_bytes.ensures in
    record { checked = s.checked ∙ t ∙ sym (sound_stored bs _ p _ (omega arith) (both_stored bs p (get_or c.to_le_bytes.result 0 0) (get_or c.to_le_bytes.result 1 0) h) t); low = s.low }

pub returns-clause-nodes : goal.returns-clause-nodes
returns-clause-nodes c =
    let bs = c.args.self.now.bytes.now in
    let p = c.args.place in
    let h : p < length bs / 6 = omega (arith, many bs) in
    let b = label_bytes c.to_le_bytes.result c.args.label (omega arith) c.to_le_bytes.ensures in
    nodes_stored bs _ p _ h (both_stored bs p (get_or c.to_le_bytes.result 0 0) (get_or c.to_le_bytes.result 1 0) h) ∙ ap (relabel (image_nodes bs) p) b.1
