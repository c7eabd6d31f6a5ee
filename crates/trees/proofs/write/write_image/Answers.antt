-- What the proof of `write::write_image` is asked to show.
use Rattle.std.proofs.Common.{◌≡◌, ◌+◌, ◌-◌, ◌*◌, ◌<◌, false, ltb, ◌++◌, length, get_or, drop, Ok, sym, ap, ◌∙◌, arith}
use Rattle.std.proofs.lemmas.Bool.{le-ltb, cond-false}
use Rattle.trees.specs.Forest.{no_node, label_at, size_at}
use Rattle.trees.specs.Images.{node_bytes, image_of}
use Rattle.trees.specs.Windows.{sound, fits_whole}
use Rattle.trees.proofs.Writes.{size_is, label_is, write_more, write_all, reads_back}
use Rattle.trees.proofs.write.write_image.Goals as goal

pub record_of-requires : goal.record_of-requires
record_of-requires g c =
    let m = g.T.Meant.meaning c.args.tree.now in
    let p = c.loop-place.place in
    let law = g.T.Meant.lawful c.args.tree.now in
    let h : p < length m = omega arith in
    let s : c.unwrap-size.result ≡ size_at m p = size_is m p c.unwrap-size.result h (sym c.size.ensures ∙ c.unwrap-size.ensures) in
    omega (arith, s, fits_whole m (sound m law) p h, law.few_nodes)

pub loop-place-preserved : goal.loop-place-preserved
loop-place-preserved g c =
    let m = g.T.Meant.meaning c.args.tree.now in
    let p = c.loop-place.place in
    let h : p < length m = omega arith in
    let l : c.unwrap-label.result ≡ label_at m p = label_is m p c.unwrap-label.result h (sym c.label.ensures ∙ c.unwrap-label.ensures) in
    let s : c.unwrap-size.result ≡ size_at m p = size_is m p c.unwrap-size.result h (sym c.size.ensures ∙ c.unwrap-size.ensures) in
    let node : node_bytes (record { label = c.unwrap-label.result; size = c.unwrap-size.result }) ≡ node_bytes (get_or m p no_node) = λ i. node_bytes (record { label = l i; size = s i }) in
    write_more m p ((6 * p + 6) - 6 * p) c.args.out.now c.loop-place.out _ h (omega arith) c.loop-place.invariant (c.copy_from_slice.ensures.after ∙ c.record_of.ensures ∙ node)

pub returns : goal.returns
returns g c =
    let m = g.T.Meant.meaning c.args.tree.now in
    let was = c.args.out.now in
    let full : c.loop-place.out ≡ image_of m ++ drop (6 * length m) was = write_all m c.loop-place.place was c.loop-place.out (omega arith) c.loop-place.invariant in
    let room : ltb (length was) (6 * length m) ≡ false = le-ltb (length was) (6 * length m) (omega arith) in
    record {
      answer = ap (λ n. Ok (6 * n)) c.places-places.ensures ∙ sym (cond-false (ltb (length was) (6 * length m)) _ _ room);
      bytes = full ∙ sym (cond-false (ltb (length was) (6 * length m)) _ _ room);
      back = reads_back m (6 * c.places-places.result) _ c.loop-place.out (g.T.Meant.lawful c.args.tree.now) (omega arith) full;
    }
