-- What the proof of `outline::tree::span` is asked to show.
use Rattle.std.proofs.Common.{◌≡◌, ◌+◌, ◌-◌, ◌∙◌, length, get_or, take, drop, sym, ap, add-one, arith, length-drop}
use Rattle.std.proofs.lemmas.List.{take_all}
use Rattle.trees.specs.Outlines.{no_record, deeper}
use Rattle.trees.specs.Outlining.{deeper_count, size_read}
use Rattle.trees.proofs.outline.tree.span.Goals as goal

pub returns : goal.returns
returns c =
    let rs = c.args.records.now in
    let p = c.args.place in
    let d = (get_or rs p no_record).depth in
    let under = take (length rs - (p + 1)) (drop (p + 1) rs) in
    let count : c.deeper.result ≡ deeper d (drop (p + 1) rs) = c.deeper.ensures ∙ sym (deeper_count d under) ∙ ap (deeper d) (take_all (length rs - (p + 1)) (drop (p + 1) rs) (omega (arith, length-drop (p + 1) rs))) in
    omega (arith, ap (λ k. deeper d (drop k rs)) (add-one p), size_read rs p (omega arith))
