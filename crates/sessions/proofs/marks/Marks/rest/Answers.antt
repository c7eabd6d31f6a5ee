-- One place more is not touched.
use Rattle.std.proofs.Common.{◌≡◌, ℕ, ◌<◌, Bool, false, List, length, set, drop, replicate, vec_items, refl, ap, ◌∙◌, arith}
use Rattle.std.proofs.lemmas.List.{map-set, length-map, take_at}
use Rattle.std.proofs.Math.Seq.{map-set_same}
use Rattle.sessions.specs.declared.marks.Mark.{Mark}
use Rattle.sessions.specs.Looks.{touched_of}
use Rattle.sessions.proofs.Tried.{written_more, written_all, tabulate_same}
use Rattle.sessions.proofs.marks.Marks.rest.Goals as goal

pub loop-mark-preserved : goal.loop-mark-preserved
loop-mark-preserved c =
    let was : List Mark = c.deref_mut-mark-items.result.now in
    let items : List Mark = c.loop-mark.mark-items in
    let i : ℕ = c.loop-mark.mark-index in
    let h : c.loop-mark.mark-index < length (touched_of c.deref_mut-mark-items.result.now) = omega (arith, c.loop-mark-test.true, c.loop-mark.auto.mark-items, length-map c.deref_mut-mark-items.result.now (λ (m : Mark). m.touched)) in
    record {
      touched = map-set (λ (m : Mark). m.touched) items i _ ∙ ap (λ (y : List Bool). set y i false) c.loop-mark.invariant.touched ∙ written_more (λ (_ : ℕ). false) (touched_of was) i false h;
      rows = map-set_same (λ (m : Mark). m.matched) items i _ c.mark-item.result refl ∙ c.loop-mark.invariant.rows;
    }

pub returns-clause-touched : goal.returns-clause-touched
returns-clause-touched c =
    let was : List Mark = c.deref_mut-mark-items.result.now in
    let items : List Mark = c.loop-mark.mark-items in
    let long : length c.loop-mark.mark-items ≡ c.args.self.now.places.len = omega (arith, c.loop-mark.auto.mark-items, c.deref_mut-mark-items.ensures.len) in
    let e : c.loop-mark.mark-index ≡ length (touched_of c.deref_mut-mark-items.result.now) = omega (arith, c.loop-mark-test.false, c.loop-mark.auto.mark-items, c.loop-mark.auto.mark-index-end, length-map c.deref_mut-mark-items.result.now (λ (m : Mark). m.touched)) in
    ap touched_of (take_at items (drop (length items) (vec_items c.args.self.now.places)) c.args.self.now.places.len long)
    ∙ c.loop-mark.invariant.touched
    ∙ written_all (λ (_ : ℕ). false) (touched_of was) c.loop-mark.mark-index e
    ∙ tabulate_same false (length (touched_of was))
    ∙ ap (λ (ms : List Mark). replicate (length (touched_of ms)) false) c.deref_mut-mark-items.ensures.value
