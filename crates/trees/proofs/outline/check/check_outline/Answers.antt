-- What the proof of `outline::check::check_outline` is asked to show.
use Rattle.std.proofs.Common.{◌≡◌, length, get_or, Some, None, Err, sym, ap, ◌∙◌, add-one, arith, below_more}
use Rattle.std.proofs.lemmas.Bool.{eqb-false}
use Rattle.std.proofs.lemmas.Result.{err_from_is_err_and}
use Rattle.trees.specs.Outlines.{no_record, depth_limit, record_fault, outline_fault}
use Rattle.trees.specs.Faults.{outline_stops, outline_passes, fine}
use Rattle.trees.proofs.OutlineOf.{takes_outlines}
use Rattle.trees.proofs.outline.check.check_outline.Goals as goal

pub returns-in_err-check_record : goal.returns-in_err-check_record
returns-in_err-check_record c =
    let rs = c.args.records.now in
    let i = c.loop-i.i in
    let q = c.in_err-check_record.ensures in
    let f = err_from_is_err_and c.from_residual.result c.from_residual.ensures.1 in
    let here : outline_fault rs i ≡ Some q.0 = ap (λ l. record_fault i l (get_or rs i no_record)) (sym c.loop-i.invariant.1) ∙ q.1 in
    let value = f.1 ∙ ap Err (f.2 ∙ q.2) ∙ sym (outline_stops rs i q.0 c.loop-i.invariant.0 c.loop-i-test.true here) in
    record { value = value; exact = takes_outlines rs _ value }

pub loop-i-preserved : goal.loop-i-preserved
loop-i-preserved c =
    let rs = c.args.records.now in
    let i = c.loop-i.i in
    let here : outline_fault rs i ≡ None = ap (λ l. record_fault i l (get_or rs i no_record)) (sym c.loop-i.invariant.1) ∙ c.in_ok-check_record.ensures in
    let f = fine i (depth_limit rs i) (get_or rs i no_record) here in
    (below_more _ _ c.loop-i.invariant.0 here, sym (ap (depth_limit rs) (add-one i)), omega (arith, f.low))

pub returns : goal.returns
returns c =
    let rs = c.args.records.now in
    let value = sym (outline_passes rs (omega (arith, eqb-false (length rs) 0 (sym c.if-is_empty.ensures))) (λ k l. c.loop-i.invariant.0 k (omega arith))) in
    record { value = value; exact = takes_outlines rs _ value }
