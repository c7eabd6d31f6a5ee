-- What the proof of `image::check::check_image` is asked to show.
use Rattle.std.proofs.Common.{◌≡◌, ◌+◌, ◌-◌, ◌/◌, Some, None, Err, length, reverse, sym, ap, subst, ◌∙◌, arith, below_more}
use Rattle.std.specs.Prelude.{slice_get}
use Rattle.std.specs.Option.{unwrap_or}
use Rattle.std.proofs.lemmas.Bool.{eqb-false}
use Rattle.std.proofs.lemmas.Result.{err_from_is_err_and}
use Rattle.trees.specs.Images.{around, image_nodes, image_fault, inner_end}
use Rattle.trees.specs.Opens.{Opened}
use Rattle.trees.specs.Imaging.{fit, Fit, image_stops, takes, Taken}
use Rattle.trees.proofs.ImageOf.{takes_images, one_image}
use Rattle.trees.proofs.Walks.{last_end, walk_fault, walk_more}
use Rattle.trees.proofs.image.check.check_image.Goals as goal

pub returns-in_err-size : goal.returns-in_err-size
returns-in_err-size c =
    let bs = c.args.bytes.now in
    let p = c.loop-place.place in
    let q = c.in_err-size.ensures in
    let f = err_from_is_err_and c.from_residual.result c.from_residual.ensures.1 in
    let es = c.close.new.ends.items in
    let a : reverse es ≡ around (image_nodes bs) p p = c.close.ensures ∙ c.loop-place.invariant.1 p (omega arith) in
    let e : c.unwrap_or-end.result ≡ inner_end (length bs / 6) (reverse es) = c.unwrap_or-end.ensures ∙ ap (λ o. unwrap_or o (length bs / 6)) (c.copied.ensures ∙ c.last.ensures.value ∙ ap (λ xs. slice_get xs (length xs - 1)) c.deref.ensures.0) ∙ last_end (length bs / 6) es in
    let here : image_fault bs p ≡ Some q.0 = walk_fault bs p c.len.result c.unwrap_or-end.result es _ a c.len.ensures.value e q.1 in
    let value = f.1 ∙ ap Err (f.2 ∙ q.2) ∙ sym (image_stops bs p q.0 c.loop-place.invariant.0 (omega (arith, c.div_ceil-place-end.ensures, c.loop-place-test.true)) here) in
    record { value = value; exact = takes_images bs _ value (λ k. omega (arith, c.type_inv.bytes k)); one = one_image }

pub loop-place-preserved : goal.loop-place-preserved
loop-place-preserved c =
    let bs = c.args.bytes.now in
    let p = c.loop-place.place in
    let es = c.close.new.ends.items in
    let a : reverse es ≡ around (image_nodes bs) p p = c.close.ensures ∙ c.loop-place.invariant.1 p (omega arith) in
    let e : c.unwrap_or-end.result ≡ inner_end (length bs / 6) (reverse es) = c.unwrap_or-end.ensures ∙ ap (λ o. unwrap_or o (length bs / 6)) (c.copied.ensures ∙ c.last.ensures.value ∙ ap (λ xs. slice_get xs (length xs - 1)) c.deref.ensures.0) ∙ last_end (length bs / 6) es in
    let here : image_fault bs p ≡ None = walk_fault bs p c.len.result c.unwrap_or-end.result es _ a c.len.ensures.value e c.in_ok-size.ensures.0 in
    let f : Fit bs p c.len.result c.unwrap_or-end.result = fit bs p c.len.result c.unwrap_or-end.result c.in_ok-size.ensures.0 in
    let clean = below_more _ _ c.loop-place.invariant.0 here in (
      clean,
      subst (λ xs. Opened (image_nodes bs) (p + 1) (reverse xs)) (sym c.push.ensures.items) (walk_more bs p c.in_ok-size.size c.loop-place.ends.items es (omega (arith, f.room)) (λ q i. fit bs q _ _ (clean q i)) c.loop-place.invariant.1 c.close.ensures c.in_ok-size.ensures.1),
      omega (arith, f.low, c.len.ensures.value, c.push.ensures.len),
    )

pub returns : goal.returns
returns c =
    let bs = c.args.bytes.now in
    let t : Taken bs = record { some = omega (arith, eqb-false (length bs) 0 (sym c.if-is_empty.ensures)); each = λ p l. fit bs p _ _ (c.loop-place.invariant.0 p (omega (arith, c.div_ceil-place-end.ensures))) } in
    let value = sym (takes bs t) in
    record { value = value; exact = takes_images bs _ value (λ k. omega (arith, c.type_inv.bytes k)); one = one_image }
