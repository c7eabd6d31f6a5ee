-- What the proof of `any::same_tree` is asked to show.
use Rattle.std.proofs.Common.{◌≡◌, true, false, length, refl, sym, ◌∙◌, arith, rules}
use Rattle.std.proofs.lemmas.Iterator.{cases_from_all, YieldsList-from_range}
use Rattle.trees.proofs.Comparing.{HereIs, same_answer, same_alike}
use Rattle.trees.proofs.any.same_tree.Goals as goal

pub returns-then-places-clause-value : goal.returns-then-places-clause-value
returns-then-places-clause-value g c =
    let m = g.A.Meant.meaning c.args.a.now in
    let n = g.B.Meant.meaning c.args.b.now in
    let e : length m ≡ length n = sym c.places.ensures ∙ c.if-places.true ∙ c.places-2.ensures in
    same_answer m n c.all.result e (cases_from_all _ _ c.all.result (HereIs m n true) (HereIs m n false) c.all.ensures.ran (YieldsList-from_range 0 c.places-then-places.result (length m) refl (omega (arith, c.places-then-places.ensures))) (λ x q k. search rules) (λ x q k. search rules))

pub returns-then-places-clause-alike : goal.returns-then-places-clause-alike
returns-then-places-clause-alike g c = same_alike _ _ _ (returns-then-places-clause-value g c)
