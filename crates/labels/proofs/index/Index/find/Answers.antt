-- The search goes from record to record in the bucket of the name.
use Rattle.std.proofs.Common.{◌≤◌, length, Some, sym, ap, ◌∙◌, arith}
use Rattle.std.proofs.lemmas.Bool.{true≢false}
use Rattle.std.proofs.lemmas.Bool.Decides.{Decides-eqb}
use Rattle.std.proofs.lemmas.Slice.Eq.{slice_eq-Decides}
use Rattle.labels.proofs.Chains.{through, begins, ends, goes_on}
use Rattle.labels.proofs.index.Index.find.Goals as goal

pub loop-next-init : goal.loop-next-init
loop-next-init c =
    let t = c.args.self.now.tables in
    let room : t.count ≤ length t.records = omega (arith, c.args.self.now.full, c.args.self.now.few) in
    begins c.args.self.now.bytes.now t c.args.key.name.now c.args.key.bucket c.number-next.result room c.args.self.now.heads c.args.key.hashed c.args.key.small c.number-next.ensures

pub name_in-requires : goal.name_in-requires
name_in-requires c = c.args.self.now.whole c.from.result _ (omega (arith, c.loop-next.invariant.within, ap through (c.in-Some.is ∙ ap Some (sym c.from.ensures))))

pub returns-then-eq : goal.returns-then-eq
returns-then-eq c =
    let t = c.args.self.now.tables in
    let room : t.count ≤ length t.records = omega (arith, c.args.self.now.full, c.args.self.now.few) in
    ends c.args.self.now.bytes.now t c.args.key.name.now c.loop-next.next c.from.result _ room c.loop-next.invariant (c.in-Some.is ∙ ap Some (sym c.from.ensures)) (sym c.name_in.ensures ∙ (slice_eq-Decides Decides-eqb _ _ _ c.eq.ensures).0 c.if-eq.true)

pub loop-next-smaller : goal.loop-next-smaller
loop-next-smaller c =
    let t = c.args.self.now.tables in
    let room : t.count ≤ length t.records = omega (arith, c.args.self.now.full, c.args.self.now.few) in
    (goes_on c.args.self.now.bytes.now t c.args.key.name.now c.loop-next.next c.number-next-in-Some.result c.from.result _ room c.args.self.now.links c.loop-next.invariant (c.in-Some.is ∙ ap Some (sym c.from.ensures)) (λ e. true≢false (sym ((slice_eq-Decides Decides-eqb _ _ _ c.eq.ensures).1 (c.name_in.ensures ∙ e)) ∙ c.if-eq.false)) c.number-next-in-Some.ensures).1

pub loop-next-preserved : goal.loop-next-preserved
loop-next-preserved c =
    let t = c.args.self.now.tables in
    let room : t.count ≤ length t.records = omega (arith, c.args.self.now.full, c.args.self.now.few) in
    (goes_on c.args.self.now.bytes.now t c.args.key.name.now c.loop-next.next c.number-next-in-Some.result c.from.result _ room c.args.self.now.links c.loop-next.invariant (c.in-Some.is ∙ ap Some (sym c.from.ensures)) (λ e. true≢false (sym ((slice_eq-Decides Decides-eqb _ _ _ c.eq.ensures).1 (c.name_in.ensures ∙ e)) ∙ c.if-eq.false)) c.number-next-in-Some.ensures).0
