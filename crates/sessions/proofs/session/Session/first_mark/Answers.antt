-- A pattern that is not marked, a place without marks, and the first mark.
use Rattle.std.proofs.Common.{sym, refl, subst, arith, below_more}
use Rattle.sessions.specs.Firsts.{First}
use Rattle.sessions.specs.View.{view}
use Rattle.sessions.proofs.session.Session.first_mark.Goals as goal

pub scan-init : goal.scan-init
scan-init g c = ((λ i h. absurd (omega arith)), refl)

pub loop-pattern-init : goal.loop-pattern-init
loop-pattern-init g c = ((λ i h. absurd (omega arith)), c.scan.invariant.1)

pub loop-pattern-preserved : goal.loop-pattern-preserved
loop-pattern-preserved g c = (below_more _ _ c.loop-pattern.invariant.0 (sym c.if-marked.ensures), c.loop-pattern.invariant.1)

pub scan-preserved : goal.scan-preserved
scan-preserved g c = (below_more _ _ c.scan.invariant.0 (λ j h. c.loop-pattern.invariant.0 j (omega (arith, c.count-patterns.ensures.0, c.loop-pattern-test.false))), c.loop-pattern.invariant.1)

pub returns-after-scan : goal.returns-after-scan
returns-after-scan g c =
    subst (First (view g.T.Meant.meaning c.args.self.now)) (sym c.scan.invariant.1) (λ i h. c.scan.invariant.0 i (omega (arith, c.places-places.ensures.0, c.scan-test.false)))

pub returns-then-marked : goal.returns-then-marked
returns-then-marked g c = record {
  place = omega (arith, c.places-places.ensures.0);
  pattern = omega (arith, c.count-patterns.ensures.0);
  hit = sym c.if-marked.ensures;
  lowest = c.scan.invariant.0;
  there = c.loop-pattern.invariant.0;
}
