-- The marks of one place more are written.
use Rattle.std.proofs.Common.{◌≡◌, ℕ, ◌+◌, List, ◌++◌, length, drop, sym, refl, ap, ◌∙◌, arith}
use Rattle.runs.specs.Session.{State, marked, marked_at}
use Rattle.sessions.specs.View.{view}
use Rattle.sessions.proofs.Scanned.{placed_more, counted_place, at_most_places, written_place}
use Rattle.sessions.proofs.session.Session.write_marks.Goals as goal

pub loop-place-init : goal.loop-place-init
loop-place-init g c = (refl, refl)

pub write_at-next-requires : goal.write_at-next-requires
write_at-next-requires g c =
    let v : State = view g.T.Meant.meaning c.args.self.now in
    record {
      inside = omega (arith, c.places-places.ensures.0);
      room = omega (arith, c.requires, c.loop-place.auto.out, c.loop-place.invariant.0, counted_place v c.loop-place.place, at_most_places v (c.loop-place.place + 1) (length v.look.marks) (omega (arith, c.places-places.ensures.0)));
    }

pub loop-place-preserved : goal.loop-place-preserved
loop-place-preserved g c =
    let v : State = view g.T.Meant.meaning c.args.self.now in
    let r = c.write_at-next.result in (
      omega (arith, c.loop-place.invariant.0, c.write_at-next.ensures.end, counted_place v c.loop-place.place),
      c.write_at-next.ensures.written
          ∙ written_place c.loop-place.out c.args.out.now (marked v c.loop-place.place) (marked_at v c.loop-place.place (length v.patterns)) c.loop-place.next c.write_at-next.result c.loop-place.invariant.0 c.write_at-next.ensures.end c.loop-place.invariant.1
          ∙ ap (λ (fs : List (ℕ × ℕ)). fs ++ drop c.write_at-next.result c.args.out.now) (sym (placed_more v c.loop-place.place)),
    )

pub returns : goal.returns
returns g c =
    let v : State = view g.T.Meant.meaning c.args.self.now in
    let e : c.loop-place.place ≡ length v.look.marks = omega (arith, c.places-places.ensures.0, c.loop-place.auto.place-end, c.loop-place-test.false) in
    c.loop-place.invariant.1
    ∙ ap (λ n. marked v c.loop-place.place ++ drop n c.args.out.now) c.loop-place.invariant.0
    ∙ ap (λ i. marked v i ++ drop (length (marked v i)) c.args.out.now) e
