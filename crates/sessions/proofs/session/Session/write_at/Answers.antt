-- One mark more is written, or none.
use Rattle.std.proofs.Common.{◌≡◌, ℕ, ◌+◌, ◌<◌, ◌≤◌, true, List, ◌++◌, length, take, drop, set, sym, ap, ◌∙◌, arith, rules}
use Rattle.std.proofs.lemmas.List.{take-append-drop}
use Rattle.runs.specs.Session.{State, mark, marked_at}
use Rattle.sessions.specs.View.{view}
use Rattle.sessions.proofs.Scanned.{marked_more, marked_same, counted_more, at_most, written_one}
use Rattle.sessions.proofs.session.Session.write_at.Goals as goal
use Rattle.sessions.proofs.session.Session.write_at.Goals.{then-marked, else-marked}

-- there is room for a mark that is still to come
room : (s : State) (i p n next from len : ℕ) → mark s i p ≡ true → p < n → next ≡ from + length (marked_at s i p) → from + length (marked_at s i n) ≤ len → next < len
room s i p n next from len e h q r = omega (arith, counted_more s i p e, at_most s i (p + 1) n (omega arith))

pub loop-pattern-init : goal.loop-pattern-init
loop-pattern-init g c = (omega arith, sym (take-append-drop c.args.from c.args.out.now))

pub offset_bounds-out-next : goal.offset_bounds-out-next
offset_bounds-out-next g c =
    let v : State = view g.T.Meant.meaning c.args.self.now in
    let inside : c.loop-pattern.next < length c.args.out.now = room v c.args.place c.loop-pattern.pattern (length v.patterns) c.loop-pattern.next c.args.from (length c.args.out.now) (sym c.if-marked.ensures) (omega (arith, c.count-patterns.ensures.0)) c.loop-pattern.invariant.0 c.requires.room in
    let long = c.loop-pattern.auto.out in
    search rules

pub bounds-out-next : goal.bounds-out-next
bounds-out-next g c =
    let v : State = view g.T.Meant.meaning c.args.self.now in
    let inside : c.loop-pattern.next < length c.args.out.now = room v c.args.place c.loop-pattern.pattern (length v.patterns) c.loop-pattern.next c.args.from (length c.args.out.now) (sym c.if-marked.ensures) (omega (arith, c.count-patterns.ensures.0)) c.loop-pattern.invariant.0 c.requires.room in
    let long = c.loop-pattern.auto.out in
    search rules

pub overflow_add-next : goal.overflow_add-next
overflow_add-next g c =
    let v : State = view g.T.Meant.meaning c.args.self.now in
    let inside : c.loop-pattern.next < length c.args.out.now = room v c.args.place c.loop-pattern.pattern (length v.patterns) c.loop-pattern.next c.args.from (length c.args.out.now) (sym c.if-marked.ensures) (omega (arith, c.count-patterns.ensures.0)) c.loop-pattern.invariant.0 c.requires.room in
    let long = c.loop-pattern.auto.out in
    search rules

pub loop-pattern-preserved : goal.loop-pattern-preserved
loop-pattern-preserved g c =
    let v : State = view g.T.Meant.meaning c.args.self.now in
    let i = c.args.place in
    let p = c.loop-pattern.pattern in
    let n = c.loop-pattern.next in
    let f = c.args.from in
    let o = c.args.out.now in
    elim c.if-marked.branch [
      | then-marked w ↦
          let e = sym c.marked.ensures ∙ w.if-marked.true in
          let inside : c.loop-pattern.next < length c.args.out.now = room v c.args.place c.loop-pattern.pattern (length v.patterns) c.loop-pattern.next c.args.from (length c.args.out.now) e (omega (arith, c.count-patterns.ensures.0)) c.loop-pattern.invariant.0 c.requires.room in (
            w.next-is ∙ omega (arith, c.loop-pattern.invariant.0, counted_more v c.args.place c.loop-pattern.pattern e),
            w.out-is
                ∙ ap (λ (x : List (ℕ × ℕ)). set x c.loop-pattern.next (c.args.place, c.loop-pattern.pattern)) c.loop-pattern.invariant.1
                ∙ written_one o (marked_at v i p) f n (i, p) c.loop-pattern.invariant.0 inside
                ∙ ap (λ (fs : List (ℕ × ℕ)). take c.args.from c.args.out.now ++ (fs ++ drop (c.loop-pattern.next + 1) c.args.out.now)) (sym (marked_more v i p e))
                ∙ ap (λ k. take c.args.from c.args.out.now ++ (marked_at v c.args.place (c.loop-pattern.pattern + 1) ++ drop k c.args.out.now)) (sym w.next-is),
          )
      | else-marked w ↦
          let e = sym c.marked.ensures ∙ w.if-marked.false in (
            w.next-is ∙ omega (arith, c.loop-pattern.invariant.0, ap (λ (fs : List (ℕ × ℕ)). length fs) (marked_same v c.args.place c.loop-pattern.pattern e)),
            w.out-is
                ∙ c.loop-pattern.invariant.1
                ∙ ap (λ (fs : List (ℕ × ℕ)). take c.args.from c.args.out.now ++ (fs ++ drop c.loop-pattern.next c.args.out.now)) (sym (marked_same v i p e))
                ∙ ap (λ k. take c.args.from c.args.out.now ++ (marked_at v c.args.place (c.loop-pattern.pattern + 1) ++ drop k c.args.out.now)) (sym w.next-is),
          )
    ]

pub returns : goal.returns
returns g c =
    let v : State = view g.T.Meant.meaning c.args.self.now in
    let e : c.loop-pattern.pattern ≡ length v.patterns = omega (arith, c.count-patterns.ensures.0, c.loop-pattern.auto.pattern-end, c.loop-pattern-test.false) in
    record {
      end = c.loop-pattern.invariant.0 ∙ ap (λ n. c.args.from + length (marked_at v c.args.place n)) e;
      written = c.loop-pattern.invariant.1 ∙ ap (λ n. take c.args.from c.args.out.now ++ (marked_at v c.args.place n ++ drop c.loop-pattern.next c.args.out.now)) e;
    }
