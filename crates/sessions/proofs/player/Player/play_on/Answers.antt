-- One call more, and its answer.
use Rattle.std.proofs.Common.{◌≡◌, ℕ, suc, ◌+◌, ◌<◌, List, [], length, get_or, take, None, sym, ap, ◌∙◌, add-one, arith, length-take, below_more}
use Rattle.std.proofs.lemmas.List.{get_or_read, get_or-take, get_or-set_same, get_or-set_other}
use Rattle.sessions.specs.declared.call.Call.{Call}
use Rattle.sessions.specs.declared.call.Call.TheVariants.{Open}
use Rattle.runs.specs.Session.{State}
use Rattle.sessions.specs.Plays.{Table, PlayedOne, table_of, played_one, note_answer, stands, noted}
use Rattle.sessions.specs.View.{view}
use Rattle.sessions.proofs.Playing.{in_short}
use Rattle.sessions.proofs.player.Player.play_on.Goals as goal

pub loop-i-preserved : goal.loop-i-preserved
loop-i-preserved g c =
    let v : State = view g.T.Meant.meaning c.args.self.now.session in
    let t : Table = table_of c.args.self.now.hands c.args.out.now in
    let cs : List Call = c.args.calls.now in
    let i : ℕ = c.loop-i.i in
    let few : c.loop-i.i < c.min-count.result = omega (arith, c.loop-i-test.true, length-take c.min-count.result c.args.calls.now) in
    let inside : c.loop-i.i < length c.loop-i.notes = omega (arith, c.min-count.ensures, c.loop-i.auto.notes) in
    let read : c.call-item.result ≡ get_or c.args.calls.now c.loop-i.i Open = get_or_read (take c.min-count.result c.args.calls.now) c.loop-i.i c.call-item.result c.loop-i-test.true c.call-item.is Open ∙ get_or-take c.min-count.result c.args.calls.now c.loop-i.i Open few in
    let step : ◌≡◌ {A = PlayedOne} (record { state = view g.T.Meant.meaning c.act.new.self.session; table = table_of c.act.new.self.hands c.act.new.out; answer = note_answer c.act.new.out c.act.result }) (stands v t cs (suc i)) = c.act.ensures ∙ (λ j. played_one (c.loop-i.invariant.state j) (c.loop-i.invariant.table j) (read j)) in
    let next : stands v t cs (suc i) ≡ stands v t cs (i + 1) = ap (stands v t cs) (sym (add-one i)) in
    record {
      state = ap (λ (p : PlayedOne). p.state) (step ∙ next);
      table = ap (λ (p : PlayedOne). p.table) (step ∙ next);
      answers = below_more _ i
          (λ k h. ap (note_answer []) (get_or-set_other c.loop-i.notes c.loop-i.i k c.act.result None (λ e. omega arith)) ∙ c.loop-i.invariant.answers k h)
          (ap (note_answer []) (get_or-set_same c.loop-i.notes c.loop-i.i c.act.result None inside) ∙ in_short c.act.new.out c.act.result ∙ ap (λ (p : PlayedOne). noted p.answer) step);
      rest = λ k h. get_or-set_other c.loop-i.notes c.loop-i.i k c.act.result None (λ e. omega arith) ∙ c.loop-i.invariant.rest k (omega arith);
    }
