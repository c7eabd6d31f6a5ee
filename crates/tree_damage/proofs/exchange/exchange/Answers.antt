-- What the proof of `exchange::exchange` is asked to show.
use Rattle.std.proofs.Common.{sym, ◌∙◌}
use Rattle.tree_damage.proofs.Exchanges.{second_put, accepted}
use Rattle.tree_damage.proofs.exchange.exchange.Goals as goal

pub returns : goal.returns
returns g c =
    let t = c.args.tree.now in
    let m = g.T.Meant.meaning t in
    let n = g.T.Meant.meaning c.put.new.self in
    let s = second_put m n c.args.a c.args.b c.in_ok-first.first c.in_ok-second.second (g.T.Meant.lawful t) (sym c.in_ok-first.ensures) (sym c.in_ok-second.ensures) c.in_ok-put.ensures.done in
    let r = c.put-2.ensures.answer ∙ s.0 in
    record { answer = r ∙ sym s.1; done = accepted _ _ _ _ c.put-2.result r (λ e. e ∙ s.2) c.put-2.ensures.done }
