-- The first mark is the first finding.
use Rattle.std.proofs.Common.{rules, ap, ◌∙◌}
use Rattle.runs.specs.Session.{State, Answer, first_finding}
use Rattle.std.specs.Option.{ok_or}
use Rattle.sessions.specs.View.{view, found_answer}
use Rattle.sessions.proofs.Scanned.{asked, first_told}
use Rattle.sessions.proofs.session.Session.first_finding.Goals as goal

pub returns-in_err-current : goal.returns-in_err-current
returns-in_err-current g c = let h = c.in_err-current.ensures first_finding in search rules

pub returns : goal.returns
returns g c =
    let v : State = view g.T.Meant.meaning c.args.self.now in
    ap (λ (a : Answer). (v, a)) (ap found_answer (c.ok_or.ensures.value ∙ ap (ok_or c.first_mark.result) c.refusal.ensures) ∙ first_told v c.first_mark.result c.first_mark.ensures ∙ asked v first_finding c.in_ok-current.ensures.0 c.in_ok-current.ensures.1)
