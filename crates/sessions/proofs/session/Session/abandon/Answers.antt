-- A click is open, so one stands.
use Rattle.std.proofs.Common.{sym, ◌∙◌}
use Rattle.sessions.specs.Journals.{clicks_of}
use Rattle.sessions.specs.View.{view}
use Rattle.sessions.proofs.Ends.{right_open, open_is, some_click}
use Rattle.sessions.proofs.session.Session.abandon.Goals as goal

pub put_back-requires : goal.put_back-requires
put_back-requires g c =
    let j = c.args.self.now.journal in
    some_click j (sym (open_is j.pending (clicks_of j)) ∙ right_open (view g.T.Meant.meaning c.args.self.now) c.args.receipt.session c.in_ok-spend.ensures)
