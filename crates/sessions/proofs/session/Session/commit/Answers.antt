-- The open click stays, with none open.
use Rattle.std.proofs.Common.{◌≡◌, true, false, sym, ap, ◌∙◌}
use Rattle.std.proofs.lemmas.Bool.{cond-false}
use Rattle.runs.specs.Session.{Journal, done, wrong}
use Rattle.sessions.specs.Journals.{clicks_of}
use Rattle.sessions.specs.View.{view}
use Rattle.sessions.proofs.Ends.{right_open, open_is, kept_journal, some_click}
use Rattle.sessions.proofs.session.Session.commit.Goals as goal

pub returns-clause-turns : goal.returns-clause-turns
returns-clause-turns g c =
    let s = c.args.self.now in
    let j = s.journal in
    let v = view g.T.Meant.meaning s in
    let right : wrong v c.args.receipt.session ≡ false = c.in_ok-spend.ensures in
    let b : j.pending ≡ true = sym (open_is j.pending (clicks_of j)) ∙ right_open v c.args.receipt.session right in
    let kept = kept_journal j.pending c.keep.new.self.pending (clicks_of j) (clicks_of c.keep.new.self) b c.keep.ensures.closed c.keep.ensures.held (some_click j b) in
    ap (λ (k : Journal). (record { name = s.name; tree = v.tree; patterns = v.patterns; journal = k; look = v.look }, done)) kept ∙ sym (cond-false (wrong v c.args.receipt.session) _ _ right)
