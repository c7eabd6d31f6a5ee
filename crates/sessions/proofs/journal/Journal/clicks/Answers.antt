-- Each entry is a click.
use Rattle.std.proofs.Common.{vec_items, sym, ◌∙◌}
use Rattle.sessions.proofs.Tables.{length_held}
use Rattle.sessions.proofs.journal.Journal.clicks.Goals as goal

pub returns : goal.returns
returns c =
    let j = c.args.self.now in
    c.len.ensures ∙ j.clicks.ok.0 ∙ sym (length_held (vec_items j.clicks) (vec_items j.changes))
