-- The counts of the clicks add up to the changes.
use Rattle.std.proofs.Common.{vec_items, sym, ◌∙◌}
use Rattle.sessions.proofs.Tables.{total_held}
use Rattle.sessions.proofs.journal.Journal.changes.Goals as goal

pub returns : goal.returns
returns c =
    let j = c.args.self.now in
    c.len.ensures ∙ sym (total_held (vec_items j.clicks) (vec_items j.changes) _ j.changes.ok.0 j.counted)
