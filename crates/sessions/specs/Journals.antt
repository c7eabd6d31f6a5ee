-- What a journal holds.
use Rattle.std.specs.Prelude.{List, vec_items}
use Rattle.sessions.specs.declared.journal.Journal.{Journal as Tables}
use Rattle.runs.specs.Session.{Change, Journal}
use Rattle.sessions.specs.Held.{held, journal_of}

-- The clicks of a journal, the newest first.
abbrev pub clicks_of : Tables → List (List Change)
clicks_of j = held (vec_items j.clicks) (vec_items j.changes)

-- A journal's value as the journal of a state.
abbrev pub journal_view : Tables → Journal
journal_view j = journal_of j.pending (clicks_of j)
