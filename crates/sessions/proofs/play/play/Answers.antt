-- The session is the one that was made, and then played on.
use Rattle.std.proofs.Common.{ap, ◌∙◌}
use Rattle.trees.specs.Forest.{Forest}
use Rattle.runs.specs.Session.{making}
use Rattle.runs.proofs.Every.{every_run_lem, played}
use Rattle.sessions.specs.Plays.{Table, Noted, first_table, table_of}
use Rattle.sessions.specs.View.{view}
use Rattle.sessions.proofs.Playing.{reached_from, noted_from}
use Rattle.sessions.proofs.play.play.Goals as goal

pub returns-in-Ok : goal.returns-in-Ok
returns-in-Ok g c =
    let m : Forest = g.T.Meant.meaning c.args.tree in
    let t : Table = first_table c.args.foreign.session c.args.out.now in
    let begun = ap (view g.T.Meant.meaning) c.new-player.ensures.session ∙ c.in-Ok.ensures.begun in
    let n : Noted (making m c.args.name) t c.args.calls.now c.args.notes.now c.play_on.new.notes (table_of c.play_on.new.self.hands c.play_on.new.out) = noted_from begun (c.new-player.ensures.tables c.args.out.now) c.play_on.ensures.noted in
    record {
      played = played (reached_from m c.args.name t c.args.calls.now c.args.notes.now (g.T.Meant.lawful c.args.tree) begun (c.new-player.ensures.tables c.args.out.now) c.play_on.ensures.states);
      tables = n.table;
      answers = n.answers;
      rest = n.rest;
      law = every_run_lem;
    }

pub returns-in-Err-clause-law : goal.returns-in-Err-clause-law
returns-in-Err-clause-law g c = every_run_lem
