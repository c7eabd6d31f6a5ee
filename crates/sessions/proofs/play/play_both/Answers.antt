-- Each session is the one that was made, and then played on.
use Rattle.std.proofs.Common.{ap, ◌∙◌}
use Rattle.trees.specs.Forest.{Forest}
use Rattle.runs.specs.Session.{making}
use Rattle.runs.proofs.Every.{played_both}
use Rattle.sessions.specs.Plays.{Table, Noted, first_table, table_of}
use Rattle.sessions.specs.View.{view}
use Rattle.sessions.proofs.Playing.{reached_from, noted_from, foreign_left}
use Rattle.sessions.proofs.play.play_both.Goals as goal

pub returns : goal.returns
returns g c =
    let m : Forest = g.T.Meant.meaning c.args.tree in
    let n : Forest = g.U.Meant.meaning c.args.other_tree in
    let t : Table = first_table c.args.foreign.session c.args.out.now in
    let u : Table = first_table c.args.other_foreign.session c.args.other_out.now in
    let begun = ap (view g.T.Meant.meaning) c.new-player.ensures.session ∙ c.in-Ok.ensures.begun in
    let begun' = ap (view g.U.Meant.meaning) c.new-other.ensures.session ∙ c.in-Ok-new.ensures.begun in
    let x : Noted (making m c.args.name) t c.args.calls.now c.args.notes.now c.play_on.new.notes (table_of c.play_on.new.self.hands c.play_on.new.out) = noted_from begun (c.new-player.ensures.tables c.args.out.now) c.play_on.ensures.noted in
    let y : Noted (making n c.args.other_name) u c.args.other_calls.now c.args.other_notes.now c.play_on-2.new.notes (table_of c.play_on-2.new.self.hands c.play_on-2.new.out) = noted_from begun' (c.new-other.ensures.tables c.args.other_out.now) c.play_on-2.ensures.noted in
    record {
      played = played_both (reached_from m c.args.name t c.args.calls.now c.args.notes.now (g.T.Meant.lawful c.args.tree) begun (c.new-player.ensures.tables c.args.out.now) c.play_on.ensures.states) (reached_from n c.args.other_name u c.args.other_calls.now c.args.other_notes.now (g.U.Meant.lawful c.args.other_tree) begun' (c.new-other.ensures.tables c.args.other_out.now) c.play_on-2.ensures.states);
      noted = x;
      also = y;
      foreign = (foreign_left m c.args.name c.args.foreign.session c.args.out.now c.args.calls.now c.args.notes.now c.play_on.new.self.hands c.play_on.new.out x.table, foreign_left n c.args.other_name c.args.other_foreign.session c.args.other_out.now c.args.other_calls.now c.args.other_notes.now c.play_on-2.new.self.hands c.play_on-2.new.out y.table);
    }
