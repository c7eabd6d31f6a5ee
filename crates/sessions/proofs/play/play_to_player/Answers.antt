-- The player holds what `play` left.
use Rattle.sessions.proofs.Playing.{foreign_left}
use Rattle.sessions.proofs.play.play_to_player.Goals as goal

pub returns-clause-foreign : goal.returns-clause-foreign
returns-clause-foreign g c = foreign_left (g.T.Meant.meaning c.args.tree) c.args.name c.args.foreign.session c.args.out.now c.args.calls.now c.args.notes.now c.in_ok-session.hands c.play.new.out c.in_ok-session.ensures.tables
