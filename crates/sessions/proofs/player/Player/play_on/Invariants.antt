-- The session and its player stand where the calls so far lead, and their answers are noted.
use Rattle.std.proofs.Common.{◌≡◌, ℕ, suc, ◌<◌, ◌≤◌, [], get_or, None}
use Rattle.sessions.specs.Plays.{table_of, note_answer, stands, noted}
use Rattle.sessions.specs.View.{view}
use Rattle.sessions.proofs.player.Player.play_on.Given as goal

abbrev pub invariant-loop-i : goal.invariant-loop-i
invariant-loop-i g l =
    let v = view g.T.Meant.meaning l.initial.self.session in
    let t = table_of l.initial.self.hands l.initial.out in
    record {
      state : view g.T.Meant.meaning l.self.session ≡ (stands v t l.calls l.i).state;
      table : table_of l.self.hands l.out ≡ (stands v t l.calls l.i).table;
      answers : (k : ℕ) → k < l.i → note_answer [] (get_or l.notes k None) ≡ noted (stands v t l.calls (suc k)).answer;
      rest : (k : ℕ) → l.i ≤ k → get_or l.notes k None ≡ get_or l.initial.notes k None;
    }
