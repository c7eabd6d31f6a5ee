-- The bindings are told as they were found.
use Rattle.std.proofs.Common.{◌≡◌, ℕ, List, Some, Ok, Err, Option, Result, IsOkAnd, MatchResult, ap, ◌∙◌, sym}
use Rattle.refusals.specs.declared.Refusal.{Refusal}
use Rattle.matching.specs.declared.found.Match.{Match}
use Rattle.sessions.specs.declared.call.Answer.{Answer}
use Rattle.sessions.specs.declared.call.Answer.TheVariants.{Bound}
use Rattle.sessions.specs.declared.call.Call.{Call}
use Rattle.runs.specs.Session.{State, ask, bindings, turn, Answer as Said}
use Rattle.sessions.specs.Plays.{Table, table_of, played_one, note_answer}
use Rattle.sessions.specs.View.{view, bound_answer}
use Rattle.sessions.proofs.player.Player.act.Goals as goal

told : (out : List (ℕ × ℕ)) (r : Result Match Refusal) (m : Result Answer Refusal) → MatchResult r (λ x. IsOkAnd m (λ y. y ≡ Bound x)) (λ e. m ≡ Err e) → note_answer out (Some m) ≡ Some (bound_answer r)
told out (Ok x) (Ok y) h = ap (λ a. note_answer out (Some (Ok a))) h
told out (Ok x) (Err e) h = elim h [ ]
told out (Err e) m h = ap (λ a. note_answer out (Some a)) h

pub returns-in-Bindings : goal.returns-in-Bindings
returns-in-Bindings g c =
    let v : State = view g.T.Meant.meaning c.args.self.now.session in
    let t : Table = table_of c.args.self.now.hands c.args.out.now in
    let said : note_answer c.args.out.now (Some c.map-in-Bindings.result) ≡ Some (turn v (ask (bindings c.in-Bindings.pattern c.in-Bindings.place))).1 = told c.args.out.now c.bindings.result c.map-in-Bindings.result c.map-in-Bindings.ensures.cases ∙ ap (λ (x : State × Said). Some x.1) c.bindings.ensures in
    ap (λ (a : Option Said). record { state = v; table = t; answer = a }) said ∙ ap (λ (k : Call). played_one v t k) (sym c.in-Bindings.is)
