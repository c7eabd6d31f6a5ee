-- The law of every run, from its parts, and as a played run has it.
use Rattle.std.proofs.Common.{◌≡◌, ℕ, List, [], ◌∷◌, ◌++◌, sym, refl, ap, ◌∙◌, subst}
use mathlib.Core.List.{Memᴰ}
use Rattle.patterns.specs.declared.row.Element.{Element}
use Rattle.patterns.specs.Elements.{WellFormed}
use Rattle.trees.specs.Forest.{Forest, Law}
use Rattle.runs.specs.Session.{State, Call, open_click, change, commit, abandon, undo, settle, add, rebuild, ask, Answer, making}
use Rattle.runs.specs.Log.{after, answer, run, answers, new_log, Log, log_of}
use Rattle.runs.specs.Runs.{Reached, EveryState, EveryRun, Played, PlayedBoth}
use Rattle.runs.proofs.Turns.{none_there, effects}
use Rattle.runs.proofs.Back.{Follows, follows_making, follows_run, accepted, undos_bring_back, abandon_brings_back}
use Rattle.runs.proofs.Marking.{Steady, steady}
use Rattle.runs.proofs.Findings.{after_a_rebuild, same_answers, questions}
use Rattle.runs.proofs.Trying.{rebuild_works}

every_state : (m : Forest) (a : ℕ) (cs : List Call) (s : State) → Reached m a cs s → EveryState s (log_of m a cs)
every_state m a cs s r =
    let k : Log = log_of m a cs in
    let h : Steady s = steady r in
    let f : Follows s k = subst (λ (t : State). Follows t k) r.by_calls (follows_run (making m a) cs (new_log m) (follows_making m a)) in
    record {
      law_of_trees = h.law;
      accepted = accepted s k f (λ o. rebuild_works s k h f (none_there s.journal.click (f.open_too ∙ o)));
      effects = effects s;
      questions = questions s k h f;
      what_is_found_is_right = after_a_rebuild s h;
      undo_brings_back = undos_bring_back s k f;
      abandon_brings_back = abandon_brings_back s k f;
    }

pub every_run_lem : EveryRun
every_run_lem = record {
  one = every_state;
  two = λ m n a b cs ds s t r q. record { rebuild_when_you_like = same_answers s t (steady r) (steady q) };
}

-- the pattern that a call adds, if it adds one, is well formed
abbrev pub Formed : Call → Type 0
Formed open_click = Unit {0}
Formed (change n p l) = Unit {0}
Formed (commit n) = Unit {0}
Formed (abandon n) = Unit {0}
Formed undo = Unit {0}
Formed settle = Unit {0}
Formed (add p) = WellFormed p
Formed rebuild = Unit {0}
Formed (ask q) = Unit {0}

-- it is so of each of some calls
abbrev pub AllFormed : List Call → Type 0
AllFormed [] = Unit {0}
AllFormed (c ∷ cs) = Formed c × AllFormed cs

all_patterned : (cs : List Call) → AllFormed cs → (p : List Element) → Memᴰ (add p) cs → WellFormed p
all_patterned [] h p i = elim i [ ]
all_patterned (c ∷ cs) h p (Memᴰ.head e) = subst Formed (sym e) h.0
all_patterned (c ∷ cs) h p (Memᴰ.tail i) = all_patterned cs h.1 p i

-- the premises of the law
pub reached : {m : Forest} {a : ℕ} {cs : List Call} {s : State} → Law m → AllFormed cs → run (making m a) cs ≡ s → Reached m a cs s
reached {cs = cs} l h e = record { lawful = l; patterned = all_patterned cs h; by_calls = e }

-- what was played, where the premises are met
pub played : {m : Forest} {a : ℕ} {cs : List Call} {s : State} → Reached m a cs s → Played m a cs s
played {m} {a} {cs} {s} r = record { by_calls = r.by_calls; law = every_run_lem.one m a cs s r }

pub played_both : {m : Forest} {a : ℕ} {cs : List Call} {s : State} {n : Forest} {b : ℕ} {ds : List Call} {t : State} → Reached m a cs s → Reached n b ds t → PlayedBoth m a cs s n b ds t
played_both {m} {a} {cs} {s} {n} {b} {ds} {t} r q = record { first = played r; second = played q; law = every_run_lem.two m n a b cs ds s t r q }

-- one call more
pub run_push : (s : State) (cs : List Call) (c : Call) → run s (cs ++ (c ∷ [])) ≡ after (run s cs) c
run_push s [] c = refl
run_push s (d ∷ cs) c = run_push (after s d) cs c

pub answers_push : (s : State) (cs : List Call) (c : Call) → answers s (cs ++ (c ∷ [])) ≡ answers s cs ++ (answer (run s cs) c ∷ [])
answers_push s [] c = refl
answers_push s (d ∷ cs) c = ap (λ (x : List Answer). answer s d ∷ x) (answers_push (after s d) cs c)
