-- How the turn of each call ends, by the tests that it passes, and the parts of the state that it leaves.
use Rattle.std.proofs.Common.{◌≡◌, ℕ, ◌<◌, Bool, true, false, ◌&&◌, eqb, List, [], ◌∷◌, length, get_or, drop, is_some, None, unwrap_or, vec_items, refl, ap, ◌∙◌, arith}
use Rattle.std.proofs.lemmas.Bool.{both_ways, and_parts, not-false}
use Rattle.patterns.specs.declared.row.Element.{Element}
use Rattle.trees.specs.Forest.{Forest}
use Rattle.runs.specs.Session.{Change, Journal, Marks, State, is_open, wrong}
use Rattle.sessions.specs.declared.journal.Journal.{Journal as Tables}
use Rattle.sessions.specs.Held.{journal_of}
use Rattle.sessions.specs.Journals.{clicks_of}
use Rattle.sessions.proofs.Tables.{length_held}

-- states whose parts are the same
pub same_state : {n n' : ℕ} {m m' : Forest} {ps ps' : List (List Element)} {j j' : Journal} {k k' : Marks} → n ≡ n' → m ≡ m' → ps ≡ ps' → j ≡ j' → k ≡ k' → ◌≡◌ {A = State} (record { name = n; tree = m; patterns = ps; journal = j; look = k }) (record { name = n'; tree = m'; patterns = ps'; journal = j'; look = k' })
same_state e a b c d = λ i. record { name = e i; tree = a i; patterns = b i; journal = c i; look = d i }

-- the newest click is open just if the journal says so
pub open_is : (b : Bool) (gs : List (List Change)) → is_some (journal_of b gs).click ≡ b
open_is true gs = refl
open_is false gs = refl

-- a receipt that is not wrong
pub right_open : (s : State) (n : ℕ) → wrong s n ≡ false → is_open s ≡ true
right_open s n e = (and_parts (is_open s) (eqb n s.name) (not-false (is_open s && eqb n s.name) e)).0

-- an open click stands
pub some_click : (j : Tables) → j.pending ≡ true → 0 < length (clicks_of j)
some_click j b = omega (arith, j.begun b, j.clicks.ok.0, length_held (vec_items j.clicks) (vec_items j.changes))

-- the journal with a click committed, and cleared
kept_one : (gs : List (List Change)) → 0 < length gs → gs ≡ get_or gs 0 [] ∷ drop 1 gs
kept_one [] h = absurd (omega arith)
kept_one (g ∷ gs) h = refl

pub kept_journal : (b c : Bool) (gs hs : List (List Change)) → b ≡ true → c ≡ false → hs ≡ gs → 0 < length gs → ◌≡◌ {A = Journal} (journal_of c hs) (record { clicks = unwrap_or (journal_of b gs).click [] ∷ (journal_of b gs).clicks; click = None })
kept_journal true c gs hs p q e h = ap (λ y. journal_of y hs) q ∙ ap (journal_of false) (e ∙ kept_one gs h)
kept_journal false c gs hs p q e h = absurd (both_ways false refl p)
