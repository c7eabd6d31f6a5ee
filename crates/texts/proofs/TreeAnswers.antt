-- What is answered when a book was opened and a tree text was read.
use Rattle.std.proofs.Common.{◌≡◌, ℕ, false, cond, ltb, List, [], ◌++◌, length, drop, Ok, Err, Result, refl, ap, ◌∙◌}
use Rattle.refusals.specs.declared.Refusal.{Refusal}
use Rattle.labels.specs.Entries.{Entry, counted, entries, read_book}
use Rattle.trees.specs.declared.record.Record.{Record}
use Rattle.texts.specs.Results.{also}
use Rattle.texts.specs.Tokens.{Spot}
use Rattle.texts.specs.TreeText.{tree_scan, room_for, tree_answer, tree_slots}
use Rattle.texts.proofs.Results.{err_not_ok}

-- a book that was counted was read
counted_is : (x : Result (List Entry) Refusal) (k : ℕ) → counted x ≡ Ok k → x ≡ Ok (elim x [ Ok es ↦ es | Err f ↦ [] ])
counted_is (Ok es) k e = refl
counted_is (Err f) k e = absurd (err_not_ok e)

pub counted_ok : (b : List ℕ) (k : ℕ) → counted (read_book b) ≡ Ok k → read_book b ≡ Ok (entries b)
counted_ok b k h = counted_is (read_book b) k h

pub answered : (b : Result (List Entry) Refusal) (es : List Entry) (ts : List Spot) (n : ℕ) (x : Result (List Record) Refusal) → b ≡ Ok es → tree_scan es 0 false [] ts ≡ x → tree_answer b ts n ≡ also x (room_for n)
answered b es ts n x p q = ap (λ y. tree_answer y ts n) p ∙ ap (λ (y : Result (List Record) Refusal). also y (room_for n)) q

pub slotted : (b : Result (List Entry) Refusal) (es : List Entry) (ts : List Spot) (slots : List Record) (x : Result (List Record) Refusal) → b ≡ Ok es → tree_scan es 0 false [] ts ≡ x → tree_slots b ts slots ≡ (elim x [ Ok rs ↦ cond (ltb (length slots) (length rs)) slots (rs ++ drop (length rs) slots) | Err f ↦ slots ])
slotted b es ts slots x p q = ap (λ y. tree_slots y ts slots) p ∙ ap (λ (y : Result (List Record) Refusal). elim y [ Ok rs ↦ cond (ltb (length slots) (length rs)) slots (rs ++ drop (length rs) slots) | Err f ↦ slots ]) q
