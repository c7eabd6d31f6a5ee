-- The answer and the slots are those of the definition, whatever the book and the text.
use Rattle.std.proofs.Common.{ℕ, ◌<◌, ◌≤◌, ◌++◌, false, [], length, drop, Ok, Err, sym, ap, ◌∙◌, arith}
use Rattle.std.proofs.lemmas.Bool.{cond-true, cond-false, lt-ltb, le-ltb}
use Rattle.labels.specs.Entries.{entries, read_book}
use Rattle.texts.specs.Tokens.{tokens}
use Rattle.texts.specs.TreeText.{tree_scan}
use Rattle.texts.proofs.Results.{same_ok}
use Rattle.texts.proofs.TreeAnswers.{counted_ok, answered, slotted}
use Rattle.texts.proofs.tree.read_tree.Goals as goal

pub returns-then-count-records : goal.returns-then-count-records
returns-then-count-records c =
    let b = counted_ok c.args.book.now c.in_ok-checked.field-0 (sym c.open-checked.ensures.check ∙ c.in_ok-checked.was) in
    let h = c.in_ok-count.ensures in
    let e = ap (λ x. tree_scan (entries x) 0 false [] (tokens c.args.text.now)) (sym c.open-checked.ensures.book) ∙ h.1 in
    let l : length c.args.records.now < length h.0 = omega (arith, h.2, c.if-count-records.true) in
    record {
      value = ap Err c.at.ensures ∙ sym (answered (read_book c.args.book.now) (entries c.args.book.now) (tokens c.args.text.now) (length c.args.records.now) (Ok h.0) b e ∙ cond-true _ _ _ (lt-ltb _ _ l));
      written = sym (slotted (read_book c.args.book.now) (entries c.args.book.now) (tokens c.args.text.now) c.args.records.now (Ok h.0) b e ∙ cond-true _ _ _ (lt-ltb _ _ l));
    }

pub returns : goal.returns
returns c =
    let b = counted_ok c.args.book.now c.in_ok-checked.field-0 (sym c.open-checked.ensures.check ∙ c.in_ok-checked.was) in
    let h = c.in_ok-count.ensures in
    let e = ap (λ x. tree_scan (entries x) 0 false [] (tokens c.args.text.now)) (sym c.open-checked.ensures.book) ∙ h.1 in
    let l : length h.0 ≤ length c.args.records.now = omega (arith, h.2, c.if-count-records.false) in
    record {
      value = ap Ok h.2 ∙ sym (answered (read_book c.args.book.now) (entries c.args.book.now) (tokens c.args.text.now) (length c.args.records.now) (Ok h.0) b e ∙ cond-false _ _ _ (le-ltb _ _ l));
      written =
          ap (λ rs. rs ++ drop c.in_ok-count.count c.args.records.now) (same_ok (sym c.write_nodes.ensures ∙ h.1)) ∙ ap (λ (k : ℕ). h.0 ++ drop k c.args.records.now) h.2
          ∙ sym (slotted (read_book c.args.book.now) (entries c.args.book.now) (tokens c.args.text.now) c.args.records.now (Ok h.0) b e ∙ cond-false _ _ _ (le-ltb _ _ l));
    }
