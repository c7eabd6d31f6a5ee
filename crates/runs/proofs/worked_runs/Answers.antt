-- The worked runs: all computes, but for the law itself.
use Rattle.std.proofs.Common.{◌≡◌, ℕ, refl, ap, arith}
use Rattle.trees.specs.Forest.{Law, Forest, subtree, label_at}
use Rattle.trees.proofs.Relabel.{relabel-keeps-the-law}
use Rattle.matching.specs.Rows.{S, D, gyzt}
use Rattle.matching.specs.Readings.{Reads, nothing_left, lexeme, variable, group}
use Rattle.matching.proofs.Witness.{law-S, law-D, formed-bb, formed-gyzt}
use Rattle.runs.specs.Example.{T, y-z-t}
use Rattle.runs.proofs.Every.{reached, played, played-both}
use Rattle.runs.proofs.worked_runs.Goals as goal

law-T : Law T
law-T = relabel-keeps-the-law S 9 10 law-S (omega arith)

abbrev reading : Reads y-z-t gyzt (subtree D 0)
reading = group (omega arith) (group (omega arith) (variable (omega arith) tt refl (lexeme refl refl (variable (omega arith) tt refl nothing_left))) (lexeme refl refl (variable (omega arith) tt refl nothing_left))) nothing_left

pub returns : goal.returns
returns c = record {
  example = record { pattern_number = refl; all-tried = refl; not_there = refl; the-receipt = refl; changed = refl; touched-tried = refl; now-there = refl; written = refl; its-bindings = refl; undone = refl; settled = refl };
  refusals = record { change-closed = refl; change-other = refl; commit-closed = refl; abandon-other = refl; open-open = refl; undo-open = refl; settle-open = refl; add_open = refl; rebuild-open = refl; ask-open = refl; ask-stale = refl; no-pattern = refl; no_place = refl; change-outside = refl; full-of-patterns = refl; full-of-clicks = refl; all-the-clicks = refl; full-of-changes = refl; the-last-change = refl; nothing-to-undo = refl; no_label = refl; no_room = refl; no-match = refl };
  law = record {
    two_runs = record { played = played-both (reached law-S (formed-bb, (tt, (tt, (tt, (tt, (tt, tt)))))) refl) (reached law-T (tt, (tt, (tt, (formed-bb, tt)))) refl); same-trees = refl; same-patterns = refl; first-rebuilds = refl; second-rebuilds = refl; first-works = refl; second-works = refl; same_answer = refl };
    found_right = record { played = played (reached law-D (formed-gyzt, (tt, tt)) refl); reading = reading; plainly = ((tt, tt), tt); found-there = refl; its-bindings = refl };
    brought-back = record { one-to-undo = refl; undone = refl; then-none = refl; tree-is-back = refl; none-after-undo = refl; none-after-settling = refl; settled_on = refl; changed-first = λ e. let z : ◌≡◌ {A = ℕ} 6 8 = ap (λ (m : Forest). label_at m 9) e in omega (arith, z); abandoned = refl };
    gone-stale = record { not-at-first = refl; not-by-a-refusal = refl; not-by-a-commit = refl; so-answered = refl; by-an-addition = refl; by-an-undo = refl; so-refused = refl; not-after-a-rebuild = refl; refused-leaves-all = refl };
    tried-again = record { added-one = refl; everywhere = refl; touched-once = refl; above-it = refl; abandoned-too = refl };
    filled = record { clicks-stand = refl; one-undone = refl; opened-again = refl; changes-stand = refl; all-abandoned = refl; all_settled = refl };
  };
}
