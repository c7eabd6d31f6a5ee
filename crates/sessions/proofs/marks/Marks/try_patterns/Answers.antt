-- One pattern more is tried.
use Rattle.std.proofs.Common.{ℕ, ◌+◌, leb, List, [], length, get_or, sym, ap, ◌∙◌, add-one, arith}
use Rattle.patterns.specs.declared.row.Element.{Element}
use Rattle.trees.specs.Forest.{Forest}
use Rattle.runs.specs.Session.{Marks}
use Rattle.sessions.specs.Looks.{marks_view}
use Rattle.sessions.specs.Shelves.{shelf_view}
use Rattle.sessions.specs.Tries.{trying, trying_all, tried_steps}
use Rattle.sessions.proofs.Tried.{all_long, total_more}
use Rattle.sessions.proofs.marks.Marks.try_patterns.Goals as goal

pub loop-number-preserved : goal.loop-number-preserved
loop-number-preserved g c =
    let m : Forest = g.T.Meant.meaning c.args.tree.now in
    let ps : List (List Element) = shelf_view c.args.shelf.now in
    let k : Marks = marks_view c.args.self.now in
    let n : ℕ = c.loop-number.number in
    record {
      marks = c.try_pattern-steps.ensures.marks ∙ (λ i. trying m (c.pattern.ensures i) n (c.loop-number.invariant.marks i)) ∙ ap (λ (j : ℕ). trying_all m ps j k) (sym (add-one n));
      steps = (λ i. c.loop-number.invariant.steps i + (c.try_pattern-steps.ensures.steps ∙ (λ j. tried_steps m (c.pattern.ensures j) (leb (c.loop-number.invariant.marks j).tried n) (c.loop-number.invariant.marks j).touched (length (c.loop-number.invariant.marks j).marks)) ∙ ap (tried_steps m (get_or ps n []) (leb k.tried n) k.touched) (all_long m ps k.tried k.touched k.marks n)) i)
          ∙ sym (total_more (λ j. tried_steps m (get_or ps j []) (leb k.tried j) k.touched (length k.marks)) n);
      few = omega (arith, c.loop-number.invariant.few, c.try_pattern-steps.ensures.few);
    }
