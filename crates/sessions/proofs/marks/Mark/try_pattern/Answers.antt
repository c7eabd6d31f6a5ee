-- The answer of the match tells the mark and the steps.
use Rattle.std.proofs.Common.{set, ap, ◌∙◌}
use Rattle.patterns.specs.Elements.{elements_of}
use Rattle.patterns.proofs.Kept.{kept}
use Rattle.trees.specs.Forest.{Forest}
use Rattle.matching.specs.Rules.{match_at_lem}
use Rattle.sessions.proofs.Tried.{Tells, tells}
use Rattle.sessions.proofs.marks.Mark.try_pattern.Goals as goal

pub returns-clause-steps : goal.returns-clause-steps
returns-clause-steps g c =
    let m : Forest = g.T.Meant.meaning c.args.tree.now in
    let es = elements_of c.args.pattern.now.row in
    let t : Tells c.match_at-found.result (match_at_lem m es c.args.place) = tells m es c.args.place c.match_at-found.result (kept c.args.pattern.now).formed.some_element c.match_at-found.ensures.answer in
    c.steps_of.ensures ∙ t.steps

pub returns-clause-matched : goal.returns-clause-matched
returns-clause-matched g c =
    let m : Forest = g.T.Meant.meaning c.args.tree.now in
    let es = elements_of c.args.pattern.now.row in
    let t : Tells c.match_at-found.result (match_at_lem m es c.args.place) = tells m es c.args.place c.match_at-found.result (kept c.args.pattern.now).formed.some_element c.match_at-found.ensures.answer in
    ap (set c.args.self.now.matched c.args.number) (c.is_ok.ensures.value ∙ t.hit)
