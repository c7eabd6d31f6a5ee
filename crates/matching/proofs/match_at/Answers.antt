-- The level at the place has the size that the tree answers, and ends as the definition has it.
use Rattle.std.proofs.Common.{◌≡◌, ◌+◌, List, replicate, None, Err, sym, ap, ◌∙◌}
use Rattle.refusals.specs.declared.Refusal.{Refusal}
use Rattle.patterns.specs.declared.row.Element.{Element}
use Rattle.patterns.specs.Elements.{elements_of}
use Rattle.patterns.proofs.Kept.{kept}
use Rattle.matching.specs.Rules.{tick, walks}
use Rattle.matching.specs.Answers.{match_answer}
use Rattle.matching.proofs.Walking.{went, missed}
use Rattle.matching.proofs.Answering.{size_there, match_ended, laws_hold}
use Rattle.matching.proofs.match_at.Goals as goal

pub returns-in-Ok : goal.returns-in-Ok
returns-in-Ok g c =
    let m = g.T.Meant.meaning c.args.tree.now in
    let es = elements_of c.args.pattern.now.row in
    let (h, k) = size_there m c.args.place c.in_ok-size.size c.in_ok-size.ensures in
    let i : went c.match_level.new.self.found ≡ tick 0 (walks (g.T.Meant.meaning c.args.tree.now) (elements_of c.args.pattern.now.row) c.args.place (c.args.place + c.in_ok-size.size) (replicate 16 None)) = c.in-Ok.ensures.answer ∙ ap (λ (es : List Element). tick 0 (walks (g.T.Meant.meaning c.args.tree.now) es c.args.place (c.args.place + c.in_ok-size.size) (replicate 16 None))) c.elements.ensures.value in
    let e = sym (match_ended m (g.T.Meant.lawful c.args.tree.now) es c.args.place c.in_ok-size.size h k (went c.match_level.new.self.found) i) in
    record { answer = e; laws = laws_hold m (g.T.Meant.lawful c.args.tree.now) es (kept c.args.pattern.now).formed c.args.place _ e }

pub returns-in-Err : goal.returns-in-Err
returns-in-Err g c =
    let m = g.T.Meant.meaning c.args.tree.now in
    let es = elements_of c.args.pattern.now.row in
    let (h, k) = size_there m c.args.place c.in_ok-size.size c.in_ok-size.ensures in
    let i : missed c.match_level.new.self.found ≡ tick 0 (walks (g.T.Meant.meaning c.args.tree.now) (elements_of c.args.pattern.now.row) c.args.place (c.args.place + c.in_ok-size.size) (replicate 16 None)) = c.in-Err.ensures.answer ∙ ap (λ (es : List Element). tick 0 (walks (g.T.Meant.meaning c.args.tree.now) es c.args.place (c.args.place + c.in_ok-size.size) (replicate 16 None))) c.elements.ensures.value in
    let e : Err c.no_match.result ≡ match_answer (g.T.Meant.meaning c.args.tree.now) (elements_of c.args.pattern.now.row) c.args.place = ap (λ (x : Refusal). Err x) c.no_match.ensures ∙ sym (match_ended m (g.T.Meant.lawful c.args.tree.now) es c.args.place c.in_ok-size.size h k (missed c.match_level.new.self.found) i) in
    record { answer = e; laws = laws_hold m (g.T.Meant.lawful c.args.tree.now) es (kept c.args.pattern.now).formed c.args.place _ e }
