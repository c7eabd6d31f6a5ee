-- The marks of the rows are the findings.
use Rattle.std.proofs.Common.{ℕ, ◌≤◌, length, vec_items, sum_by, sym, ap, ◌∙◌, arith}
use Rattle.std.proofs.lemmas.List.{length-map}
use Rattle.patterns.specs.Elements.{elements_of}
use Rattle.runs.specs.Session.{State}
use Rattle.sessions.specs.View.{view}
use Rattle.sessions.proofs.Scanned.{hits, counted_all}
use Rattle.sessions.proofs.Tried.{rows_wide}
use Rattle.sessions.proofs.session.Session.count_marks.Goals as goal

pub returns : goal.returns
returns g c =
    let v : State = view g.T.Meant.meaning c.args.self.now in
    let s = c.args.self.now.shelf in
    let few : length v.patterns ≤ 16 = omega (arith, length-map (vec_items s.rows) elements_of, s.rows.ok.0, s.few) in
    c.count-2.ensures ∙ ap (λ (n : ℕ). sum_by (hits n) v.look.marks) c.count.ensures.0 ∙ sym (counted_all v (λ i h. omega (arith, few, rows_wide (vec_items c.args.self.now.marks.places) i h)))
