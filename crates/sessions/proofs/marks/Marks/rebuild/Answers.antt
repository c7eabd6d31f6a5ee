-- The rows are those of a rebuild, and nothing is touched.
use Rattle.std.proofs.Common.{◌≡◌, ℕ, ◌≤◌, false, List, length, take, drop, replicate, vec_items, ap, ◌∙◌, arith}
use Rattle.std.proofs.lemmas.List.{length-map}
use Rattle.patterns.specs.declared.row.Element.{Element}
use Rattle.patterns.specs.Elements.{elements_of}
use Rattle.trees.specs.Forest.{Forest, size_at}
use Rattle.runs.specs.Session.{Marks, any}
use Rattle.sessions.specs.declared.shelf.Shelf.{Shelf}
use Rattle.sessions.specs.Looks.{marks_view}
use Rattle.sessions.specs.Shelves.{shelf_view}
use Rattle.sessions.specs.Tries.{spreading, trying_all, all_steps}
use Rattle.runs.proofs.Marking.{length_tabulate}
use Rattle.sessions.proofs.Tried.{all_rebuilt, all_stepped, rows_wide, as_many}
use Rattle.sessions.proofs.marks.Marks.rebuild.Goals as goal

few : (s : Shelf) → length (shelf_view s) ≤ 16
few s = omega (arith, length-map (vec_items s.rows) elements_of, s.rows.ok.0, s.few)

pub returns-clause-marks : goal.returns-clause-marks
returns-clause-marks g c =
    let m : Forest = g.T.Meant.meaning c.args.tree.now in
    let ps : List (List Element) = shelf_view c.args.shelf.now in
    let ms = vec_items c.args.self.now.places in
    let K : Marks = marks_view c.args.self.now in
    let all : marks_view c.try_patterns-steps.new.self ≡ trying_all m ps (length ps) (spreading m K) = c.try_patterns-steps.ensures.marks ∙ ap (trying_all m ps (length ps)) c.spread.ensures in
    let none = c.rest.ensures.touched ∙ ap (λ (k : Marks). replicate (length k.touched) false) all ∙ ap (λ (n : ℕ). replicate n false) (length_tabulate (λ i. any (take (size_at m i) (drop i K.touched))) (length K.touched)) in
    let rows = c.rest.ensures.rows ∙ ap (λ (k : Marks). k.marks) all ∙ all_rebuilt m ps K (rows_wide ms) (as_many ms) (few c.args.shelf.now) in
    λ i. record { tried = c.count-self.ensures.0 i; touched = none i; marks = rows i; stale = false }

pub returns-clause-steps : goal.returns-clause-steps
returns-clause-steps g c =
    let m : Forest = g.T.Meant.meaning c.args.tree.now in
    let ps : List (List Element) = shelf_view c.args.shelf.now in
    let K : Marks = marks_view c.args.self.now in
    c.try_patterns-steps.ensures.steps ∙ ap (λ (k : Marks). all_steps m ps k.tried k.touched (length k.marks) (length ps)) c.spread.ensures ∙ all_stepped m ps K (as_many (vec_items c.args.self.now.places))
