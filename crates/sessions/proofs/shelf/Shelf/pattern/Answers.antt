-- A kept row is a pattern, and its elements are those of the number.
use Rattle.std.proofs.Common.{◌≡◌, ◌<◌, [], length, get_or, IfSome, vec_items, sym, ap, ◌∙◌, subst, arith}
use mathlib.Core.Bool.{Bool-set}
use mathlib.Core.Logic.{∥∥₁_elim}
use Rattle.std.proofs.lemmas.List.{length-map, get_or-map, get_or_default}
use Rattle.patterns.specs.Elements.{elements_of, IsPattern}
use Rattle.patterns.specs.declared.pattern.Pattern.{Pattern}
use Rattle.sessions.specs.Kept.{no_row}
use Rattle.sessions.proofs.shelf.Shelf.pattern.Goals as goal

pub index-requires : goal.index-requires
index-requires c =
    let s = c.args.self.now in
    omega (arith, length-map (vec_items s.rows) elements_of, s.rows.ok.0, c.requires)

pub unwrap-requires : goal.unwrap-requires
unwrap-requires c =
    let s = c.args.self.now in
    let inside : c.args.number < length (vec_items s.rows) = omega (arith, length-map (vec_items s.rows) elements_of, c.requires) in
    let is : get_or (vec_items s.rows) c.args.number no_row ≡ c.index.result.now = get_or_default (vec_items s.rows) c.args.number no_row c.index.result.now inside ∙ sym c.index.ensures in
    ∥∥₁_elim s.kept (Bool-set _ _) (λ all. c.from_row.ensures.test.1 (subst IsPattern is (all c.args.number inside)))

pub returns : goal.returns
returns c =
    let s = c.args.self.now in
    let inside : c.args.number < length (vec_items s.rows) = omega (arith, length-map (vec_items s.rows) elements_of, c.requires) in
    let row : c.unwrap.result.row ≡ c.index.result.now = subst (λ o. IfSome o (λ (p : Pattern). p.row ≡ c.index.result.now)) c.unwrap.ensures c.from_row.ensures.same in
    ap elements_of (row ∙ c.index.ensures) ∙ sym (get_or-map elements_of (vec_items s.rows) c.args.number c.index.result.now [] inside)
