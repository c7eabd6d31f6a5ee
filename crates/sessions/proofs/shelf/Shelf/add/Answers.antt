-- The row of a pattern joins the others.
use Rattle.std.proofs.Common.{◌<◌, ◌≤◌, List, [], ◌∷◌, ◌++◌, map, length, vec_items, vec_len, sym, ap, ◌∙◌, subst, ⊎_elim, arith, rules}
use mathlib.Core.Logic.{∥∥₁_map}
use Rattle.std.proofs.lemmas.List.{length-map, length_push, map_push, get_or_append_left, get_or_push}
use Rattle.std.proofs.lemmas.Bool.{cases_lt}
use Rattle.patterns.specs.Elements.{elements_of, IsPattern}
use Rattle.patterns.specs.declared.row.Row.{Row}
use Rattle.sessions.specs.Kept.{EachPattern, no_row}
use Rattle.sessions.proofs.shelf.Shelf.add.Goals as goal

one_more : (rows : List Row) (r : Row) → EachPattern rows → IsPattern r → EachPattern (rows ++ (r ∷ []))
one_more rows r old w i h = ⊎_elim
    (λ (l : i < length rows). subst IsPattern (sym (get_or_append_left rows (r ∷ []) no_row i l)) (old i l))
    (λ (l : length rows ≤ i). subst IsPattern (sym (get_or_push rows r no_row i (omega (arith, length_push rows r)))) w)
    (cases_lt i (length rows))

pub push_reserved-requires : goal.push_reserved-requires
push_reserved-requires c =
    let s = c.args.self.now in
    omega (arith, length-map (vec_items s.rows) elements_of, s.rows.ok.0, s.room, c.requires)

pub invariant_of-self : goal.invariant_of-self
invariant_of-self c =
    let s = c.args.self.now in
    let few : vec_len c.push_reserved.new.self ≤ 16 = omega (arith, length-map (vec_items s.rows) elements_of, s.rows.ok.0, c.requires, c.push_reserved.ensures.len) in
    record { room = search rules; few = few; kept = ∥∥₁_map s.kept (λ old. subst EachPattern (sym c.push_reserved.ensures.items) (one_more (vec_items s.rows) c.row.result old c.row.ensures.sound)) }

pub returns : goal.returns
returns c =
    let s = c.args.self.now in
    ap (map elements_of) c.push_reserved.ensures.items ∙ map_push elements_of (vec_items s.rows) c.row.result ∙ ap (λ r. map elements_of (vec_items s.rows) ++ (elements_of r ∷ [])) c.row.ensures.value
