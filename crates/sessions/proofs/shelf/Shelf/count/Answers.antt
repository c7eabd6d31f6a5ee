-- A row is a pattern.
use Rattle.std.proofs.Common.{vec_items, sym, ◌∙◌, arith}
use Rattle.std.proofs.lemmas.List.{length-map}
use Rattle.patterns.specs.Elements.{elements_of}
use Rattle.sessions.proofs.shelf.Shelf.count.Goals as goal

pub returns : goal.returns
returns c =
    let s = c.args.self.now in
    (c.len.ensures ∙ s.rows.ok.0 ∙ sym (length-map (vec_items s.rows) elements_of), omega (arith, s.few))
