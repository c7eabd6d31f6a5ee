-- Where all slots are filled, nothing is left to be read.
use Rattle.std.proofs.Common.{◌≡◌, take, Ok, sym, ap, ◌∙◌, arith}
use Rattle.std.proofs.lemmas.List.{take_all}
use Rattle.texts.specs.Books.{entries_of}
use Rattle.texts.specs.Tokens.{tokens_from}
use Rattle.texts.specs.Steps.{scan_on}
use Rattle.texts.proofs.Winning.{stays}
use Rattle.texts.proofs.tree.write_nodes.Goals as goal

pub returns : goal.returns
returns c =
    let p = c.loop-slot.nodes in
    let v = c.loop-slot.invariant in
    let h = c.requires in
    let all : take c.loop-slot.slot-index c.loop-slot.records ≡ c.loop-slot.records = take_all c.loop-slot.slot-index c.loop-slot.records (omega arith) in
    let e = sym (v.same ∙ ap (scan_on p) all) ∙ h.1 in
    h.1 ∙ ap Ok (stays (entries_of p.book.now) p.depth p.empty c.loop-slot.records (tokens_from p.reader.text.now p.reader.at) h.0 e (omega (arith, h.2)))
