-- What stands at a number is the name that has it.
use Rattle.std.proofs.Common.{◌∙◌, ap}
use Rattle.std.specs.Option.{option_map}
use Rattle.texts.specs.PatternText.{name_numbered}
use Rattle.texts.proofs.Naming.{backwards, name_from_get}
use Rattle.texts.proofs.pattern.names.Names.name.Goals as goal

pub returns : goal.returns
returns c =
    ap (option_map (λ x. x.now)) c.copied.ensures ∙ name_from_get c.as_slice.result.now c.args.number c.get.result c.get.ensures.lookup.0 c.get.ensures.lookup.1
    ∙ ap (λ xs. name_numbered (backwards xs) c.args.number) c.as_slice.ensures.value
