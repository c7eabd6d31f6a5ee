-- The name that is found from the back has its number.
use Rattle.std.proofs.Common.{◌∙◌, ap, length, rules, sym, tests}
use Rattle.texts.proofs.Naming.{length-backwards, number_from_rposition, yields_back}
use Rattle.texts.proofs.pattern.names.Names.find.Goals as goal

pub returns-clause-value : goal.returns-clause-value
returns-clause-value c = number_from_rposition c.args.name.now _ _ _ c.rposition.result (ap length c.iter.ensures.rest ∙ ap length c.as_slice.ensures.value ∙ sym (length-backwards c.args.self.now.parts.items)) c.rposition.ensures.ran (yields_back _ (c.iter.ensures.rest ∙ c.as_slice.ensures.value)) (λ x b q k. search (rules, tests))
