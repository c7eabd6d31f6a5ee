-- The names kept and those of the tokens left are all names, and the bytes left become fewer.
use Rattle.std.proofs.Common.{◌≡◌, ◌-◌, [], length}
use Rattle.texts.specs.Tokens.{tokens, tokens_from}
use Rattle.texts.specs.PatternText.{names_among}
use Rattle.texts.specs.PatternSteps.{names_in}
use Rattle.texts.proofs.pattern.variable_name.Given as goal

abbrev pub invariant-loop-names : goal.invariant-loop-names
invariant-loop-names l = names_among [] (tokens l.text) ≡ names_among (names_in l.names) (tokens_from l.reader.text.now l.reader.at)

abbrev pub decreases-loop-names : goal.decreases-loop-names
decreases-loop-names l = length l.reader.text.now - l.reader.at
