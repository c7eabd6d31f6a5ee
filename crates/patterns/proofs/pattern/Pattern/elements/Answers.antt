-- The elements of a row that is a pattern are well formed.
use Rattle.patterns.proofs.Kept.{kept}
use Rattle.patterns.proofs.pattern.Pattern.elements.Goals as goal

pub returns-clause-sound : goal.returns-clause-sound
returns-clause-sound c = (kept c.args.self.now).formed
