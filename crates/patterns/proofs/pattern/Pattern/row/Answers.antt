-- The row that the type keeps is a pattern.
use Rattle.patterns.proofs.Kept.{kept}
use Rattle.patterns.proofs.pattern.Pattern.row.Goals as goal

pub returns-clause-sound : goal.returns-clause-sound
returns-clause-sound c = kept c.args.self.now
