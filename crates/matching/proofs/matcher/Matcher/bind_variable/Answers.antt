-- No more pairs are compared than there are nodes at the place.
use Rattle.std.proofs.Common.{arith}
use Rattle.matching.proofs.Bound.{few_pairs}
use Rattle.matching.proofs.matcher.Matcher.bind_variable.Goals as goal

pub returns-in-Some-clause-brief : goal.returns-in-Some-clause-brief
returns-in-Some-clause-brief g c = omega (arith, few_pairs (g.T.Meant.meaning c.args.self.now.tree.now) c.in-Some.first c.args.place, c.compare.ensures.steps, c.requires.size)
