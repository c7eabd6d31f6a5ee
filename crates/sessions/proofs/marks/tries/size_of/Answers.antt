-- Outside the tree the size is 0.
use Rattle.std.proofs.Common.{ℕ, Result, ap, ◌∙◌}
use Rattle.std.specs.Result.{result_unwrap_or}
use Rattle.refusals.specs.declared.Refusal.{Refusal}
use Rattle.sessions.proofs.Puts.{size_told}
use Rattle.sessions.proofs.marks.tries.size_of.Goals as goal

pub returns : goal.returns
returns g c = c.unwrap_or.ensures ∙ ap (λ (r : Result ℕ Refusal). result_unwrap_or r 0) c.size.ensures ∙ size_told (g.T.Meant.meaning c.args.tree.now) c.args.place
