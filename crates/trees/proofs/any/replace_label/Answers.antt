-- What the proof of `any::replace_label` is asked to show.
use Rattle.std.proofs.Common.{sym}
use Rattle.trees.proofs.Comparing.{put_back}
use Rattle.trees.proofs.any.replace_label.Goals as goal

pub returns-clause-back : goal.returns-clause-back
returns-clause-back g c = put_back (g.T.Meant.meaning c.args.tree.now) _ c.args.place c.args.label c.in_ok-old.old (sym c.in_ok-old.ensures) c.in_ok-put.ensures.done
