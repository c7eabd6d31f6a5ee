-- The search stands at a record, or is through.
use Rattle.labels.proofs.Chains.{Looking, through}
use Rattle.labels.proofs.index.Index.find.Given as goal

abbrev pub invariant-loop-next : goal.invariant-loop-next
invariant-loop-next l = Looking l.self.bytes.now l.self.tables l.key.name.now l.next

abbrev pub decreases-loop-next : goal.decreases-loop-next
decreases-loop-next l = through l.next
