-- Nothing is known, and each bucket is empty.
use Rattle.std.proofs.Common.{None}
use Rattle.std.proofs.lemmas.List.{get_or-replicate}
use Rattle.labels.specs.Index.{link_of}
use Rattle.labels.proofs.index.Index.clear.Goals as goal

pub invariant_of-self-clause-heads : goal.invariant_of-self-clause-heads
invariant_of-self-clause-heads c = λ b h. get_or-replicate 4096 b (link_of None) (link_of None) h
