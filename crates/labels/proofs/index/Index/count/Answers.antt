-- Each record that is counted is known.
use Rattle.std.proofs.Common.{sym, arith}
use Rattle.labels.proofs.Chains.{length_noted}
use Rattle.labels.proofs.index.Index.count.Goals as goal

pub returns : goal.returns
returns c = let x = c.args.self.now in sym (length_noted x.bytes.now x.tables.records x.tables.count (omega (arith, x.full, x.few)))
