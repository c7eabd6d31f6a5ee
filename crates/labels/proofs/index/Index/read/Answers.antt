-- What was read is judged.
use Rattle.std.proofs.Common.{◌≡◌, Ok, Err, subst, rules}
use Rattle.labels.specs.Entries.{counted, read_book}
use Rattle.labels.specs.Laws.{Judged}
use Rattle.labels.proofs.Judging.{judged}
use Rattle.labels.proofs.index.Index.read.Goals as goal

pub returns-in-Ok-clause-law : goal.returns-in-Ok-clause-law
returns-in-Ok-clause-law c =
    let bs = c.args.self.now.bytes.now in
    let check : counted (read_book bs) ≡ Ok c.count.result = search rules in
    subst (Judged bs) check (judged bs)

pub returns-in-Err-clause-law : goal.returns-in-Err-clause-law
returns-in-Err-clause-law c =
    let bs = c.args.self.now.bytes.now in
    let check : counted (read_book bs) ≡ Err c.in-Err.refusal = search rules in
    subst (Judged bs) check (judged bs)
