-- What is answered for a name is right.
use Rattle.std.proofs.Common.{◌≡◌, Ok, Err, MatchResult, subst, rules}
use Rattle.std.proofs.lemmas.Result.{MatchResult-weaker}
use Rattle.labels.specs.Entries.{named, read_book}
use Rattle.labels.specs.Laws.{Named}
use Rattle.labels.proofs.Naming.{named_law}
use Rattle.labels.proofs.name_of.Goals as goal

pub returns-clause-law : goal.returns-clause-law
returns-clause-law c =
    let bs = c.args.bytes.now in
    let l = c.args.label in
    let value : MatchResult c.ok_or.result (λ n. named (read_book bs) l ≡ Ok n.now) (λ f. named (read_book bs) l ≡ Err f) = search rules in
    MatchResult-weaker c.ok_or.result value (λ n e. subst (Named bs l) e (named_law bs l)) (λ f e. subst (Named bs l) e (named_law bs l))
