-- The binary search compares the labels of the records, which rise.
use Rattle.std.proofs.Common.{◌≤◌, length, Some, sym, ap, ◌∙◌, rules, arith}
use Rattle.std.proofs.lemmas.List.Sorted.{answers_always}
use Rattle.labels.proofs.Halving.{searched, ok_some, ok_none}
use Rattle.labels.proofs.index.Index.name.Goals as goal

pub returns-in_err-number : goal.returns-in_err-number
returns-in_err-number c =
    let t = c.args.self.now.tables in
    let few : t.count ≤ length t.records = omega (arith, c.args.self.now.full, c.args.self.now.few) in
    let facts = c.binary_search_by_key.ensures in
    let by_label = facts.position (λ r. r.label) (answers_always _ _ _ (λ f a r g called. search rules)) in
    rw c.from_residual.ensures (ok_none _ _ _ (sym c.in_err-number.was ∙ c.ok.ensures.value) (searched c.args.self.now.bytes.now t.records t.count c.args.label few c.requires _ facts.bound by_label))

pub returns : goal.returns
returns c =
    let t = c.args.self.now.tables in
    let few : t.count ≤ length t.records = omega (arith, c.args.self.now.full, c.args.self.now.few) in
    let facts = c.binary_search_by_key.ensures in
    let by_label = facts.position (λ r. r.label) (answers_always _ _ _ (λ f a r g called. search rules)) in
    ap Some c.name_in.ensures ∙ ok_some _ _ _ c.in_ok-number.number (sym c.in_ok-number.was ∙ c.ok.ensures.value) (searched c.args.self.now.bytes.now t.records t.count c.args.label few c.requires _ facts.bound by_label) _
