-- The bytes that pass from a byte on are a run of them.
use Rattle.std.proofs.Common.{◌≡◌, ◌∙◌, ◌+◌, ap, drop, arith, rules, tests, length-drop}
use Rattle.std.specs.Slice.Iter.{iter_rest}
use Rattle.std.proofs.lemmas.List.{take_all}
use Rattle.std.proofs.lemmas.List.Folds.{length-prefix_len}
use Rattle.std.proofs.lemmas.Iterator.{YieldsList-from_slice}
use Rattle.std.proofs.lemmas.Iterator.Consumers.{count_from_yields_List, YieldsList-at}
use Rattle.std.proofs.lemmas.Iterator.Search.{YieldsList-from_take_while}
use Rattle.texts.proofs.bytes.run_end.Goals as goal

pub returns-clause-value : goal.returns-clause-value
returns-clause-value g c =
    let s = drop c.args.from c.args.text.now in
    let passed = c.requires.1.1.0 in
    let whole : iter_rest c.iter.result ≡ s = c.iter.ensures.rest ∙ take_all _ s (omega (arith, length-drop c.args.from c.args.text.now)) in
    let count =
    count_from_yields_List c.take_while.result c.count.result c.count.ensures.ran
    (YieldsList-from_take_while _ g.passes (YieldsList-at c.take_while.ensures.source (YieldsList-from_slice s whole)) c.take_while.ensures.closure c.take_while.ensures.done (λ x b q k. search (rules, tests, passed))) in
    ap (λ n. c.args.from + n) (count ∙ length-prefix_len g.passes s)
