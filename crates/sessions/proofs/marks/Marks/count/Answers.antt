-- At most 16 marks at each of at most 4096 places.
use Rattle.std.proofs.Common.{◌^◌, ◌≤◌, length, arith, rules}
use Rattle.std.proofs.lemmas.Iterator.{YieldsList-from_slice}
use Rattle.std.proofs.lemmas.Iterator.Adapters.{fits_from_length, at_most_from_yields_List}
use Rattle.sessions.proofs.marks.Marks.count.Goals as goal

pub sum-requires-clause-fits : goal.sum-requires-clause-fits
sum-requires-clause-fits c =
    let few : length c.deref.result.now ≤ 4096 = omega (arith, c.deref.ensures.len, c.args.self.now.few) in
    fits_from_length _ _ 4096 (2 ^ 64) (at_most_from_yields_List (YieldsList-from_slice c.deref.result.now cc) few) c.map.ensures.closure (omega arith) (λ x r q k. search rules)
