-- No row, so each is a pattern.
use Rattle.std.proofs.Common.{length, ap, arith, rules}
use Rattle.sessions.proofs.shelf.Shelf.new.Goals as goal

pub invariant_of-result : goal.invariant_of-result
invariant_of-result c =
    let made = c.in_ok-rows.ensures in
    record { room = search rules; few = search rules; kept = ∣ (λ k h. absurd (omega (arith, ap length made.items))) ∣₁ }
