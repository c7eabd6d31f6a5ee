-- The receipt was in the hand, and what comes back is put there again.
use Rattle.std.proofs.Common.{◌≡◌, Some, MatchOption, Option, refl, ap, ◌∙◌, subst}
use Rattle.sessions.specs.declared.call.Hand.{Hand}
use Rattle.sessions.specs.declared.call.Hand.TheVariants.{Own, Foreign}
use Rattle.sessions.specs.declared.call.Hands.{Hands}
use Rattle.sessions.specs.declared.receipt.Receipt.{Receipt}
use Rattle.sessions.specs.Lent.{with_hand}
use Rattle.sessions.proofs.player.Player.spend.Goals as goal

held_some : (P : Type 0) (Q : Receipt → Type 0) (o : Option Receipt) (k : Receipt) → Some k ≡ o → Q k → MatchOption o P Q
held_some P Q o k e q = subst (λ (x : Option Receipt). MatchOption x P Q) e q

put_twice : (a : Hand) (h : Hands) (o p : Option Receipt) → with_hand a (with_hand a h o) p ≡ with_hand a h p
put_twice Own h o p = refl
put_twice Foreign h o p = refl

pub returns-in-Ok : goal.returns-in-Ok
returns-in-Ok g c = held_some _ _ _ c.in_ok-receipt.receipt (c.in_ok-receipt.ensures.value ∙ c.slot.ensures.value) (
    record { from = _; to = _; answer = _; began = refl; ended = refl; called = c.in-Ok.ensures; hands = ap (with_hand c.args.hand c.args.self.now.hands) c.in_ok-receipt.ensures.after; noted = refl }
    )

pub returns-in-Err : goal.returns-in-Err
returns-in-Err g c = held_some _ _ _ c.in_ok-receipt.receipt (c.in_ok-receipt.ensures.value ∙ c.slot.ensures.value) (
    record { from = _; to = _; answer = _; began = refl; ended = refl; called = c.in-Err.ensures; hands = put_twice c.args.hand c.args.self.now.hands c.take.new.self c.put.new.slot ∙ ap (with_hand c.args.hand c.args.self.now.hands) c.put.ensures; noted = refl }
    )
