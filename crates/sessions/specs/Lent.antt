-- The receipt in a hand, and hands with what a call leaves of it.
use Rattle.std.specs.Prelude.{◌≡◌, Some, None, Option, Ok, Err, Result}
use Rattle.std.specs.Borrow.{Lends, MutBor, Fml}
use Rattle.std.specs.contracts.option.Option as option
use Rattle.refusals.specs.declared.Refusal.{Refusal}
use Rattle.sessions.specs.declared.call.Answer.{Answer}
use Rattle.sessions.specs.declared.call.Answer.TheVariants.{Done}
use Rattle.sessions.specs.declared.call.Hand.{Hand}
use Rattle.sessions.specs.declared.call.Hand.TheVariants.{Own, Foreign}
use Rattle.sessions.specs.declared.call.Hands.{Hands}
use Rattle.sessions.specs.contracts.call.Hands.{the_row}
use Rattle.sessions.specs.contracts.receipt.Receipt as receipt
use Rattle.sessions.specs.declared.receipt.Receipt.{Receipt}

-- The receipt in a hand, if there is one.
abbrev pub in_the_hand : Hand → Hands → Option Receipt
in_the_hand Own h = h.own
in_the_hand Foreign h = h.foreign

-- The hands with this in a hand, or nothing.
abbrev pub with_hand : Hand → Hands → Option Receipt → Hands
with_hand Own h o = record { own = o; foreign = h.foreign }
with_hand Foreign h o = record { own = h.own; foreign = o }

-- Hands end with what is left behind the reference in that hand.
abbrev pub LendsHand : MutBor Hands → Hand → MutBor (Option Receipt) → Fml
LendsHand s a r = Lends the_row (option.the_row receipt.the_row) s r (with_hand a s.now)

-- What a call that spends a receipt gives back of it, and what is noted.
abbrev pub given_back : Result (Unit {0}) (Receipt × Refusal) → Option Receipt
given_back (Ok u) = None
given_back (Err e) = Some e.0

abbrev pub told_of : Result (Unit {0}) (Receipt × Refusal) → Result Answer Refusal
told_of (Ok u) = Ok Done
told_of (Err e) = Err e.1

-- A call was made with the receipt k from a hand, in which is left what the call gave back, and its answer is noted.
pub record SpentBy {S : Type 0} (made : MutBor S → Receipt → Result (Unit {0}) (Receipt × Refusal) → MutBor S → Type 0) (a : Hand) (k : Receipt) (s : S) (h : Hands) (s' : S) (h' : Hands) (n : Option (Result Answer Refusal)) : Type 0 where
  pub from : MutBor S
  pub to : MutBor S
  pub answer : Result (Unit {0}) (Receipt × Refusal)
  pub began : from.now ≡ s
  pub ended : to.now ≡ s'
  pub called : made from k answer to
  pub hands : h' ≡ with_hand a h (given_back answer)
  pub noted : n ≡ Some (told_of answer)
