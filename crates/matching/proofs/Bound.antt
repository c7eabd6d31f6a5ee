-- What a binding comes to, and how a walk goes on behind it.
use Rattle.std.proofs.Common.{◌≡◌, ℕ, ◌+◌, ◌≤◌, Bool, true, false, cond, set, Some, None, Option, sym, refl, ap, ◌∙◌, add-zero, add_assoc, zero-add, arith}
use Rattle.trees.specs.Forest.{Forest, size_at, subtree, same, compared}
use Rattle.matching.specs.Rules.{Bindings, Outcome, tick, fails, settled, after, after_bound, bind}
use Rattle.matching.proofs.Steps.{compared_most, subtree_most}

pub tick_tick : (a b : ℕ) (o : Outcome) → tick a (tick b o) ≡ tick (a + b) o
tick_tick a b o = λ i. record { bound = o.bound; steps = sym (add_assoc a b o.steps) i }

pub tick_settled : (n : ℕ) (b : Bindings) → tick n (settled b) ≡ record { bound = Some b; steps = n }
tick_settled n b = λ i. record { bound = Some b; steps = add-zero n i }

pub tick_fails : (n : ℕ) → tick n fails ≡ record { bound = None; steps = n }
tick_fails n = λ i. record { bound = None; steps = add-zero n i }

tick_after : (n : ℕ) (o : Outcome) (k : Bindings → Outcome) → tick n (after o k) ≡ after (tick n o) k
tick_after n o k = go o.bound
  where
    go : (r : Option Bindings) → tick n (after_bound o r k) ≡ after_bound (tick n o) r k
    go None = refl
    go (Some b) = tick_tick n o.steps (k b)

-- what follows an outcome that was found in code
pub goes_on : (n : ℕ) (o found : Outcome) (k : Bindings → Outcome) → found ≡ tick n o → tick n (after o k) ≡ after found k
goes_on n o found k h = tick_after n o k ∙ ap (λ (x : Outcome). after x k) (sym h)

pub bind_after : (m : Forest) (b : Bindings) (o : Option ℕ) (x p : ℕ) (k : Bindings → Outcome) → bind m b o x p k ≡ after (bind m b o x p settled) k
bind_after m b None x p k = λ i. record { bound = (k (set b x (Some p))).bound; steps = sym (zero-add (k (set b x (Some p))).steps) i }
bind_after m b (Some q) x p k = go (same (subtree m q) (subtree m p))
  where
    go : (t : Bool) → tick (compared (subtree m q) (subtree m p)) (cond t (k b) fails) ≡ after (tick (compared (subtree m q) (subtree m p)) (cond t (settled b) fails)) k
    go true = λ i. tick (sym (add-zero (compared (subtree m q) (subtree m p))) i) (k b)
    go false = refl

pub few_pairs : (m : Forest) (q p : ℕ) → compared (subtree m q) (subtree m p) ≤ size_at m p
few_pairs m q p = omega (arith, compared_most (subtree m q) (subtree m p), subtree_most m p)
