-- One rule after the other, as the code takes them.
use Rattle.std.proofs.Common.{◌≡◌, ℕ, ◌+◌, ◌-◌, ◌*◌, ◌<◌, ◌≤◌, cond, ltb, ◌⊎◌, List, length, get_or, take, drop, Some, None, sym, ap, ◌∙◌, subst, inl, inr, ⊎_elim, arith, length-drop}
use lib.Seq.{take-length}
use Rattle.trees.specs.Forest.{Forest, Law, size_at, label_at}
use Rattle.trees.specs.Windows.{win, Sound, sound, Fits, fits_later}
use Rattle.patterns.specs.declared.row.Element.{Element}
use Rattle.matching.specs.declared.found.Match.{Match}
use Rattle.matching.specs.declared.rule.Rule.{Rule}
use Rattle.matching.specs.declared.rule.Rule.TheVariants.{Stuck, BothGo, BindBeforeLexeme, BindBeforeInner, BindLast, Enter, Open}
use Rattle.matching.specs.Rules.{Bindings, Outcome, tick, settled, after, bind, choose_inner, choose_leaf, by_rule, walks}
use Rattle.matching.specs.Levels.{Level}
use Rattle.matching.proofs.Winning.{choose_some}
use Rattle.matching.proofs.Fuel.{walks_step}
use Rattle.matching.proofs.Choosing.{Suited, suited}
use Rattle.matching.proofs.Bound.{tick_tick, tick_fails, goes_on, bind_after}
use Rattle.matching.proofs.Wholes.{level_drop}

-- where a level has come: what was to be found is what is still to be found, after the steps so far
pub record Reached (m : Forest) (n : ℕ) (o : Outcome) (most : ℕ) (es : List Element) (p e : ℕ) (a : Match) : Type 0 where
  pub goes : tick n o ≡ tick a.steps (walks m es p e a.places)
  pub level : Level es
  pub fit : Fits m p e
  pub brief : a.steps + 2 * (e - p) ≤ most

-- the rule that the code has chosen
abbrev pub Chosen : Forest → List Element → ℕ → ℕ → ℕ → ℕ → Rule → Type 0
Chosen m es p e l s r = r ≡ cond (ltb 1 s) (choose_inner es l (win m (p + s) e)) (choose_leaf es l)

-- a turn: a node with the label l and the size z stands at the place that was reached, and the rule r is chosen there
pub record Turn (m : Forest) (n : ℕ) (o : Outcome) (most : ℕ) (es : List Element) (p e : ℕ) (a : Match) (l z : ℕ) (r : Rule) : Type 0 where
  pub law : Sound m
  pub so : Reached m n o most es p e a
  pub here : p < e
  pub label : l ≡ label_at m p
  pub size : z ≡ size_at m p
  pub chosen : Chosen m es p e l z r

-- the turn in a case of the code
pub turn : {m : Forest} {n : ℕ} {o : Outcome} {most : ℕ} {es : List Element} {p e : ℕ} {a : Match} {l z : ℕ} {q r : Rule} → Law m → Reached m n o most es p e a → p < e → l ≡ label_at m p → z ≡ size_at m p → q ≡ r → Chosen m es p e l z q → Turn m n o most es p e a l z r
turn {m} w so h i j k c = record { law = sound m w; so = so; here = h; label = i; size = j; chosen = sym k ∙ c }

-- the same, where a case is that of two rules
pub turns : {m : Forest} {n : ℕ} {o : Outcome} {most : ℕ} {es : List Element} {p e : ℕ} {a : Match} {l z : ℕ} {q r v : Rule} → Law m → Reached m n o most es p e a → p < e → l ≡ label_at m p → z ≡ size_at m p → (q ≡ r) ⊎ (q ≡ v) → Chosen m es p e l z q → (Turn m n o most es p e a l z r) ⊎ (Turn m n o most es p e a l z v)
turns w so h i j k c = ⊎_elim (λ x. inl (turn w so h i j x c)) (λ x. inr (turn w so h i j x c)) k

-- what was found in a level that went well, and in one that did not
abbrev pub went : Match → Outcome
went a = record { bound = Some a.places; steps = a.steps }

abbrev pub missed : Match → Outcome
missed a = record { bound = None; steps = a.steps }

-- one more step
abbrev pub stepped : Match → Match
stepped a = record { places = a.places; steps = a.steps + 1 }

-- what binding the variable x to the place p comes to, after n steps
abbrev pub Binding : Forest → Bindings → ℕ → ℕ → ℕ → Outcome → Type 0
Binding m b n x p found = found ≡ tick n (bind m b (get_or b x None) x p settled)

-- a level in an equal tree
pub same_tree : {m k : Forest} {n : ℕ} {o : Outcome} {most : ℕ} {es : List Element} {p e : ℕ} {a : Match} → k ≡ m → Reached m n o most es p e a → Reached k n o most es p e a
same_tree {m} {k} {n} {o} {most} {es} {p} {e} {a} h so = subst (λ (f : Forest). Reached f n o most es p e a) (sym h) so

module _ {m : Forest} {n : ℕ} {o : Outcome} {most : ℕ} {es : List Element} {p e : ℕ} {a : Match} {l z : ℕ} where
  module _ {r : Rule} (t : Turn m n o most es p e a l z r) where
    -- the node's tree ends inside the level, and the node is one
    pub size_inside : p + z ≤ e
    size_inside = omega (arith, t.so.fit.ends p (omega arith) t.here, t.size)

    pub size_some : 0 < z
    size_some = omega (arith, t.law.sizes p (omega (arith, t.so.fit.within, t.here)), t.size)

    pub suits : Suited es r
    suits = subst (Suited es) (sym t.chosen) (suited es z l (win m (p + z) e))

    by_chosen : tick n o ≡ tick a.steps (by_rule (walks m) m es p z e a.places r)
    by_chosen =
        t.so.goes ∙ ap (tick a.steps) (walks_step m t.law es p e a.places t.so.fit
        ∙ ap (by_rule (walks m) m es p (size_at m p) e a.places) (choose_some m t.law es p e t.so.fit t.here)
        ∙ (λ i. by_rule (walks m) m es p (sym t.size i) e a.places (cond (ltb 1 (sym t.size i)) (choose_inner es (sym t.label i) (win m (p + sym t.size i) e)) (choose_leaf es (sym t.label i))))
        ∙ ap (by_rule (walks m) m es p z e a.places) (sym t.chosen))

    -- behind a group or a binding, which went well or not
    follows : (q found : Outcome) (k : Bindings → Outcome) → found ≡ tick (a.steps + 1) q → tick a.steps (tick 1 (after q k)) ≡ after found k
    follows q found k i = tick_tick a.steps 1 (after q k) ∙ goes_on (a.steps + 1) q found k i

  pub was_stuck : Turn m n o most es p e a l z Stuck → missed a ≡ tick n o
  was_stuck t = sym (by_chosen t ∙ tick_fails a.steps)

  pub both_went : Turn m n o most es p e a l z BothGo → Reached m n o most (drop 1 es) (p + 1) e (stepped a)
  both_went t = record {
    goes = by_chosen t ∙ tick_tick a.steps 1 (walks m (drop 1 es) (p + 1) e a.places);
    level = level_drop 1 es (suits t) t.so.level;
    fit = fits_later t.so.fit (p + 1) (omega arith);
    brief = omega (arith, t.so.brief, t.here);
  }

  pub was_opened : Turn m n o most es p e a l z Open → Reached m n o most es (p + 1) e (stepped a)
  was_opened t = record {
    goes = by_chosen t ∙ tick_tick a.steps 1 (walks m es (p + 1) e a.places);
    level = t.so.level;
    fit = fits_later t.so.fit (p + 1) (omega arith);
    brief = omega (arith, t.so.brief, t.here);
  }

  module _ (x : ℕ) where
    bind_follows : {r : Rule} (t : Turn m n o most es p e a l z r) (found : Outcome) (k : Bindings → Outcome) → Binding m a.places (a.steps + 1) x p found → tick a.steps (tick 1 (bind m a.places (get_or a.places x None) x p k)) ≡ after found k
    bind_follows t found k i = ap (λ (w : Outcome). tick a.steps (tick 1 w)) (bind_after m a.places (get_or a.places x None) x p k) ∙ follows t (bind m a.places (get_or a.places x None) x p settled) found k i

    module _ (d : Match) (few : d.steps ≤ a.steps + 1 + z) (i : Binding m a.places (a.steps + 1) x p (went d)) where
      pub bound_lexeme : Turn m n o most es p e a l z (BindBeforeLexeme x) → Reached m n o most (drop 2 es) (p + z + 1) e d
      bound_lexeme t = record {
        goes = by_chosen t ∙ bind_follows t (went d) (walks m (drop 2 es) (p + z + 1) e) i;
        level = level_drop 2 es (suits t).0 t.so.level;
        fit = fits_later t.so.fit (p + z + 1) (omega arith);
        brief = omega (arith, few, t.so.brief, size_inside t, size_some t);
      }

      bound_next : {r : Rule} (t : Turn m n o most es p e a l z r) → 1 ≤ length es → tick n o ≡ tick a.steps (tick 1 (bind m a.places (get_or a.places x None) x p (walks m (drop 1 es) (p + z) e))) → Reached m n o most (drop 1 es) (p + z) e d
      bound_next t k j = record {
        goes = j ∙ bind_follows t (went d) (walks m (drop 1 es) (p + z) e) i;
        level = level_drop 1 es k t.so.level;
        fit = fits_later t.so.fit (p + z) (omega arith);
        brief = omega (arith, few, t.so.brief, size_inside t, size_some t);
      }

      pub bound_tree : (Turn m n o most es p e a l z (BindBeforeInner x)) ⊎ (Turn m n o most es p e a l z (BindLast x)) → Reached m n o most (drop 1 es) (p + z) e d
      bound_tree t = ⊎_elim (λ j. bound_next j (suits j).0 (by_chosen j)) (λ j. bound_next j (suits j).0 (by_chosen j)) t

    pub differs_lexeme : (d : Match) → Binding m a.places (a.steps + 1) x p (missed d) → Turn m n o most es p e a l z (BindBeforeLexeme x) → missed d ≡ tick n o
    differs_lexeme d i t = sym (by_chosen t ∙ bind_follows t (missed d) (walks m (drop 2 es) (p + z + 1) e) i)

    pub differs_tree : (d : Match) → Binding m a.places (a.steps + 1) x p (missed d) → (Turn m n o most es p e a l z (BindBeforeInner x)) ⊎ (Turn m n o most es p e a l z (BindLast x)) → missed d ≡ tick n o
    differs_tree d i t = ⊎_elim (λ j. sym (by_chosen j ∙ bind_follows j (missed d) (walks m (drop 1 es) (p + z) e) i)) (λ j. sym (by_chosen j ∙ bind_follows j (missed d) (walks m (drop 1 es) (p + z) e) i)) t

  module _ {k : ℕ} (t : Turn m n o most es p e a l z (Enter k)) (d : Match) where
    -- what matching the group comes to
    abbrev pub GroupMatch : Outcome → Type 0
    GroupMatch found = found ≡ tick (a.steps + 1) (walks m (take (k - 1) (drop 1 es)) (p + 1) (p + z) a.places)

    group_follows : (found : Outcome) → GroupMatch found → tick n o ≡ after found (walks m (drop k es) (p + z) e)
    group_follows found i = by_chosen t ∙ follows t (walks m (take (k - 1) (drop 1 es)) (p + 1) (p + z) a.places) found (walks m (drop k es) (p + z) e) i

    pub entered : k ≤ length es → d.steps ≤ a.steps + 1 + 2 * ((p + z) - (p + 1)) → GroupMatch (went d) → Reached m n o most (drop k es) (p + z) e d
    entered j few i = record {
      goes = group_follows (went d) i;
      level = level_drop k es j t.so.level;
      fit = fits_later t.so.fit (p + z) (omega arith);
      brief = omega (arith, few, t.so.brief, size_inside t, size_some t);
    }

    pub not_entered : GroupMatch (missed d) → missed d ≡ tick n o
    not_entered i = sym (group_follows (missed d) i)

-- all that is behind the first n elements
pub rest_all : (n : ℕ) (es : List Element) → take (length es - n) (drop n es) ≡ drop n es
rest_all n es = let z : length es - n ≡ length (drop n es) = sym (length-drop n es) in ap (λ (k : ℕ). take k (drop n es)) z ∙ take-length (drop n es)
