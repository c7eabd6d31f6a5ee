-- A place with a plain reading matches.
use Rattle.std.proofs.Common.{◌≡◌, ℕ, zero, suc, ◌+◌, ◌-◌, ◌<◌, ◌≤◌, Bool, true, false, T, eqb, ltb, List, [], ◌∷◌, length, get_or, take, drop, set, replicate, Some, None, Option, sym, refl, ap, ◌∙◌, subst, ⊎_elim, arith}
use Rattle.std.proofs.lemmas.Bool.{cases_lt, cond-true, cond-false, lt-ltb, le-ltb, eq-eqb}
use Rattle.patterns.specs.declared.row.Element.{Element}
use Rattle.patterns.specs.declared.row.Element.TheVariants.{Lexeme, Variable, Group}
use Rattle.trees.specs.Forest.{Node, Forest, size_at, subtree, same, no_node}
use Rattle.matching.specs.declared.nodes.Seen.{Seen}
use Rattle.matching.specs.declared.nodes.Seen.TheVariants.{Leaf, Inner}
use Rattle.matching.specs.declared.rule.Rule.{Rule}
use Rattle.matching.specs.declared.rule.Rule.TheVariants.{Stuck, BothGo, BindBeforeLexeme, Enter, Open}
use Rattle.matching.specs.Rules.{next, fits, Bindings, Outcome, Walk, choose, choose_last, by_rule, bind, after, after_bound, fails, walk}
use Rattle.matching.specs.Readings.{Substitution, Reads, nothing_left, lexeme, variable, group, opening, Plain}
use Rattle.trees.proofs.Same.{same_refl}
use Rattle.matching.specs.Laws.{PlainReadingsMatch}
use Rattle.trees.specs.Windows.{win, win_none, win_cons, rest_win, first_win, subtree_win, subtree_cons, Sound, sound, Fits, fits_later, fits_inner, fits_at, fits_whole}
use Rattle.matching.proofs.Winning.{Goods, goods_take, goods_drop, goods_formed, none_some, drop_group, set_some, blank}

pub t_true : (t : Bool) → T t → t ≡ true
t_true true h = refl
t_true false h = absurd h

pub win_head : (m : Forest) (p e : ℕ) (a : Node) (f : Forest) → e ≤ length m → win m p e ≡ a ∷ f → (p < e) × (get_or m p no_node ≡ a) × (win m (p + 1) e ≡ f)
win_head m p e a f h z = ⊎_elim (λ k. let y : get_or m p no_node ∷ win m (p + 1) e ≡ a ∷ f = sym (win_cons m p e k h) ∙ z in (k, cc, cc))
    (λ k. let y : [] ≡ a ∷ f = sym (win_none m p e k) ∙ z in let x : ◌≡◌ {A = ℕ} 0 1 = cc in absurd (omega arith)) (cases_lt p e)

-- bindings that agree with a substitution
abbrev pub Suits : Forest → Substitution → Bindings → Type 0
Suits m σ b = (x q : ℕ) → get_or b x None ≡ Some q → subtree m q ≡ σ x

abbrev Wins : Forest → Substitution → Outcome → Type 0
Wins m σ o = (c : Bindings) × (o.bound ≡ Some c) × Suits m σ c

suits_set : (m : Forest) (σ : Substitution) (b : Bindings) (x p : ℕ) → Suits m σ b → subtree m p ≡ σ x → Suits m σ (set b x (Some p))
suits_set m σ b x p h z y q i = ⊎_elim (λ e. ap (subtree m) e.1 ∙ z ∙ ap σ (sym e.0)) (λ j. h y q j) (set_some b x p y q i)

bind_wins : (m : Forest) (σ : Substitution) (b : Bindings) (o : Option ℕ) (x p : ℕ) (k : Bindings → Outcome) → get_or b x None ≡ o → Suits m σ b → subtree m p ≡ σ x → ((d : Bindings) → Suits m σ d → Wins m σ (k d)) → Wins m σ (bind m b o x p k)
bind_wins m σ b None x p k e h z w = w (set b x (Some p)) (suits_set m σ b x p h z)
bind_wins m σ b (Some q) x p k e h z w =
    let y : same (subtree m q) (subtree m p) ≡ true = ap (λ (f : Forest). same f (subtree m p)) (h x q e ∙ sym z) ∙ same_refl (subtree m p) in
    subst (λ (o : Outcome). Wins m σ o) (sym (cond-true (same (subtree m q) (subtree m p)) (k b) fails y)) (w b h)

after_wins : (m : Forest) (σ : Substitution) (o : Outcome) (k : Bindings → Outcome) → Wins m σ o → ((d : Bindings) → Suits m σ d → Wins m σ (k d)) → Wins m σ (after o k)
after_wins m σ o k h w = subst (λ (r : Option Bindings). Wins m σ (after_bound o r k)) (sym h.1) (w h.0 h.2)

module _ (m : Forest) (s : Sound m) (σ : Substitution) (n : ℕ) (go : Walk)
    (wins : (es : List Element) (p e : ℕ) (b : Bindings) (v : Forest) (r : Reads σ es v) → Plain r → win m p e ≡ v → Fits m p e → Goods es → e - p < n → Suits m σ b → Wins m σ (go es p e b))
    (p e : ℕ) (b : Bindings) (f : Fits m p e) (u : e - p < suc n) (h : Suits m σ b) where
  last_wins : (k : p < e) (big : 1 < size_at m p) (x : ℕ) (o : Option ℕ) → subtree m p ≡ σ x → {es : List Element} {v : Forest} (r : Reads σ es v) → Plain r → win m (p + size_at m p) e ≡ v → Goods (Variable x o ∷ es) → Wins m σ (by_rule go m (Variable x o ∷ es) p (size_at m p) e b (choose_last x es (next v)))
  last_wins k big x o t nothing_left pl z g =
      bind_wins m σ b (get_or b x None) x p (go [] (p + size_at m p) e) refl h t (λ d i. wins [] (p + size_at m p) e d [] nothing_left tt z (fits_later f (p + size_at m p) (omega arith)) tt (omega arith) i)
  last_wins k big x o t (lexeme {l = l} {a = n} {es = es} {f = v} i j r) pl z g =
      let (q, a, y) = win_head m (p + size_at m p) e n v f.within z in
      let c : choose_last x (Lexeme l ∷ es) (next (n ∷ v)) ≡ BindBeforeLexeme x = ap (λ (i : Seen). choose_last x (Lexeme l ∷ es) (Some i)) (cond-false (ltb 1 n.size) Inner (Leaf n.label) (le-ltb 1 n.size (omega arith))) ∙ cond-true (eqb l n.label) (BindBeforeLexeme x) Open (eq-eqb l n.label (sym j)) in
      subst (λ (j : Rule). Wins m σ (by_rule go m (Variable x o ∷ (Lexeme l ∷ es)) p (size_at m p) e b j)) (sym c)
      (bind_wins m σ b (get_or b x None) x p (go es (p + size_at m p + 1) e) refl h t (λ d i. wins es (p + size_at m p + 1) e d v r pl y (fits_later f (p + size_at m p + 1) (omega arith)) g.1.1 (omega arith) i))
  last_wins k big x o t (variable {x = a} {c = c} {a = n} {es = es} {f = v} j q y r) pl z g =
      subst (λ (i : Seen). Wins m σ (by_rule go m (Variable x o ∷ (Variable a c ∷ es)) p (size_at m p) e b (choose_last x (Variable a c ∷ es) (Some i)))) (sym (cond-true (ltb 1 n.size) Inner (Leaf n.label) (lt-ltb 1 n.size j)))
      (bind_wins m σ b (get_or b x None) x p (go (Variable a c ∷ es) (p + size_at m p) e) refl h t (λ d i. wins (Variable a c ∷ es) (p + size_at m p) e d (n ∷ v) (variable j q y r) pl z (fits_later f (p + size_at m p) (omega arith)) g.1 (omega arith) i))
  last_wins k big x o t (group {k = a} {a = n} {es = es} {f = v} j q r) pl z g =
      subst (λ (i : Seen). Wins m σ (by_rule go m (Variable x o ∷ (Group a ∷ es)) p (size_at m p) e b (choose_last x (Group a ∷ es) (Some i)))) (sym (cond-true (ltb 1 n.size) Inner (Leaf n.label) (lt-ltb 1 n.size j)))
      (bind_wins m σ b (get_or b x None) x p (go (Group a ∷ es) (p + size_at m p) e) refl h t (λ d i. wins (Group a ∷ es) (p + size_at m p) e d (n ∷ v) (group j q r) pl z (fits_later f (p + size_at m p) (omega arith)) g.1 (omega arith) i))
  last_wins k big x o t (opening j r) pl z g = absurd pl

  some_wins : {es : List Element} {v : Forest} (r : Reads σ es v) → Plain r → win m p e ≡ v → Goods es → Wins m σ (by_rule go m es p (size_at m p) e b (choose es v))
  some_wins nothing_left pl z g = (b, refl, h)
  some_wins (lexeme {l = l} {a = n} {es = es} {f = v} i j r) pl z g =
      let (k, a, y) = win_head m p e n v f.within z in
      subst (λ (j : Rule). Wins m σ (by_rule go m (Lexeme l ∷ es) p (size_at m p) e b j)) (sym (cond-false (ltb 1 n.size) _ _ (le-ltb 1 n.size (omega arith)) ∙ cond-true (eqb l n.label) BothGo Stuck (eq-eqb l n.label (sym j))))
      (wins es (p + 1) e b v r pl y (fits_later f (p + 1) (omega arith)) g.1 (omega arith) h)
  some_wins (variable {x = x} {c = o} {a = n} {es = es} {f = v} j q y r) pl z g =
      let (k, a, d) = win_head m p e n v f.within z in
      let w : ℕ = n.size in
      let c : size_at m p ≡ w = ap (λ (i : Node). i.size) a in
      let t : subtree m p ≡ σ x = subtree_cons m s p e f k ∙ (λ i. a i ∷ take (c i - 1) (d i)) ∙ sym y in
      let rest : win m (p + size_at m p) e ≡ drop (w - 1) v = sym (rest_win m s p e f k) ∙ (λ i. drop (c i - 1) (d i)) in
      subst (λ (i : Rule). Wins m σ (by_rule go m (Variable x o ∷ es) p (size_at m p) e b i)) (sym (cond-true (ltb 1 w) _ _ (lt-ltb 1 w j) ∙ cond-true (fits o n.label) (choose_last x es (next (drop (w - 1) v))) Open (t_true (fits o n.label) q)))
      (last_wins k (omega arith) x o t r pl rest g)
  some_wins (group {k = a} {a = n} {es = es} {f = v} j q r) pl z g =
      let (k, y, d) = win_head m p e n v f.within z in
      let w : ℕ = n.size in
      let c : size_at m p ≡ w = ap (λ (i : Node). i.size) y in
      let rest : win m (p + size_at m p) e ≡ drop (w - 1) v = sym (rest_win m s p e f k) ∙ (λ i. drop (c i - 1) (d i)) in
      let first : win m (p + 1) (p + size_at m p) ≡ take (w - 1) v = sym (first_win m p e f k) ∙ (λ i. take (c i - 1) (d i)) in
      let in_e : p + size_at m p ≤ e = f.ends p (omega arith) k in
      subst (λ (i : Rule). Wins m σ (by_rule go m (Group a ∷ es) p (size_at m p) e b i)) (sym (cond-true (ltb 1 w) (Enter a) _ (lt-ltb 1 w j)))
      (after_wins m σ (go (take (a - 1) es) (p + 1) (p + size_at m p) b) (go (drop a (Group a ∷ es)) (p + size_at m p) e)
      (wins (take (a - 1) es) (p + 1) (p + size_at m p) b (take (w - 1) v) q pl.0 first (fits_inner s p (omega (arith, f.within))) (goods_take (a - 1) es g.1) (omega arith) h)
      (λ i y. subst (λ (x : List Element). Wins m σ (go x (p + size_at m p) e i)) (sym (drop_group a (Group a) es g.0))
      (wins (drop (a - 1) es) (p + size_at m p) e i (drop (w - 1) v) r pl.1 rest (fits_later f (p + size_at m p) (omega arith)) (goods_drop (a - 1) es g.1) (omega arith) y)))
  some_wins (opening j r) pl z g = absurd pl

plain_wins : (m : Forest) → Sound m → (σ : Substitution) (n : ℕ) (es : List Element) (p e : ℕ) (b : Bindings) (v : Forest) (r : Reads σ es v) → Plain r → win m p e ≡ v → Fits m p e → Goods es → e - p < n → Suits m σ b → Wins m σ (walk n m es p e b)
plain_wins m s σ zero es p e b v r pl z f g u h = absurd (omega arith)
plain_wins m s σ (suc n) es p e b v r pl z f g u h =
    subst (λ (w : Forest). Wins m σ (by_rule (walk n m) m es p (size_at m p) e b (choose es w))) (sym z) (some_wins m s σ n (walk n m) (plain_wins m s σ n) p e b f u h r pl z g)

blank_suits : (m : Forest) (σ : Substitution) (n : ℕ) → Suits m σ (replicate n None)
blank_suits m σ n x q h = none_some q (sym (blank n x) ∙ h)

-- a place with a plain reading matches
pub plain_readings_match : PlainReadingsMatch
plain_readings_match m es p l q h σ r pl =
    let s : Sound m = sound m l in
    let w = plain_wins m s σ (1 + length m) es p (p + size_at m p) (replicate 16 None) (subtree m p) r pl (sym (subtree_win m p)) (fits_at s p h) (goods_formed es q) (omega (arith, fits_whole m s p h)) (blank_suits m σ 16) in
    (w.0, w.1)
