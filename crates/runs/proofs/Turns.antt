-- What a turn does, once for all: it leaves the state, or the call was accepted and its tests failed.
use Rattle.std.proofs.Common.{◌≡◌, ℕ, ◌+◌, ◌<◌, Bool, true, false, not, ◌&&◌, eqb, ltb, leb, List, [], ◌∷◌, ◌++◌, length, is_some, Some, None, Option, unwrap_or, sym, refl, ap, ◌∙◌, arith}
use Rattle.std.proofs.lemmas.Bool.{cond_both, both_ways, leb-false, ltb-false, eqb-true}
use Rattle.patterns.specs.declared.row.Element.{Element}
use Rattle.trees.specs.Forest.{label_at, relabel}
use Rattle.runs.specs.Session.{Change, State, Question, Call, open_click, change, commit, abandon, undo, settle, add, rebuild, ask, Answer, done, receipt, number, steps, Turn, places, is_open, opened, wrong, total_changes, noting, putting, extending, marking, undo_first, up_to_date, rebuild_steps, asking, turn}
use Rattle.runs.specs.Log.{accepts}
use Rattle.runs.specs.Runs.{alters, Effects}

-- the state after a rebuild
abbrev pub rebuilt : State → State
rebuilt s = marking s (up_to_date s)

-- how a turn goes
pub data Went (s : State) : Call → State → Answer → Type 0 where
  stayed : {c : Call} {a : Answer} → accepts a ≡ false → Went s c s a
  asked : {q : Question} → Went s (ask q) s (asking s q)
  opens : s.journal.click ≡ None → length s.journal.clicks < 64 → Went s open_click (noting s s.journal.clicks (Some [])) (receipt s.name)
  changes : {n p l : ℕ} → n ≡ s.name → s.journal.click ≡ Some (opened s) → p < places s → length (opened s) + total_changes s.journal.clicks < 256 → l < 32768 →
      Went s (change n p l) (noting (putting s (record { place = p; label = l } ∷ [])) s.journal.clicks (Some (record { place = p; label = label_at s.tree p } ∷ opened s))) done
  commits : {n : ℕ} → n ≡ s.name → s.journal.click ≡ Some (opened s) → Went s (commit n) (noting s (opened s ∷ s.journal.clicks) None) done
  abandons : {n : ℕ} → n ≡ s.name → s.journal.click ≡ Some (opened s) → Went s (abandon n) (noting (putting s (opened s)) s.journal.clicks None) done
  undoes : {c : List Change} {cs : List (List Change)} → s.journal.click ≡ None → s.journal.clicks ≡ c ∷ cs → Went s undo (noting (putting s c) cs None) done
  settles : s.journal.click ≡ None → Went s settle (noting s [] None) (number (length s.journal.clicks))
  adds : {p : List Element} → s.journal.click ≡ None → length s.patterns < 16 → Went s (add p) (extending s p) (number (length s.patterns))
  rebuilds : s.journal.click ≡ None → Went s rebuild (rebuilt s) (steps (rebuild_steps s))

pub none_there : {A : Type 0} (o : Option A) → is_some o ≡ false → o ≡ None
none_there None e = refl
none_there (Some a) e = cc

pub some_there : {A : Type 0} (o : Option (List A)) → is_some o ≡ true → o ≡ Some (unwrap_or o [])
some_there None e = cc
some_there (Some a) e = refl

right_is_open : (s : State) (n : ℕ) → wrong s n ≡ false → s.journal.click ≡ Some (opened s)
right_is_open s n h = some_there s.journal.click (go (is_open s) (eqb n s.name) h)
  where
    go : (t u : Bool) → not (t && u) ≡ false → t ≡ true
    go true u h = refl
    go false u h = sym h

right_name : (s : State) (n : ℕ) → wrong s n ≡ false → n ≡ s.name
right_name s n h = eqb-true n s.name (go (is_open s) (eqb n s.name) h)
  where
    go : (t u : Bool) → not (t && u) ≡ false → u ≡ true
    go true true h = refl
    go true false h = sym h
    go false u h = absurd (both_ways true h refl)

abbrev Is : State → Call → Turn → Type 0
Is s c t = Went s c t.0 t.1

went_undo : (s : State) → s.journal.click ≡ None → (cs : List (List Change)) → s.journal.clicks ≡ cs → Is s undo (undo_first s cs)
went_undo s o [] e = stayed refl
went_undo s o (c ∷ cs) e = undoes o e

pub went : (s : State) (c : Call) → Is s c (turn s c)
went s open_click = cond_both (is_open s) _ _ (Is s open_click) (λ e. stayed refl) (λ e. cond_both (leb 64 (length s.journal.clicks)) _ _ (Is s open_click) (λ i. stayed refl) (λ i. opens (none_there s.journal.click e) (leb-false 64 (length s.journal.clicks) i)))
went s (change n p l) = let I : Turn → Type 0 = Is s (change n p l) in let k : ℕ = length (opened s) + total_changes s.journal.clicks in
    cond_both (wrong s n) _ _ I (λ e. stayed refl) (λ e. cond_both (leb (places s) p) _ _ I (λ i. stayed refl) (λ i. cond_both (leb 256 k) _ _ I (λ j. stayed refl) (λ j. cond_both (ltb 32767 l) _ _ I (λ x. stayed refl)
    (λ x. changes (right_name s n e) (right_is_open s n e) (leb-false (places s) p i) (leb-false 256 k j) (omega (arith, ltb-false 32767 l x))))))
went s (commit n) = cond_both (wrong s n) _ _ (Is s (commit n)) (λ e. stayed refl) (λ e. commits (right_name s n e) (right_is_open s n e))
went s (abandon n) = cond_both (wrong s n) _ _ (Is s (abandon n)) (λ e. stayed refl) (λ e. abandons (right_name s n e) (right_is_open s n e))
went s undo = cond_both (is_open s) _ _ (Is s undo) (λ e. stayed refl) (λ e. went_undo s (none_there s.journal.click e) s.journal.clicks refl)
went s settle = cond_both (is_open s) _ _ (Is s settle) (λ e. stayed refl) (λ e. settles (none_there s.journal.click e))
went s (add p) = cond_both (is_open s) _ _ (Is s (add p)) (λ e. stayed refl) (λ e. cond_both (leb 16 (length s.patterns)) _ _ (Is s (add p)) (λ i. stayed refl) (λ i. adds (none_there s.journal.click e) (leb-false 16 (length s.patterns) i)))
went s rebuild = cond_both (is_open s) _ _ (Is s rebuild) (λ e. stayed refl) (λ e. rebuilds (none_there s.journal.click e))
went s (ask q) = asked

-- a refused call leaves the state
refused_stays : {s t : State} {c : Call} {a : Answer} → Went s c t a → accepts a ≡ false → t ≡ s
refused_stays (stayed h) e = refl
refused_stays asked e = refl
refused_stays (opens h i) e = absurd (both_ways true e refl)
refused_stays (changes g h i j k) e = absurd (both_ways true e refl)
refused_stays (commits g h) e = absurd (both_ways true e refl)
refused_stays (abandons g h) e = absurd (both_ways true e refl)
refused_stays (undoes h i) e = absurd (both_ways true e refl)
refused_stays (settles h) e = absurd (both_ways true e refl)
refused_stays (adds h i) e = absurd (both_ways true e refl)
refused_stays (rebuilds h) e = absurd (both_ways true e refl)

-- what an accepted call does
not_done : {X : Type 0} {a b : Answer} → accepts a ≡ false → accepts b ≡ true → a ≡ b → X
not_done {a = a} h k e = absurd (both_ways (accepts a) h (ap accepts e ∙ k))

name_stays : {s t : State} {c : Call} {a : Answer} → Went s c t a → t.name ≡ s.name
name_stays (stayed h) = refl
name_stays asked = refl
name_stays (opens h i) = refl
name_stays (changes g h i j k) = refl
name_stays (commits g h) = refl
name_stays (abandons g h) = refl
name_stays (undoes h i) = refl
name_stays (settles h) = refl
name_stays (adds h i) = refl
name_stays (rebuilds h) = refl

patterns_stay : {s t : State} {c : Call} {a : Answer} → Went s c t a → ((p : List Element) → c ≡ add p → ⊥) → t.patterns ≡ s.patterns
patterns_stay (stayed h) f = refl
patterns_stay asked f = refl
patterns_stay (opens h i) f = refl
patterns_stay (changes g h i j k) f = refl
patterns_stay (commits g h) f = refl
patterns_stay (abandons g h) f = refl
patterns_stay (undoes h i) f = refl
patterns_stay (settles h) f = refl
patterns_stay (adds {p = p} h i) f = absurd (f p refl)
patterns_stay (rebuilds h) f = refl

changing_puts : {s t : State} {n p l : ℕ} {a : Answer} → Went s (change n p l) t a → a ≡ done → t.tree ≡ relabel s.tree p l
changing_puts (stayed h) e = not_done h refl e
changing_puts (changes g h i j k) e = refl

tree_stays : {s t : State} {c : Call} {a : Answer} → Went s c t a → alters c ≡ false → t.tree ≡ s.tree
tree_stays (stayed h) e = refl
tree_stays asked e = refl
tree_stays (opens h i) e = refl
tree_stays (changes g h i j k) e = absurd (both_ways true e refl)
tree_stays (commits g h) e = refl
tree_stays (abandons g h) e = absurd (both_ways true e refl)
tree_stays (undoes h i) e = absurd (both_ways true e refl)
tree_stays (settles h) e = refl
tree_stays (adds h i) e = refl
tree_stays (rebuilds h) e = refl

adding_adds : {s t : State} {p : List Element} {a : Answer} → Went s (add p) t a → (n : ℕ) → a ≡ number n → t.patterns ≡ s.patterns ++ (p ∷ [])
adding_adds (stayed h) n e = not_done h refl e
adding_adds (adds h i) n e = refl

-- the effects of calls
pub effects : (s : State) → Effects s
effects s = record {
  refused_leaves_all = λ c. refused_stays (went s c);
  asking_leaves_all = λ q. refl;
  name_stays = λ c. name_stays (went s c);
  changing_puts = λ n p l. changing_puts (went s (change n p l));
  others_keep_the_tree = λ c. tree_stays (went s c);
  adding_adds = λ p. adding_adds (went s (add p));
  others_keep_the_patterns = λ c. patterns_stay (went s c);
}
