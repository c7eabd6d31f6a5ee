-- The log follows a run: undos and abandonments bring back its trees, and calls are accepted and refused by its counts.
use Rattle.std.proofs.Common.{◌≡◌, ℕ, zero, suc, ◌+◌, ◌<◌, Bool, true, false, cond, not, ◌||◌, eqb, ltb, leb, ◌≢◌, ◌⊎◌, List, [], ◌∷◌, ◌++◌, length, get_or, drop, set, replicate, is_some, Some, None, Option, sym, refl, ap, ◌∙◌, subst, ⊎_elim, arith, length-append, length-set, get_or-set_other, get_or-set_same}
use Rattle.std.proofs.lemmas.Bool.{cases_eq, cond_both, cond-true, cond-false, and_from, and_left, and_right, eq-eqb, ne_eqb, le-leb, lt-leb, le-ltb, lt-ltb}
use Rattle.trees.specs.Forest.{Forest, label_at, relabel}
use Rattle.trees.proofs.Relabel.{relabel_goes_back}
use Rattle.runs.specs.Session.{Change, State, Call, open_click, change, commit, abandon, undo, settle, add, rebuild, ask, Answer, done, number, steps, refused, Turn, places, is_open, opened, wrong, total_changes, put, touch, making, undo_first, asking, rebuild_steps, turn}
use Rattle.runs.specs.Log.{after, answer, run, accepts, Standing, no_click, one_more, changes_held, Log, logged, log, new_log, undoable, work}
use Rattle.runs.specs.Runs.{Closed, UndosBringBack, receipt_of, Accepted}
use Rattle.runs.proofs.Turns.{Went, stayed, asked, opens, changes, commits, abandons, undoes, settles, adds, rebuilds, went, rebuilt, none_there, some_there}

-- all clicks, with the open one
abbrev pub held : Option (List Change) → List (List Change) → List (List Change)
held None cs = cs
held (Some c) cs = c ∷ cs

-- the places of some changes
abbrev spots : List Change → List ℕ
spots [] = []
spots (c ∷ cs) = c.place ∷ spots cs

-- the clicks put back one after the other, from m on, give the trees of the log, and in the end the base; and they change the places of the log
abbrev Chain : Forest → Forest → List (List Change) → List Standing → Type 0
Chain base m [] [] = m ≡ base
Chain base m [] (t ∷ ts) = ⊥
Chain base m (c ∷ cs) [] = ⊥
Chain base m (c ∷ cs) (t ∷ ts) = (put c m ≡ t.opened_on) × (spots c ≡ t.changed) × Chain base t.opened_on cs ts

-- a number is in a list
abbrev pub member : ℕ → List ℕ → Bool
member q [] = false
member q (p ∷ ps) = eqb q p || member q ps

pub record Follows (s : State) (k : Log) : Type 0 where
  pub chain : Chain k.clicks.settled s.tree (held s.journal.click s.journal.clicks) k.clicks.standing
  pub open_too : is_open s ≡ k.clicks.is_open
  pub stale_too : s.look.stale ≡ k.since_rebuild.stale
  pub added_too : s.look.tried + k.since_rebuild.added ≡ length s.patterns
  pub touched_too : (q : ℕ) → q < length s.look.touched → get_or s.look.touched q false ≡ member q k.since_rebuild.touched
  pub counted : k.clicks.commits ≡ k.clicks.undos + length s.journal.clicks

when_closed : (s : State) (k : Log) → s.journal.click ≡ None → Follows s k → Chain k.clicks.settled s.tree s.journal.clicks k.clicks.standing
when_closed s k e h = subst (λ (o : Option (List Change)). Chain k.clicks.settled s.tree (held o s.journal.clicks) k.clicks.standing) e h.chain

when_open : (s : State) (k : Log) → s.journal.click ≡ Some (opened s) → Follows s k → Chain k.clicks.settled s.tree (opened s ∷ s.journal.clicks) k.clicks.standing
when_open s k e h = subst (λ (o : Option (List Change)). Chain k.clicks.settled s.tree (held o s.journal.clicks) k.clicks.standing) e h.chain

chain_first : (b m n : Forest) (c d : List Change) (p : ℕ) (cs : List (List Change)) (ts : List Standing) → put d n ≡ put c m → spots d ≡ p ∷ spots c → Chain b m (c ∷ cs) ts → Chain b n (d ∷ cs) (one_more p ts)
chain_first b m n c d p cs [] e l h = h
chain_first b m n c d p cs (t ∷ ts) e l h = (e ∙ h.0, l ∙ ap (λ (x : List ℕ). p ∷ x) h.1, h.2)

chain_rest : (b m : Forest) (c : List Change) (cs : List (List Change)) (ts : List Standing) → Chain b m (c ∷ cs) ts → Chain b (put c m) cs (drop 1 ts)
chain_rest b m c cs [] h = absurd h
chain_rest b m c cs (t ∷ ts) h = subst (λ (x : Forest). Chain b x cs ts) (sym h.0) h.2

chain_spots : (b m : Forest) (c : List Change) (cs : List (List Change)) (ts : List Standing) → Chain b m (c ∷ cs) ts → spots c ≡ (get_or ts 0 no_click).changed
chain_spots b m c cs [] h = absurd h
chain_spots b m c cs (t ∷ ts) h = h.1

-- touched places, as tests and as a list
or_swap : (a b c : Bool) → (a || (b || c)) ≡ ((b || a) || c)
or_swap true true c = refl
or_swap true false c = refl
or_swap false true c = refl
or_swap false false c = refl

or_regroup : (a b c : Bool) → (a || (b || c)) ≡ ((a || b) || c)
or_regroup true b c = refl
or_regroup false b c = refl

member_append : (q : ℕ) (ps ts : List ℕ) → member q (ps ++ ts) ≡ (member q ps || member q ts)
member_append q [] ts = refl
member_append q (p ∷ ps) ts = ap (λ (t : Bool). eqb q p || t) (member_append q ps ts) ∙ or_regroup (eqb q p) (member q ps) (member q ts)

set_touched : (u : List Bool) (p q : ℕ) → q < length u → get_or (set u p true) q false ≡ (eqb q p || get_or u q false)
set_touched u p q h = ⊎_elim
    (λ (d : q ≡ p). ap (λ (x : ℕ). get_or (set u p true) x false) d ∙ get_or-set_same u p true false (omega arith) ∙ sym (ap (λ (t : Bool). t || get_or u q false) (eq-eqb q p d)))
    (λ (d : q ≢ p). get_or-set_other u p q true false d ∙ sym (ap (λ (t : Bool). t || get_or u q false) (ne_eqb q p d))) (cases_eq q p)

touch_touched : (cs : List Change) (u : List Bool) (q : ℕ) → q < length u → get_or (touch cs u) q false ≡ (member q (spots cs) || get_or u q false)
touch_touched [] u q h = refl
touch_touched (c ∷ cs) u q h = touch_touched cs (set u c.place true) q (omega (arith, length-set u c.place true)) ∙ ap (λ (t : Bool). member q (spots cs) || t) (set_touched u c.place q h) ∙ or_swap (member q (spots cs)) (eqb q c.place) (get_or u q false)

length_touch : (cs : List Change) (u : List Bool) → length (touch cs u) ≡ length u
length_touch [] u = refl
length_touch (c ∷ cs) u = length_touch cs (set u c.place true) ∙ length-set u c.place true

put_back : (cs : List Change) (u : List Bool) (ps ts : List ℕ) → spots cs ≡ ps → ((q : ℕ) → q < length u → get_or u q false ≡ member q ts) → (q : ℕ) → q < length (touch cs u) → get_or (touch cs u) q false ≡ member q (ps ++ ts)
put_back cs u ps ts e h q l = let i : q < length u = omega (arith, length_touch cs u) in touch_touched cs u q i ∙ (λ r. member q (e r) || h q i r) ∙ sym (member_append q ps ts)

pub none_touched : (n q : ℕ) → get_or (replicate n false) q false ≡ false
none_touched zero q = refl
none_touched (suc n) zero = refl
none_touched (suc n) (suc q) = none_touched n q

-- the log follows each call
follows : {s t : State} {c : Call} {a : Answer} → Went s c t a → (k : Log) → Follows s k → Follows t (cond (accepts a) (logged c s.tree k) k)
follows {s} {c = c} (stayed {a = a} e) k h = subst (Follows s) (sym (cond-false (accepts a) (logged c s.tree k) k e)) h
follows {s} (asked {q = q}) k h = cond_both (accepts (asking s q)) k k (Follows s) (λ e. h) (λ e. h)
follows {s} (opens e i) k h = record { chain = (refl, refl, when_closed s k e h); open_too = refl; stale_too = h.stale_too; added_too = h.added_too; touched_too = h.touched_too; counted = h.counted }
follows {s} (changes {p = p} {l = l} g e i j x) k h = record {
  chain = chain_first k.clicks.settled s.tree (relabel s.tree p l) (opened s) (record { place = p; label = label_at s.tree p } ∷ opened s) p s.journal.clicks k.clicks.standing (ap (put (opened s)) (relabel_goes_back s.tree p l i)) refl (when_open s k e h);
  open_too = sym (ap is_some e) ∙ h.open_too;
  stale_too = refl;
  added_too = h.added_too;
  touched_too = put_back (record { place = p; label = l } ∷ []) s.look.touched (p ∷ []) k.since_rebuild.touched refl h.touched_too;
  counted = h.counted;
}
follows {s} (commits g e) k h = record { chain = when_open s k e h; open_too = refl; stale_too = h.stale_too; added_too = h.added_too; touched_too = h.touched_too; counted = omega (arith, h.counted) }
follows {s} (abandons g e) k h = let c : Chain k.clicks.settled s.tree (opened s ∷ s.journal.clicks) k.clicks.standing = when_open s k e h in record {
  chain = chain_rest k.clicks.settled s.tree (opened s) s.journal.clicks k.clicks.standing c;
  open_too = refl;
  stale_too = refl;
  added_too = h.added_too;
  touched_too = put_back (opened s) s.look.touched (get_or k.clicks.standing 0 no_click).changed k.since_rebuild.touched (chain_spots k.clicks.settled s.tree (opened s) s.journal.clicks k.clicks.standing c) h.touched_too;
  counted = h.counted;
}
follows {s} (undoes {c = c} {cs = cs} e i) k h = let d : Chain k.clicks.settled s.tree (c ∷ cs) k.clicks.standing = subst (λ (x : List (List Change)). Chain k.clicks.settled s.tree x k.clicks.standing) i (when_closed s k e h) in record {
  chain = chain_rest k.clicks.settled s.tree c cs k.clicks.standing d;
  open_too = sym (ap is_some e) ∙ h.open_too;
  stale_too = refl;
  added_too = h.added_too;
  touched_too = put_back c s.look.touched (get_or k.clicks.standing 0 no_click).changed k.since_rebuild.touched (chain_spots k.clicks.settled s.tree c cs k.clicks.standing d) h.touched_too;
  counted = omega (arith, h.counted, ap length i);
}
follows {s} (settles e) k h = record { chain = refl; open_too = sym (ap is_some e) ∙ h.open_too; stale_too = h.stale_too; added_too = h.added_too; touched_too = h.touched_too; counted = refl }
follows {s} (adds {p = p} e i) k h = record { chain = h.chain; open_too = h.open_too; stale_too = refl; added_too = omega (arith, h.added_too, length-append s.patterns (p ∷ [])); touched_too = h.touched_too; counted = h.counted }
follows {s} (rebuilds e) k h = record { chain = h.chain; open_too = h.open_too; stale_too = refl; added_too = omega arith; touched_too = λ q l. none_touched (length s.look.touched) q; counted = h.counted }

pub follows_making : (m : Forest) (a : ℕ) → Follows (making m a) (new_log m)
follows_making m a = record { chain = refl; open_too = refl; stale_too = refl; added_too = refl; touched_too = λ q l. none_touched (length m) q; counted = refl }

pub follows_run : (s : State) (cs : List Call) (k : Log) → Follows s k → Follows (run s cs) (log s cs k)
follows_run s [] k h = h
follows_run s (c ∷ cs) k h = follows_run (after s c) cs (cond (accepts (answer s c)) (logged c s.tree k) k) (follows (went s c) k h)

-- what undos do to a closed session
undo_turn : (s : State) (cs : List (List Change)) → s.journal.clicks ≡ cs → s.journal.click ≡ None → turn s undo ≡ undo_first s cs
undo_turn s cs e o = λ i. cond (is_some (o i)) (s, refused 2 6 0 0) (undo_first s (e i))

module _ (b : Forest) where
  undo_accepted : (cs : List (List Change)) (ts : List Standing) (s : State) → s.journal.clicks ≡ cs → s.journal.click ≡ None → Chain b s.tree cs ts → (n : ℕ) → n < length ts → answer (run s (replicate n undo)) undo ≡ done
  undo_accepted cs [] s e o h n i = absurd (omega arith)
  undo_accepted [] (t ∷ ts) s e o h n i = absurd h
  undo_accepted (c ∷ cs) (t ∷ ts) s e o h zero i = ap (λ (x : Turn). x.1) (undo_turn s (c ∷ cs) e o)
  undo_accepted (c ∷ cs) (t ∷ ts) s e o h (suc n) i = ap (λ (x : Turn). answer (run x.0 (replicate n undo)) undo) (undo_turn s (c ∷ cs) e o) ∙ undo_accepted cs ts (undo_first s (c ∷ cs)).0 refl refl (chain_rest b s.tree c cs (t ∷ ts) h) n (omega arith)

  undo_one : (cs : List (List Change)) (ts : List Standing) (s : State) → s.journal.clicks ≡ cs → s.journal.click ≡ None → Chain b s.tree cs ts → (n : ℕ) → n < length ts → (after (run s (replicate n undo)) undo).tree ≡ (get_or ts n no_click).opened_on
  undo_one cs [] s e o h n i = absurd (omega arith)
  undo_one [] (t ∷ ts) s e o h n i = absurd h
  undo_one (c ∷ cs) (t ∷ ts) s e o h zero i = ap (λ (x : Turn). x.0.tree) (undo_turn s (c ∷ cs) e o) ∙ h.0
  undo_one (c ∷ cs) (t ∷ ts) s e o h (suc n) i = ap (λ (x : Turn). (after (run x.0 (replicate n undo)) undo).tree) (undo_turn s (c ∷ cs) e o) ∙ undo_one cs ts (undo_first s (c ∷ cs)).0 refl refl (chain_rest b s.tree c cs (t ∷ ts) h) n (omega arith)

  undo_last : (cs : List (List Change)) (ts : List Standing) (s : State) → s.journal.clicks ≡ cs → s.journal.click ≡ None → Chain b s.tree cs ts → (answer (run s (replicate (length ts) undo)) undo ≡ refused 8 6 0 0) × ((run s (replicate (length ts) undo)).tree ≡ b)
  undo_last [] [] s e o h = (ap (λ (x : Turn). x.1) (undo_turn s [] e o), h)
  undo_last [] (t ∷ ts) s e o h = absurd h
  undo_last (c ∷ cs) [] s e o h = absurd h
  undo_last (c ∷ cs) (t ∷ ts) s e o h =
      let z = undo_last cs ts (undo_first s (c ∷ cs)).0 refl refl (chain_rest b s.tree c cs (t ∷ ts) h) in
      (ap (λ (x : Turn). answer (run x.0 (replicate (length ts) undo)) undo) (undo_turn s (c ∷ cs) e o) ∙ z.0, ap (λ (x : Turn). (run x.0 (replicate (length ts) undo)).tree) (undo_turn s (c ∷ cs) e o) ∙ z.1)

-- what is answered where a test holds, and where it fails
stops : (t : Bool) (a b : Turn) → t ≡ true → (cond t a b).1 ≡ a.1
stops t a b e = ap (λ (x : Turn). x.1) (cond-true t a b e)

passes : (t : Bool) (a b : Turn) → t ≡ false → (cond t a b).1 ≡ b.1
passes t a b e = ap (λ (x : Turn). x.1) (cond-false t a b e)

-- a rebuild is accepted just where no click is open
pub closed_none : (s : State) → Closed s → s.journal.click ≡ None
closed_none s h = none_there s.journal.click (go (is_open s) h)
  where
    go : (t : Bool) → accepts (cond {A = Turn} t (s, refused 2 6 0 0) (rebuilt s, steps (rebuild_steps s))).1 ≡ true → t ≡ false
    go true h = sym h
    go false h = refl

chain_length : (b m : Forest) (cs : List (List Change)) (ts : List Standing) → Chain b m cs ts → length cs ≡ length ts
chain_length b m [] [] h = refl
chain_length b m [] (t ∷ ts) h = absurd h
chain_length b m (c ∷ cs) [] h = absurd h
chain_length b m (c ∷ cs) (t ∷ ts) h = ap suc (chain_length b t.opened_on cs ts h.2)

length_spots : (c : List Change) → length (spots c) ≡ length c
length_spots [] = refl
length_spots (x ∷ c) = ap suc (length_spots c)

chain_changes : (b m : Forest) (cs : List (List Change)) (ts : List Standing) → Chain b m cs ts → total_changes cs ≡ changes_held ts
chain_changes b m [] [] h = refl
chain_changes b m [] (t ∷ ts) h = absurd h
chain_changes b m (c ∷ cs) [] h = absurd h
chain_changes b m (c ∷ cs) (t ∷ ts) h = omega (arith, length_spots c, ap length h.1, chain_changes b t.opened_on cs ts h.2)

chain_head : (b m : Forest) (c : List Change) (cs : List (List Change)) (ts : List Standing) → Chain b m (c ∷ cs) ts → put c m ≡ (get_or ts 0 no_click).opened_on
chain_head b m c cs [] h = absurd h
chain_head b m c cs (t ∷ ts) h = h.0

-- by the log, a click is open or none is, and calls are accepted accordingly
module _ (s : State) (k : Log) (h : Follows s k) where
  open_now : k.clicks.is_open ≡ true → is_open s ≡ true
  open_now o = h.open_too ∙ o

  closed_now : k.clicks.is_open ≡ false → s.journal.click ≡ None
  closed_now o = none_there s.journal.click (h.open_too ∙ o)

  chain_open : k.clicks.is_open ≡ true → Chain k.clicks.settled s.tree (opened s ∷ s.journal.clicks) k.clicks.standing
  chain_open o = when_open s k (some_there s.journal.click (open_now o)) h

  standing_count : k.clicks.is_open ≡ false → length s.journal.clicks ≡ length k.clicks.standing
  standing_count o = chain_length k.clicks.settled s.tree s.journal.clicks k.clicks.standing (when_closed s k (closed_now o) h)

  held_count : k.clicks.is_open ≡ true → length (opened s) + total_changes s.journal.clicks ≡ changes_held k.clicks.standing
  held_count o = chain_changes k.clicks.settled s.tree (opened s ∷ s.journal.clicks) k.clicks.standing (chain_open o)

  pub undos_bring_back : k.clicks.is_open ≡ false → UndosBringBack s k
  undos_bring_back o =
      let e : s.journal.click ≡ None = closed_now o in
      let c : Chain k.clicks.settled s.tree s.journal.clicks k.clicks.standing = when_closed s k e h in
      let z = undo_last k.clicks.settled s.journal.clicks k.clicks.standing s refl e c in
      let n : undoable k ≡ length k.clicks.standing = omega (arith, h.counted, standing_count o) in
      record {
        counted = omega (arith, h.counted, standing_count o);
        accepted = λ i l. undo_accepted k.clicks.settled s.journal.clicks k.clicks.standing s refl e c i (omega arith);
        one_back = λ i l. undo_one k.clicks.settled s.journal.clicks k.clicks.standing s refl e c i (omega arith);
        then_none = ap (λ (x : ℕ). answer (run s (replicate x undo)) undo) n ∙ z.0;
        all_back = ap (λ (x : ℕ). (run s (replicate x undo)).tree) n ∙ z.1;
      }

  -- a call without a receipt while a click is open, and one with the wrong receipt
  click_open : k.clicks.is_open ≡ true → (c : Call) → receipt_of c ≡ None → answer s c ≡ refused 2 6 0 0
  click_open o open_click e = stops (is_open s) _ _ (open_now o)
  click_open o (change n p l) e = cc
  click_open o (commit n) e = cc
  click_open o (abandon n) e = cc
  click_open o undo e = stops (is_open s) _ _ (open_now o)
  click_open o settle e = stops (is_open s) _ _ (open_now o)
  click_open o (add p) e = stops (is_open s) _ _ (open_now o)
  click_open o rebuild e = stops (is_open s) _ _ (open_now o)
  click_open o (ask q) e = cond-true (is_open s) _ _ (open_now o)

  wrong_here : (n : ℕ) → (k.clicks.is_open ≡ false) ⊎ (n ≡ s.name → ⊥) → wrong s n ≡ true
  wrong_here n w = ap not (⊎_elim (λ o. and_left (is_open s) (eqb n s.name) (h.open_too ∙ o)) (λ d. and_right (is_open s) (eqb n s.name) (ne_eqb n s.name d)) w)

  wrong_click : (c : Call) (n : ℕ) → receipt_of c ≡ Some n → wrong s n ≡ true → answer s c ≡ refused 1 6 0 0
  wrong_click open_click n e w = cc
  wrong_click (change m p l) n e w = let z : m ≡ n = cc in stops (wrong s m) _ _ (ap (wrong s) z ∙ w)
  wrong_click (commit m) n e w = let z : m ≡ n = cc in stops (wrong s m) _ _ (ap (wrong s) z ∙ w)
  wrong_click (abandon m) n e w = let z : m ≡ n = cc in stops (wrong s m) _ _ (ap (wrong s) z ∙ w)
  wrong_click undo n e w = cc
  wrong_click settle n e w = cc
  wrong_click (add p) n e w = cc
  wrong_click rebuild n e w = cc
  wrong_click (ask q) n e w = cc

  right_here : k.clicks.is_open ≡ true → wrong s s.name ≡ false
  right_here o = ap not (and_from (is_open s) (eqb s.name s.name) (open_now o) (eq-eqb s.name s.name refl))

  -- a change with the right receipt, at a place of the tree
  change_inside : k.clicks.is_open ≡ true → (p l : ℕ) → p < length s.tree → answer s (change s.name p l) ≡ cond (leb 256 (changes_held k.clicks.standing)) (refused 7 6 0 0) (cond (ltb 32767 l) (refused 10 5 0 0) done)
  change_inside o p l i = passes (wrong s s.name) _ _ (right_here o) ∙ passes (leb (places s) p) _ _ (lt-leb (places s) p i) ∙ go (leb 256 (length (opened s) + total_changes s.journal.clicks)) (ltb 32767 l) _ ∙ ap (λ (n : ℕ). cond (leb 256 n) (refused 7 6 0 0) (cond (ltb 32767 l) (refused 10 5 0 0) done)) (held_count o)
    where
      go : (t u : Bool) (b : State) → (cond {A = Turn} t (s, refused 7 6 0 0) (cond {A = Turn} u (s, refused 10 5 0 0) (b, done))).1 ≡ cond t (refused 7 6 0 0) (cond u (refused 10 5 0 0) done)
      go true u b = refl
      go false true b = refl
      go false false b = refl

  pub accepted : (k.clicks.is_open ≡ false → answer s rebuild ≡ steps (work s k)) → Accepted s k
  accepted works = record {
    click_open = click_open;
    wrong_click = λ c n e w. wrong_click c n e (wrong_here n w);
    opening = λ o i. passes (is_open s) _ _ (h.open_too ∙ o) ∙ passes (leb 64 (length s.journal.clicks)) _ _ (lt-leb 64 (length s.journal.clicks) (omega (arith, standing_count o)));
    no_65th_click = λ o i. passes (is_open s) _ _ (h.open_too ∙ o) ∙ stops (leb 64 (length s.journal.clicks)) _ _ (le-leb 64 (length s.journal.clicks) (omega (arith, standing_count o)));
    changing = λ o p l i j x. change_inside o p l i ∙ cond-false (leb 256 (changes_held k.clicks.standing)) _ _ (lt-leb 256 (changes_held k.clicks.standing) j) ∙ cond-false (ltb 32767 l) _ _ (le-ltb 32767 l (omega arith));
    no_such_place = λ o p l i. passes (wrong s s.name) _ _ (right_here o) ∙ stops (leb (places s) p) _ _ (le-leb (places s) p i);
    no_257th_change = λ o p l i j. change_inside o p l i ∙ cond-true (leb 256 (changes_held k.clicks.standing)) _ _ (le-leb 256 (changes_held k.clicks.standing) j);
    bad_label = λ o p l i j x. change_inside o p l i ∙ cond-false (leb 256 (changes_held k.clicks.standing)) _ _ (lt-leb 256 (changes_held k.clicks.standing) j) ∙ cond-true (ltb 32767 l) _ _ (lt-ltb 32767 l (omega arith));
    committing = λ o. passes (wrong s s.name) _ _ (right_here o);
    abandoning = λ o. passes (wrong s s.name) _ _ (right_here o);
    settling = λ o. passes (is_open s) _ _ (h.open_too ∙ o) ∙ ap number (omega (arith, h.counted));
    adding = λ o i p. passes (is_open s) _ _ (h.open_too ∙ o) ∙ passes (leb 16 (length s.patterns)) _ _ (lt-leb 16 (length s.patterns) i);
    no_17th_pattern = λ o i p. passes (is_open s) _ _ (h.open_too ∙ o) ∙ stops (leb 16 (length s.patterns)) _ _ (le-leb 16 (length s.patterns) i);
    rebuilding = works;
  }

  pub abandon_brings_back : k.clicks.is_open ≡ true → (after s (abandon s.name)).tree ≡ (get_or k.clicks.standing 0 no_click).opened_on
  abandon_brings_back o = ap (λ (x : Turn). x.0.tree) (cond-false (wrong s s.name) _ _ (right_here o)) ∙ chain_head k.clicks.settled s.tree (opened s) s.journal.clicks k.clicks.standing (chain_open o)
