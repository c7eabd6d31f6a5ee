-- The tables of a journal, where a click begins, a change is noted or taken back, and a click is forgotten.
use Rattle.std.proofs.Common.{◌≡◌, ℕ, zero, suc, ◌+◌, ◌-◌, ◌<◌, ◌≤◌, true, ltb, List, [], ◌∷◌, ◌++◌, length, get_or, take, drop, set, vec_items, vec_len, sum_by, sym, refl, ap, ◌∙◌, add-one, arith, length-drop, length-take}
use Rattle.std.proofs.lemmas.List.{take_more, take_all, set_split, drop_all, length_push}
use Rattle.std.proofs.lemmas.List.Sums.{sum_by_push, sum_by-cons}
use Rattle.std.proofs.lemmas.Bool.{and_parts, and_from, lt-ltb, ltb-true}
use Rattle.sessions.specs.declared.entry.Click.{Click}
use Rattle.sessions.specs.declared.entry.Replaced.{Replaced}
use Rattle.sessions.specs.declared.journal.Journal.{Journal as Tables}
use Rattle.runs.specs.Session.{Change, total_changes}
use Rattle.sessions.specs.Held.{change_of, newest, counts, dealt, held, all_labels}

-- how many changes a click has
abbrev pub of : Click → ℕ
of = λ (c : Click). c.changes

pub newest_push : (rs : List Replaced) (r : Replaced) → newest (rs ++ (r ∷ [])) ≡ change_of r ∷ newest rs
newest_push [] r = refl
newest_push (x ∷ rs) r = ap (λ cs. cs ++ (change_of x ∷ [])) (newest_push rs r)

pub counts_push : (ks : List Click) (k : Click) → counts (ks ++ (k ∷ [])) ≡ k.changes ∷ counts ks
counts_push [] k = refl
counts_push (x ∷ ks) k = ap (λ ns. ns ++ (x.changes ∷ [])) (counts_push ks k)

pub length_newest : (rs : List Replaced) → length (newest rs) ≡ length rs
length_newest [] = refl
length_newest (r ∷ rs) = length_push (newest rs) (change_of r) ∙ ap (λ n. n + 1) (length_newest rs) ∙ omega arith

pub length_counts : (ks : List Click) → length (counts ks) ≡ length ks
length_counts [] = refl
length_counts (k ∷ ks) = length_push (counts ks) k.changes ∙ ap (λ n. n + 1) (length_counts ks) ∙ omega arith

length_dealt : (ns : List ℕ) (cs : List Change) → length (dealt ns cs) ≡ length ns
length_dealt [] cs = refl
length_dealt (n ∷ ns) cs = ap suc (length_dealt ns (drop n cs))

pub length_held : (ks : List Click) (rs : List Replaced) → length (held ks rs) ≡ length ks
length_held ks rs = length_dealt (counts ks) (newest rs) ∙ length_counts ks

-- there is a last click
pub one_last : (j : Tables) → 0 < length (held (vec_items j.clicks) (vec_items j.changes)) → length (vec_items j.clicks) ≡ vec_len j.clicks - 1 + 1
one_last j h = omega (arith, length_held (vec_items j.clicks) (vec_items j.changes), j.clicks.ok.0)

-- the sum of some counts
abbrev sum : List ℕ → ℕ
sum [] = 0
sum (n ∷ ns) = n + sum ns

sum_push : (ns : List ℕ) (n : ℕ) → sum (ns ++ (n ∷ [])) ≡ n + sum ns
sum_push [] n = refl
sum_push (x ∷ ns) n = ap (λ k. x + k) (sum_push ns n) ∙ omega arith

sum_counts : (ks : List Click) → sum (counts ks) ≡ sum_by of ks
sum_counts [] = refl
sum_counts (k ∷ ks) = sum_push (counts ks) k.changes ∙ ap (λ n. k.changes + n) (sum_counts ks) ∙ sym (sum_by-cons of k ks)

total_dealt : (ns : List ℕ) (cs : List Change) → length cs ≡ sum ns → total_changes (dealt ns cs) ≡ length cs
total_dealt [] cs e = sym e
total_dealt (n ∷ ns) cs e =
    let t = length-take n cs in
    let d = length-drop n cs in
    let r : total_changes (dealt ns (drop n cs)) ≡ length (drop n cs) = total_dealt ns (drop n cs) (omega arith) in
    omega arith

pub total_held : (ks : List Click) (rs : List Replaced) (n : ℕ) → n ≡ length rs → sum_by of ks ≡ n → total_changes (held ks rs) ≡ n
total_held ks rs n e h = total_dealt (counts ks) (newest rs) (length_newest rs ∙ sym e ∙ sym h ∙ sym (sum_counts ks)) ∙ length_newest rs ∙ sym e

-- all but the last, and the last
snoc : {X : Type 0} (xs : List X) (n : ℕ) (d : X) → length xs ≡ n + 1 → xs ≡ take n xs ++ (get_or xs n d ∷ [])
snoc xs n d e = sym (take_all (n + 1) xs (omega arith)) ∙ take_more xs n d (omega arith)

set_last : {X : Type 0} (xs : List X) (n : ℕ) (y : X) → length xs ≡ n + 1 → set xs n y ≡ take n xs ++ (y ∷ [])
set_last xs n y e = set_split xs n y (omega arith) ∙ ap (λ ys. take n xs ++ (y ∷ ys)) (drop_all (suc n) xs (omega arith))

module _ (ks : List Click) (n : ℕ) (d : Click) (e : length ks ≡ n + 1) where
  counts_last : counts ks ≡ (get_or ks n d).changes ∷ counts (take n ks)
  counts_last = ap counts (snoc ks n d e) ∙ counts_push (take n ks) (get_or ks n d)

  counts_set : (y : Click) → counts (set ks n y) ≡ y.changes ∷ counts (take n ks)
  counts_set y = ap counts (set_last ks n y e) ∙ counts_push (take n ks) y

  held_last : (rs : List Replaced) → held ks rs ≡ take (get_or ks n d).changes (newest rs) ∷ dealt (counts (take n ks)) (drop (get_or ks n d).changes (newest rs))
  held_last rs = ap (λ ns. dealt ns (newest rs)) counts_last

  held_set : (y : Click) (m : ℕ) (rs : List Replaced) (r : Replaced) → y.changes ≡ m + 1 → held (set ks n y) (rs ++ (r ∷ [])) ≡ (change_of r ∷ take m (newest rs)) ∷ dealt (counts (take n ks)) (drop m (newest rs))
  held_set y m rs r h =
      ap (λ ns. dealt ns (newest (rs ++ (r ∷ [])))) (counts_set y)
      ∙ ap (dealt (y.changes ∷ counts (take n ks))) (newest_push rs r)
      ∙ ap (λ k. dealt (k ∷ counts (take n ks)) (change_of r ∷ newest rs)) (h ∙ add-one m)

  -- one change more
  pub held_noted : (y : Click) (rs : List Replaced) (r : Replaced) → y.changes ≡ (get_or ks n d).changes + 1 → held (set ks n y) (rs ++ (r ∷ [])) ≡ (change_of r ∷ get_or (held ks rs) 0 []) ∷ drop 1 (held ks rs)
  held_noted y rs r h = held_set y (get_or ks n d).changes rs r h ∙ sym (ap (λ gs. (change_of r ∷ get_or gs 0 []) ∷ drop 1 gs) (held_last rs))

  -- one change less
  pub held_taken : (y : Click) (rs : List Replaced) (r : Replaced) → (get_or ks n d).changes ≡ y.changes + 1 → held ks (rs ++ (r ∷ [])) ≡ (change_of r ∷ get_or (held (set ks n y) rs) 0 []) ∷ drop 1 (held (set ks n y) rs)
  held_taken y rs r h =
      held_last (rs ++ (r ∷ []))
      ∙ ap (λ cs. take (get_or ks n d).changes cs ∷ dealt (counts (take n ks)) (drop (get_or ks n d).changes cs)) (newest_push rs r)
      ∙ ap (λ k. take k (change_of r ∷ newest rs) ∷ dealt (counts (take n ks)) (drop k (change_of r ∷ newest rs))) (h ∙ add-one y.changes)
      ∙ sym (ap (λ gs. (change_of r ∷ get_or gs 0 []) ∷ drop 1 gs) (ap (λ ns. dealt ns (newest rs)) (counts_set y)))

  -- no change there
  pub held_empty : (rs : List Replaced) → (get_or ks n d).changes ≡ 0 → get_or (held ks rs) 0 [] ≡ []
  held_empty rs h = ap (λ gs. get_or gs 0 []) (held_last rs) ∙ ap (λ k. take k (newest rs)) h

-- a click that begins
pub held_begun : (ks : List Click) (rs : List Replaced) → held (ks ++ (record { changes = 0 } ∷ [])) rs ≡ [] ∷ held ks rs
held_begun ks rs = ap (λ ns. dealt ns (newest rs)) (counts_push ks (record { changes = 0 }))

-- a click without changes that is forgotten
empty_take : (n : ℕ) (cs : List Change) → n ≤ length cs → take n cs ≡ [] → n ≡ 0
empty_take zero cs l e = refl
empty_take (suc n) [] l e = absurd (omega arith)
empty_take (suc n) (c ∷ cs) l e = absurd (omega (arith, ap length e))

pub record Forgotten (ks : List Click) (k : Click) (rs : List Replaced) : Type 0 where
  pub none : k.changes ≡ 0
  pub rest : held ks rs ≡ drop 1 (held (ks ++ (k ∷ [])) rs)

pub forgotten : (ks : List Click) (k : Click) (rs : List Replaced) → sum_by of (ks ++ (k ∷ [])) ≡ length rs → get_or (held (ks ++ (k ∷ [])) rs) 0 [] ≡ [] → Forgotten ks k rs
forgotten ks k rs s e =
    let all = ap (λ ns. dealt ns (newest rs)) (counts_push ks k) in
    let z : k.changes ≡ 0 = empty_take k.changes (newest rs) (omega (arith, length_newest rs, s, sum_by_push of ks k)) (sym (ap (λ gs. get_or gs 0 []) all) ∙ e) in
    record {
      none = z;
      rest = sym (ap (drop 1) all ∙ ap (λ n. dealt (counts ks) (drop n (newest rs))) z);
    }

-- labels
pub labels_push : (rs : List Replaced) (r : Replaced) → all_labels rs ≡ true → r.label < 32768 → all_labels (rs ++ (r ∷ [])) ≡ true
labels_push [] r t l = and_from (ltb r.label 32768) true (lt-ltb _ _ l) refl
labels_push (x ∷ rs) r t l =
    let p = and_parts (ltb x.label 32768) (all_labels rs) t in
    and_from (ltb x.label 32768) (all_labels (rs ++ (r ∷ []))) p.0 (labels_push rs r p.1 l)

pub labels_split : (rs : List Replaced) (r : Replaced) → all_labels (rs ++ (r ∷ [])) ≡ true → (all_labels rs ≡ true) × (r.label < 32768)
labels_split [] r t = (refl, ltb-true _ _ (and_parts (ltb r.label 32768) true t).0)
labels_split (x ∷ rs) r t =
    let p = and_parts (ltb x.label 32768) (all_labels (rs ++ (r ∷ []))) t in
    let q = labels_split rs r p.1 in
    (and_from (ltb x.label 32768) (all_labels rs) p.0 q.0, q.1)
