-- What a binary search for a label finds among labels that rise.
use Rattle.std.proofs.Common.{◌≡◌, ℕ, zero, suc, ◌<◌, ◌≤◌, eqb, List, [], ◌∷◌, length, get_or, take, Some, None, Ok, Err, Result, MatchResult, sym, ap, ◌∙◌, subst, ⊎_elim, arith}
use Rattle.std.proofs.lemmas.Bool.{cases_Bool, cases_lt, cases_eq, cond-false, eqb-true, eq-eqb}
use Rattle.std.proofs.lemmas.Bool.Decides.{nat_tests}
use Rattle.std.proofs.lemmas.Cmp.{ranked}
use Rattle.std.proofs.lemmas.List.{get_or-take, length-take-le}
use Rattle.std.specs.List.{AllByRecursion}
use Rattle.std.specs.List.Sorted.{IsSearchInRange, IsBinarySearchResult, IsNonDecreasingBy}
use Rattle.std.specs.Ordering.{nat_cmp, ordering_index}
use Rattle.std.specs.Result.{result_ok}
use Rattle.labels.specs.declared.index.Record.{Record}
use Rattle.labels.specs.Entries.{Entry, Rising, name_of}
use Rattle.labels.specs.Index.{entry_of, noted}
use Rattle.labels.proofs.Chains.{noted_more}

pub same_label : (e : Entry) (es : List Entry) (l : ℕ) → e.label ≡ l → name_of (e ∷ es) l ≡ Some e.name
same_label e es l h = rw (eq-eqb e.label l h)

-- records with other labels are passed over
passes : (bs : List ℕ) (rs : List Record) (d : Record) (l m n : ℕ) → m ≤ n → n ≤ length rs → ((k : ℕ) → m ≤ k → k < n → (get_or rs k d).label ≡ l → ⊥) → name_of (noted bs rs n) l ≡ name_of (noted bs rs m) l
passes bs rs d l m zero h u o = let z : m ≡ 0 = omega arith in ap (λ (k : ℕ). name_of (noted bs rs k) l) (sym z)
passes bs rs d l m (suc n) h u o = ⊎_elim
    (λ (z : m ≡ suc n). ap (λ (k : ℕ). name_of (noted bs rs k) l) (sym z))
    (λ z. let e = entry_of bs (get_or rs n d) in ⊎_elim
    (λ t. absurd (o n (omega (arith, z)) (omega arith) (eqb-true e.label l t)))
    (λ f. ap (λ (es : List Entry). name_of es l) (noted_more bs rs n d (omega arith)) ∙ cond-false (eqb e.label l) (Some e.name) (name_of (noted bs rs n) l) f ∙ passes bs rs d l m n (omega (arith, z)) (omega arith) (λ k a b. o k a (omega arith)))
    (cases_Bool (eqb e.label l)))
    (cases_eq m (suc n))

pub passes_all : (bs : List ℕ) (rs : List Record) (l m n : ℕ) → m ≤ n → n ≤ length rs → ((k : ℕ) (d : Record) → m ≤ k → k < n → (get_or rs k d).label ≡ l → ⊥) → name_of (noted bs rs n) l ≡ name_of (noted bs rs m) l
passes_all bs [] l m n h u o = let z : n ≡ m = omega arith in ap (λ (k : ℕ). name_of (noted bs [] k) l) z
passes_all bs (r ∷ rs) l m n h u o = passes bs (r ∷ rs) r l m n h u (λ k. o k r)

all_below : (bs : List ℕ) (rs : List Record) (d : Record) (l n : ℕ) → n ≤ length rs → AllByRecursion (λ (e : Entry). e.label < l) (noted bs rs n) → (k : ℕ) → k < n → (get_or rs k d).label < l
all_below bs rs d l zero u a k h = absurd (omega arith)
all_below bs rs d l (suc n) u a k h =
    let b = subst (AllByRecursion (λ (e : Entry). e.label < l)) (noted_more bs rs n d (omega arith)) a in
    ⊎_elim (λ i. all_below bs rs d l n (omega arith) b.1 k i) (λ i. let z : n ≡ k = omega arith in subst (λ (j : ℕ). (get_or rs j d).label < l) z b.0) (cases_lt k n)

-- an earlier record has a lower label
pub rises_at : (bs : List ℕ) (rs : List Record) (d : Record) (n : ℕ) → n ≤ length rs → Rising (noted bs rs n) → (i j : ℕ) → i < j → j < n → (get_or rs i d).label < (get_or rs j d).label
rises_at bs rs d zero u r i j h k = absurd (omega arith)
rises_at bs rs d (suc n) u r i j h k =
    let s = subst Rising (noted_more bs rs n d (omega arith)) r in
    ⊎_elim
    (λ b. rises_at bs rs d n (omega arith) s.1 i j h b)
    (λ b. let z : n ≡ j = omega arith in subst (λ (x : ℕ). (get_or rs i d).label < (get_or rs x d).label) z (all_below bs rs d (get_or rs n d).label n (omega arith) s.0 i (omega arith)))
    (cases_lt j n)

index_rises : (x y l : ℕ) → x ≤ y → ordering_index (nat_cmp x l) ≤ ordering_index (nat_cmp y l)
index_rises x y l h = grind (arith, nat_tests)

module _ (bs : List ℕ) (rs : List Record) (n l : ℕ) (few : n ≤ length rs) (rising : Rising (noted bs rs n)) where
  no_later : (d : Record) (i j : ℕ) → i ≤ j → j < n → (get_or rs i d).label ≤ (get_or rs j d).label
  no_later d i j h k = ⊎_elim
      (λ (z : i ≡ j). omega (arith, ap (λ (x : ℕ). (get_or rs x d).label) z))
      (λ z. omega (arith, rises_at bs rs d n few rising i j (omega (arith, z)) k))
      (cases_eq i j)

  -- the comparisons with a label rise along the records, as a binary search asks
  comparisons_rise : IsNonDecreasingBy (λ (r : Record). ordering_index (nat_cmp r.label l)) (take n rs)
  comparisons_rise i j d h k =
      let under : j < n = omega (arith, length-take-le n rs few) in
      let index : Record → ℕ = λ r. ordering_index (nat_cmp r.label l) in
      let first : index (get_or (take n rs) i d) ≡ index (get_or rs i d) = ap index (get_or-take n rs i d (omega arith)) in
      let later : index (get_or (take n rs) j d) ≡ index (get_or rs j d) = ap index (get_or-take n rs j d under) in
      let rise : index (get_or rs i d) ≤ index (get_or rs j d) = index_rises (get_or rs i d).label (get_or rs j d).label l (no_later d i j h under) in
      omega (arith, first, later, rise)

  -- a binary search ends at the label, or the label is not there
  pub searched : (r : Result ℕ ℕ) → IsSearchInRange r (length (take n rs)) → IsBinarySearchResult (λ (x : Record). nat_cmp x.label l) (take n rs) r → MatchResult r (λ i. (d : Record) → Some (entry_of bs (get_or (take n rs) i d)).name ≡ name_of (noted bs rs n) l) (λ i. None ≡ name_of (noted bs rs n) l)
  searched (Ok i) within equal = λ d.
      let under : i < n = omega (arith, within, length-take-le n rs few) in
      let is = get_or-take n rs i d under in
      let same : (get_or rs i d).label ≡ l = sym (ap (λ (x : Record). x.label) is) ∙ ranked _ l _ (sym (equal d)) in
      sym (passes bs rs d l (suc i) n (omega arith) few (λ k a b e. omega (arith, rises_at bs rs d n few rising i k (omega arith) b))
      ∙ ap (λ (es : List Entry). name_of es l) (noted_more bs rs i d (omega arith))
      ∙ same_label (entry_of bs (get_or rs i d)) (noted bs rs i) l same
      ∙ ap (λ (x : Record). Some (entry_of bs x).name) (sym is))
  searched (Err i) within parted =
      let at : (k : ℕ) (d : Record) → k < n → (get_or (take n rs) k d).label ≡ (get_or rs k d).label = λ k d h. ap (λ (x : Record). x.label) (get_or-take n rs k d h) in
      sym (passes_all bs rs l 0 n (omega arith) few (λ k d a b e. ⊎_elim
      (λ c. omega (arith, at k d b, ranked _ l _ (sym ((parted comparisons_rise).0 k d (omega arith) c))))
      (λ c. omega (arith, at k d b, ranked _ l _ (sym ((parted comparisons_rise).1 k d c (omega (arith, length-take-le n rs few))))))
      (cases_lt k i)))

-- what `ok` gives, from what is known of the two cases
pub ok_some : (P : ℕ → Type 0) (Q : ℕ → Type 0) (r : Result ℕ ℕ) (x : ℕ) → Some x ≡ result_ok r → MatchResult r P Q → P x
ok_some P Q (Ok y) x e m = let same : y ≡ x = cc in subst P same m
ok_some P Q (Err y) x e m = cc

pub ok_none : (P : ℕ → Type 0) (Q : Type 0) (r : Result ℕ ℕ) → None ≡ result_ok r → MatchResult r P (λ _. Q) → Q
ok_none P Q (Ok y) e m = cc
ok_none P Q (Err y) e m = m
