-- What the chains of an index's records say of the names.
use Rattle.std.proofs.Common.{◌≡◌, ℕ, zero, suc, ◌^◌, ◌<◌, ◌≤◌, eqb, ◌≢◌, false, List, [], ◌∷◌, length, map, reverse, get_or, take, drop, set, fold, Some, None, Option, sym, refl, ap, ◌∙◌, subst, ⊎_elim, add-one, arith}
use Rattle.std.proofs.Math.Seq.{take-suc}
use Rattle.std.proofs.lemmas.List.{get_or-set_same, get_or-set_other, reverse-append, take-set-le, length-map, length-reverse, length-take-le, length-set}
use Rattle.std.proofs.lemmas.Bool.{cases_Bool, cond-true, cond-false, eqb-true, eqb-false, cases_eq}
use Rattle.std.proofs.lemmas.Slice.Eq.{bytes_eq-Decides}
use Rattle.std.specs.Str.{bytes_eq}
use Rattle.labels.specs.declared.index.Record.{Record}
use Rattle.labels.specs.declared.index.Tables.{Tables}
use Rattle.labels.specs.declared.link.Link.{Link}
use Rattle.labels.specs.Entries.{Entry, label_of, first_entry, bad_length}
use Rattle.labels.specs.Index.{hash_step, bucket_of, link_of, entry_of, noted, newest, known, Whole, Heads, Links, Noted}

-- one record more
pub noted_more : (bs : List ℕ) (rs : List Record) (n : ℕ) (d : Record) → n < length rs → noted bs rs (suc n) ≡ entry_of bs (get_or rs n d) ∷ noted bs rs n
noted_more bs rs n d h = ap (λ (xs : List Record). map (entry_of bs) (reverse xs)) (take-suc rs n d h) ∙ ap (map (entry_of bs)) (reverse-append (take n rs) (get_or rs n d ∷ []))

pub length_noted : (bs : List ℕ) (rs : List Record) (n : ℕ) → n ≤ length rs → length (noted bs rs n) ≡ n
length_noted bs rs n h = length-map (reverse (take n rs)) (entry_of bs) ∙ length-reverse (take n rs) ∙ length-take-le n rs h

-- links tell numbers
pub links_tell : (o p : Option ℕ) → link_of o ≡ link_of p → o ≡ p
links_tell None None h = refl
links_tell None (Some k) h = absurd (omega (arith, ap (λ (l : Link). l.above) h))
links_tell (Some k) None h = absurd (omega (arith, ap (λ (l : Link). l.above) h))
links_tell (Some k) (Some m) h = let same : k ≡ m = omega (arith, ap (λ (l : Link). l.above) h) in ap Some same

-- how many records stand up to one, with it; none up to none
abbrev pub through : Option ℕ → ℕ
through None = 0
through (Some k) = suc k

pub newest_below : (b : ℕ) (es : List Entry) → through (newest b es) ≤ length es
newest_below b [] = omega arith
newest_below b (e ∷ es) = ⊎_elim
    (λ t. omega (arith, ap through (cond-true (eqb (bucket_of e.name) b) (Some (length es)) (newest b es) t)))
    (λ f. omega (arith, ap through (cond-false (eqb (bucket_of e.name) b) (Some (length es)) (newest b es) f), newest_below b es))
    (cases_Bool (eqb (bucket_of e.name) b))

-- an entry of another name is passed over
pub other_name : (e : Entry) (es : List Entry) (n : List ℕ) → (e.name ≡ n → ⊥) → label_of (e ∷ es) n ≡ label_of es n
other_name e es n d = ⊎_elim
    (λ t. absurd (d ((bytes_eq-Decides e.name n).0 t)))
    (λ f. rw f)
    (cases_Bool (bytes_eq e.name n))

pub same_name : (e : Entry) (es : List Entry) (n : List ℕ) → e.name ≡ n → label_of (e ∷ es) n ≡ Some e.label
same_name e es n d = rw ((bytes_eq-Decides e.name n).1 d)

-- the records behind the last one in a name's bucket have other names
skips : (bs : List ℕ) (rs : List Record) (d : Record) (n : List ℕ) (m : ℕ) → m ≤ length rs → label_of (noted bs rs m) n ≡ label_of (noted bs rs (through (newest (bucket_of n) (noted bs rs m)))) n
skips bs rs d n zero h = refl
skips bs rs d n (suc m) h =
    let e = entry_of bs (get_or rs m d) in
    let es = noted bs rs m in
    let more : noted bs rs (suc m) ≡ e ∷ es = noted_more bs rs m d (omega arith) in
    let P : List Entry → Type 0 = λ xs. label_of xs n ≡ label_of (noted bs rs (through (newest (bucket_of n) xs))) n in
    subst P (sym more) (⊎_elim
    (λ t.
    let is : newest (bucket_of n) (e ∷ es) ≡ Some m = cond-true (eqb (bucket_of e.name) (bucket_of n)) (Some (length es)) (newest (bucket_of n) es) t ∙ ap Some (length_noted bs rs m (omega arith)) in
    sym (ap (λ (o : Option ℕ). label_of (noted bs rs (through o)) n) is ∙ ap (λ (xs : List Entry). label_of xs n) more))
    (λ f.
    let is : newest (bucket_of n) (e ∷ es) ≡ newest (bucket_of n) es = cond-false (eqb (bucket_of e.name) (bucket_of n)) (Some (length es)) (newest (bucket_of n) es) f in
    other_name e es n (λ k. eqb-false (bucket_of e.name) (bucket_of n) f (ap bucket_of k)) ∙ skips bs rs d n m (omega arith) ∙ sym (ap (λ (o : Option ℕ). label_of (noted bs rs (through o)) n) is))
    (cases_Bool (eqb (bucket_of e.name) (bucket_of n))))

pub passed : (bs : List ℕ) (rs : List Record) (n : List ℕ) (m : ℕ) → m ≤ length rs → label_of (noted bs rs m) n ≡ label_of (noted bs rs (through (newest (bucket_of n) (noted bs rs m)))) n
passed bs [] n m h = let z : m ≡ 0 = omega arith in subst (λ (k : ℕ). label_of (noted bs [] k) n ≡ label_of (noted bs [] (through (newest (bucket_of n) (noted bs [] k)))) n) (sym z) refl
passed bs (r ∷ rs) n m h = skips bs (r ∷ rs) r n m h

-- the last one in a bucket is in it
pub newest_here : (bs : List ℕ) (rs : List Record) (d : Record) (b k m : ℕ) → m ≤ length rs → newest b (noted bs rs m) ≡ Some k → bucket_of (entry_of bs (get_or rs k d)).name ≡ b
newest_here bs rs d b k zero h i = cc
newest_here bs rs d b k (suc m) h i =
    let e = entry_of bs (get_or rs m d) in
    let es = noted bs rs m in
    let more : newest b (e ∷ es) ≡ Some k = sym (ap (newest b) (noted_more bs rs m d (omega arith))) ∙ i in
    ⊎_elim
    (λ t.
    let is : Some (length es) ≡ Some k = sym (cond-true (eqb (bucket_of e.name) b) (Some (length es)) (newest b es) t) ∙ more in
    let at : length es ≡ k = cc in
    let same : m ≡ k = sym (length_noted bs rs m (omega arith)) ∙ at in
    ap (λ (j : ℕ). bucket_of (entry_of bs (get_or rs j d)).name) (sym same) ∙ eqb-true (bucket_of e.name) b t)
    (λ f. newest_here bs rs d b k m (omega arith) (sym (cond-false (eqb (bucket_of e.name) b) (Some (length es)) (newest b es) f) ∙ more))
    (cases_Bool (eqb (bucket_of e.name) b))

-- the search for a name stands at a record: those behind it have other names, and it is in the bucket of the name
pub record Looking (bs : List ℕ) (t : Tables) (n : List ℕ) (o : Option ℕ) : Type 0 where
  pub same : label_of (known bs t) n ≡ label_of (noted bs t.records (through o)) n
  pub within : through o ≤ t.count
  pub here : (k : ℕ) (d : Record) → o ≡ Some k → bucket_of (entry_of bs (get_or t.records k d)).name ≡ bucket_of n

-- the search stands at the last record in the bucket of the name, of the first m records
stands : (bs : List ℕ) (t : Tables) (n : List ℕ) (m : ℕ) (o : Option ℕ) → m ≤ t.count → m ≤ length t.records → o ≡ newest (bucket_of n) (noted bs t.records m) → label_of (known bs t) n ≡ label_of (noted bs t.records m) n → Looking bs t n o
stands bs t n m o h u is same = record {
  same = same ∙ passed bs t.records n m u ∙ sym (ap (λ (x : Option ℕ). label_of (noted bs t.records (through x)) n) is);
  within = omega (arith, ap through is, newest_below (bucket_of n) (noted bs t.records m), length_noted bs t.records m u);
  here = λ k d e. newest_here bs t.records d (bucket_of n) k m u (sym is ∙ e);
}

-- it begins there
pub begins : (bs : List ℕ) (t : Tables) (n : List ℕ) (b : ℕ) (o : Option ℕ) → t.count ≤ length t.records → Heads bs t → b ≡ bucket_of n → b < 4096 → link_of o ≡ get_or t.last b (link_of None) → Looking bs t n o
begins bs t n b o u heads is small head = stands bs t n t.count o (omega arith) u (links_tell o _ (head ∙ heads b small) ∙ ap (λ (x : ℕ). newest x (known bs t)) is) refl

-- it ends at a record that has the name
pub ends : (bs : List ℕ) (t : Tables) (n : List ℕ) (o : Option ℕ) (k : ℕ) (d : Record) → t.count ≤ length t.records → Looking bs t n o → o ≡ Some k → (entry_of bs (get_or t.records k d)).name ≡ n → Some (get_or t.records k d).label ≡ label_of (known bs t) n
ends bs t n o k d u at is name =
    let under : k < length t.records = omega (arith, at.within, ap through is) in
    sym (at.same ∙ ap (λ (x : Option ℕ). label_of (noted bs t.records (through x)) n) is ∙ ap (λ (es : List Entry). label_of es n) (noted_more bs t.records k d under) ∙ same_name (entry_of bs (get_or t.records k d)) (noted bs t.records k) n name)

-- it goes on at an earlier one
pub goes_on : (bs : List ℕ) (t : Tables) (n : List ℕ) (o p : Option ℕ) (k : ℕ) (d : Record) → t.count ≤ length t.records → Links bs t → Looking bs t n o → o ≡ Some k → ((entry_of bs (get_or t.records k d)).name ≡ n → ⊥) → link_of p ≡ (get_or t.records k d).before → Looking bs t n p × (through p < through o)
goes_on bs t n o p k d u links at is other before =
    let under : k < t.count = omega (arith, at.within, ap through is) in
    let linked : p ≡ newest (bucket_of n) (noted bs t.records k) = links_tell p _ (before ∙ links k d under) ∙ ap (λ (b : ℕ). newest b (noted bs t.records k)) (at.here k d is) in
    let same : label_of (known bs t) n ≡ label_of (noted bs t.records k) n = at.same ∙ ap (λ (x : Option ℕ). label_of (noted bs t.records (through x)) n) is ∙ ap (λ (es : List Entry). label_of es n) (noted_more bs t.records k d (omega arith)) ∙ other_name (entry_of bs (get_or t.records k d)) (noted bs t.records k) n other in
    (stands bs t n k p (omega arith) (omega arith) linked same, omega (arith, ap through is, ap through linked, newest_below (bucket_of n) (noted bs t.records k), length_noted bs t.records k (omega arith)))

noted_set : (bs : List ℕ) (rs : List Record) (n m : ℕ) (r : Record) → m ≤ n → noted bs (set rs n r) m ≡ noted bs rs m
noted_set bs rs n m r h = ap (λ (xs : List Record). map (entry_of bs) (reverse xs)) (take-set-le m rs n r h)

hash_small : (h : ℕ) (n : List ℕ) → h < 2 ^ 32 → fold hash_step h n < 2 ^ 32
hash_small h [] k = k
hash_small h (b ∷ n) k = hash_small (hash_step h b) n (omega arith)

pub bucket_small : (n : List ℕ) → bucket_of n < 4096
bucket_small n = omega (arith, hash_small 0 n (omega arith))

module _ (bs : List ℕ) (s t : Tables) (i l : ℕ) (name : List ℕ) (n : Noted s t i l name) (room : s.count < length s.records) where
  -- the record that was noted
  abbrev newer : Record
  newer = record { start = i; label = l; before = get_or s.last (bucket_of name) (link_of None) }

  -- its entry, where it has the name
  newer_entry : (first_entry (drop i bs)).name ≡ name → entry_of bs newer ≡ record { label = l; name = name }
  newer_entry is = λ j. record { label = l; name = is j }

  pub note_known : (first_entry (drop i bs)).name ≡ name → known bs t ≡ record { label = l; name = name } ∷ known bs s
  note_known is =
      let long : s.count < length (set s.records s.count newer) = omega (arith, length-set {A = Record}) in
      (λ j. noted bs (n.records j) ((n.count ∙ add-one s.count) j))
      ∙ noted_more bs (set s.records s.count newer) s.count newer long
      ∙ (λ j. entry_of bs (get_or-set_same s.records s.count newer newer room j) ∷ noted_set bs s.records s.count s.count newer (omega arith) j)
      ∙ ap (λ (e : Entry). e ∷ known bs s) (newer_entry is)

  -- for an old record or the new one
  old_or_new : (P : Record → ℕ → Type 0) → ((k : ℕ) (d : Record) → k < s.count → P (get_or s.records k d) k) → P newer s.count → (k : ℕ) (d : Record) → k < t.count → P (get_or t.records k d) k
  old_or_new P old new k d h =
      subst (λ (rs : List Record). P (get_or rs k d) k) (sym n.records) (⊎_elim
      (λ q. subst (λ (m : ℕ). P (get_or (set s.records s.count newer) m d) m) (sym q) (subst (λ (r : Record). P r s.count) (sym (get_or-set_same s.records s.count newer d room)) new))
      (λ q. subst (λ (r : Record). P r k) (sym (get_or-set_other s.records s.count k newer d q)) (old k d (omega (arith, n.count, q))))
      (cases_eq k s.count))

  pub note_whole : bad_length (drop i bs) ≡ false → Whole bs s → Whole bs t
  note_whole h whole = old_or_new (λ r k. bad_length (drop r.start bs) ≡ false) whole h

  same_noted : (k : ℕ) → k ≤ s.count → noted bs t.records k ≡ noted bs s.records k
  same_noted k h = ap (λ (rs : List Record). noted bs rs k) n.records ∙ noted_set bs s.records s.count k newer h

  pub note_heads : (first_entry (drop i bs)).name ≡ name → length s.last ≡ 4096 → Heads bs s → Heads bs t
  note_heads is long heads a h =
      let b = bucket_of name in
      let more = note_known is in
      ⊎_elim
      (λ q.
      let same : b ≡ a = eqb-true b a q in
      ap (λ (xs : List Link). get_or xs a (link_of None)) n.last ∙ ap (λ (m : ℕ). get_or (set s.last b (link_of (Some s.count))) m (link_of None)) (sym same) ∙ get_or-set_same s.last b (link_of (Some s.count)) (link_of None) (omega (arith, bucket_small name, long))
      ∙ ap link_of (sym (ap (newest a) more ∙ cond-true (eqb b a) (Some (length (known bs s))) (newest a (known bs s)) q ∙ ap Some (length_noted bs s.records s.count (omega arith)))))
      (λ f.
      let other : a ≢ b = λ d. eqb-false b a f (sym d) in
      ap (λ (xs : List Link). get_or xs a (link_of None)) n.last ∙ get_or-set_other s.last b a (link_of (Some s.count)) (link_of None) other ∙ heads a h
      ∙ ap link_of (sym (ap (newest a) more ∙ cond-false (eqb b a) (Some (length (known bs s))) (newest a (known bs s)) f)))
      (cases_Bool (eqb b a))

  pub note_links : (first_entry (drop i bs)).name ≡ name → Heads bs s → Links bs s → Links bs t
  note_links is heads links k d h =
      let P : Record → ℕ → Type 0 = λ r j. j ≤ s.count → r.before ≡ link_of (newest (bucket_of (entry_of bs r).name) (noted bs t.records j)) in
      old_or_new P
      (λ j d q w. links j d q ∙ ap link_of (sym (ap (newest (bucket_of (entry_of bs (get_or s.records j d)).name)) (same_noted j w))))
      (λ w. heads (bucket_of name) (bucket_small name) ∙ ap link_of (sym (λ q. newest (bucket_of (is q)) (same_noted s.count w q))))
      k d h (omega (arith, n.count))
