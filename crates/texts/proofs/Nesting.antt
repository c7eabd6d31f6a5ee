-- What holds of the elements while a pattern is read: the groups that are open hold nothing yet, and the others are well formed.
use Rattle.std.proofs.Common.{◌≡◌, ℕ, zero, suc, ◌+◌, ◌-◌, ◌<◌, ◌≤◌, cond, ltb, ◌≢◌, ◌⊎◌, List, [], ◌∷◌, ◌++◌, length, set, sym, refl, ap, ◌∙◌, subst, inl, inr, ⊎_elim, arith, lit<, length-set, get_or-set_other, get_or-set_same}
use Rattle.std.proofs.lemmas.List.{get_or_append_left, get_or_at, length_push}
use Rattle.std.proofs.lemmas.Bool.{cond-true, cond-false, lt-ltb, le-ltb, cases_eq, cases_lt}
use Rattle.patterns.specs.declared.row.Element.{Element}
use Rattle.patterns.specs.declared.row.Element.TheVariants.{Lexeme, Group}
use Rattle.patterns.specs.Elements.{extent, least_extent, number_of, element_at, ends, around, WellFormed}

-- how many of these numbers are below another
abbrev pub below : List ℕ → ℕ → ℕ
below [] i = 0
below (g ∷ gs) i = below gs i + cond (ltb g i) 1 0

abbrev pub In : List ℕ → ℕ → Type 0
In [] i = ⊥
In (g ∷ gs) i = (i ≡ g) ⊎ In gs i

-- the open groups, the innermost first, below n: each has the size 1 still, and lies in no element before it
abbrev pub Opens : List Element → ℕ → List ℕ → Type 0
Opens xs n [] = Unit {0}
Opens xs n (g ∷ gs) = (g < n) × (element_at xs g ≡ Group 1) × ((h : ℕ) → h < g → ends xs h ≤ g) × Opens xs g gs

-- an element is well formed, but for the groups that are open
pub record Stands (xs : List Element) (gs : List ℕ) (i : ℕ) : Type 0 where
  pub numbered : number_of (element_at xs i) < 16
  pub sized : (least_extent (element_at xs i) ≤ extent (element_at xs i)) ⊎ In gs i
  pub inside : ends xs i ≤ length xs
  pub nested : (g : ℕ) → g < i → i < ends xs g → ends xs i ≤ ends xs g
  pub shallow : around xs i i + below gs i ≤ 16

pub record Stand (xs : List Element) (gs : List ℕ) : Type 0 where
  pub few : length xs ≤ 64
  pub deep : length gs ≤ 16
  pub open_groups : Opens xs (length xs) gs
  pub each : (i : ℕ) → i < length xs → Stands xs gs i

below_cons : (g : ℕ) (gs : List ℕ) (i : ℕ) → below (g ∷ gs) i ≡ below gs i + cond (ltb g i) 1 0
below_cons g gs i = refl

below_in : (g : ℕ) (gs : List ℕ) (i : ℕ) → g < i → below (g ∷ gs) i ≡ below gs i + 1
below_in g gs i h = below_cons g gs i ∙ ap (λ (k : ℕ). below gs i + k) (cond-true _ 1 0 (lt-ltb g i h))

below_out : (g : ℕ) (gs : List ℕ) (i : ℕ) → i ≤ g → below (g ∷ gs) i ≡ below gs i
below_out g gs i h = let e = below_cons g gs i ∙ ap (λ (k : ℕ). below gs i + k) (cond-false _ 1 0 (le-ltb g i h)) in omega arith

below_none : (i : ℕ) → below [] i ≡ 0
below_none i = refl

below_most : (gs : List ℕ) (i : ℕ) → below gs i ≤ length gs
below_most [] i = omega (arith, below_none i)
below_most (g ∷ gs) i = ⊎_elim (λ h. omega (arith, below_in g gs i h, below_most gs i)) (λ h. omega (arith, below_out g gs i h, below_most gs i)) (cases_lt g i)

around_more : (xs : List Element) (i n : ℕ) → i < ends xs n → around xs i (suc n) ≡ around xs i n + 1
around_more xs i n h = ap (λ (k : ℕ). around xs i n + k) (cond-true (ltb i (ends xs n)) 1 0 (lt-ltb i (ends xs n) h))

around_past : (xs : List Element) (i n : ℕ) → ends xs n ≤ i → around xs i (suc n) ≡ around xs i n
around_past xs i n h = let e : around xs i (suc n) ≡ around xs i n + 0 = ap (λ (k : ℕ). around xs i n + k) (cond-false (ltb i (ends xs n)) 1 0 (le-ltb i (ends xs n) h)) in omega arith

around_same : (xs ys : List Element) (i n : ℕ) → ((h : ℕ) → h < n → ends ys h ≡ ends xs h) → around ys i n ≡ around xs i n
around_same xs ys i zero e = refl
around_same xs ys i (suc n) e =
    let rest = around_same xs ys i n (λ h l. e h (omega arith)) in
    let here = e n (omega arith) in
    ⊎_elim
    (λ l. omega (arith, rest, around_more ys i n (omega arith), around_more xs i n l))
    (λ l. omega (arith, rest, around_past ys i n (omega arith), around_past xs i n l))
    (cases_lt i (ends xs n))

around_none : (xs : List Element) (i n : ℕ) → ((h : ℕ) → h < n → ends xs h ≤ i) → around xs i n ≡ 0
around_none xs i zero e = refl
around_none xs i (suc n) e = around_past xs i n (e n (omega arith)) ∙ around_none xs i n (λ h l. e h (omega arith))

around_one : (xs ys : List Element) (i g n : ℕ) → g < n → ((h : ℕ) → h < n → h ≢ g → ends ys h ≡ ends xs h) → ends xs g ≤ i → i < ends ys g → around ys i n ≡ around xs i n + 1
around_one xs ys i g zero l e p q = absurd (omega arith)
around_one xs ys i g (suc n) l e p q =
    ⊎_elim
    (λ same.
    let rest = around_same xs ys i n (λ h m. e h (omega arith) (omega arith)) in
    let old : ends xs n ≤ i = subst (λ (k : ℕ). ends xs k ≤ i) (sym same) p in
    let new : i < ends ys n = subst (λ (k : ℕ). i < ends ys k) (sym same) q in
    omega (arith, rest, around_more ys i n new, around_past xs i n old))
    (λ other.
    let rest = around_one xs ys i g n (omega arith) (λ h m. e h (omega arith)) p q in
    let here = e n (omega arith) other in
    ⊎_elim
    (λ m. omega (arith, rest, around_more ys i n (omega arith), around_more xs i n m))
    (λ m. omega (arith, rest, around_past ys i n (omega arith), around_past xs i n m))
    (cases_lt i (ends xs n)))
    (cases_eq n g)

opens_keep : (xs ys : List Element) (n m : ℕ) (gs : List ℕ) → n ≤ m → ((h : ℕ) → h < n → element_at ys h ≡ element_at xs h) → Opens xs n gs → Opens ys m gs
opens_keep xs ys n m [] l e o = tt
opens_keep xs ys n m (g ∷ gs) l e o = (
  omega (arith, o.0),
  e g o.0 ∙ o.1,
  λ h k. let s = ap extent (e h (omega (arith, o.0))) in omega (arith, s, o.2 h k),
  opens_keep xs ys g g gs (omega arith) (λ h k. e h (omega (arith, o.0))) o.3,
)

-- one more element, which may open a group
pushed : (xs : List Element) (gs fs : List ℕ) (x : Element) → Stand xs gs → length xs < 64 → extent x ≡ 1 → number_of x < 16 → length fs ≤ 16 → ((i : ℕ) → In gs i → In fs i) → ((i : ℕ) → i ≤ length xs → below fs i ≡ below gs i) → (least_extent x ≤ 1) ⊎ In fs (length xs) → Opens (xs ++ (x ∷ [])) (length (xs ++ (x ∷ []))) fs → Stand (xs ++ (x ∷ [])) fs
pushed xs gs fs x s room one num deep ins bel sized groups =
    let n = length xs in
    let long : length (xs ++ (x ∷ [])) ≡ length xs + 1 = length_push xs x in
    let old : (h : ℕ) → h < length xs → element_at (xs ++ (x ∷ [])) h ≡ element_at xs h = λ h l. get_or_append_left xs (x ∷ []) (Lexeme 0) h l in
    let new : element_at (xs ++ (x ∷ [])) (length xs) ≡ x = get_or_at xs x [] (Lexeme 0) (length xs) refl in
    let old-ends : (h : ℕ) → h < length xs → ends (xs ++ (x ∷ [])) h ≡ ends xs h = λ h l. ap (λ e. h + extent e) (old h l) in
    let new-ends : ends (xs ++ (x ∷ [])) (length xs) ≡ length xs + 1 = ap (λ e. length xs + extent e) new ∙ ap (λ (k : ℕ). length xs + k) one in
    let none : around (xs ++ (x ∷ [])) (length xs) (length xs) ≡ 0 = around_none (xs ++ (x ∷ [])) (length xs) (length xs) (λ h l. omega (arith, old-ends h l, (s.each h l).inside)) in
    let last : Stands (xs ++ (x ∷ [])) fs (length xs) = record {
      numbered = omega (arith, ap number_of new);
      sized = ⊎_elim (λ h. inl (omega (arith, ap least_extent new, ap extent new))) (λ h. inr h) sized;
      inside = omega arith;
      nested = λ g l m. absurd (omega (arith, old-ends g l, (s.each g l).inside));
      shallow = omega (arith, bel (length xs) (omega arith), below_most gs (length xs), s.deep);
    } in
    record {
      few = omega arith;
      deep = deep;
      open_groups = groups;
      each = λ i l.
          ⊎_elim
          (λ h.
          let was = s.each i h in
          let e = old-ends i h in
          record {
            numbered = omega (arith, ap number_of (old i h), was.numbered);
            sized = ⊎_elim (λ k. inl (omega (arith, ap least_extent (old i h), ap extent (old i h)))) (λ k. inr (ins i k)) was.sized;
            inside = omega (arith, was.inside);
            nested = λ g k m. let f = old-ends g (omega arith) in omega (arith, was.nested g k (omega arith));
            shallow = omega (arith, was.shallow, bel i (omega arith), around_same xs (xs ++ (x ∷ [])) i i (λ j k. old-ends j (omega arith)));
          })
          (λ h. let same : length xs ≡ i = omega arith in subst (Stands (xs ++ (x ∷ [])) fs) same last)
          (cases_lt i (length xs));
    }

pub stand_leaf : (xs : List Element) (gs : List ℕ) (x : Element) → Stand xs gs → length xs < 64 → extent x ≡ 1 → least_extent x ≤ 1 → number_of x < 16 → Stand (xs ++ (x ∷ [])) gs
stand_leaf xs gs x s room one least num =
    pushed xs gs gs x s room one num s.deep (λ i k. k) (λ i k. refl) (inl least)
    (opens_keep xs (xs ++ (x ∷ [])) (length xs) (length (xs ++ (x ∷ []))) gs (omega (arith, length_push xs x)) (λ h l. get_or_append_left xs (x ∷ []) (Lexeme 0) h l) s.open_groups)

pub stand_open : (xs : List Element) (gs : List ℕ) → Stand xs gs → length xs < 64 → length gs < 16 → Stand (xs ++ (Group 1 ∷ [])) (length xs ∷ gs)
stand_open xs gs s room deep =
    let old : (h : ℕ) → h < length xs → element_at (xs ++ (Group 1 ∷ [])) h ≡ element_at xs h = λ h l. get_or_append_left xs (Group 1 ∷ []) (Lexeme 0) h l in
    pushed xs gs (length xs ∷ gs) (Group 1) s room refl (lit< tt) (omega arith) (λ i k. inr k) (λ i k. below_out (length xs) gs i k) (inr (inl refl)) (
      omega (arith, length_push xs (Group 1)),
      get_or_at xs (Group 1) [] (Lexeme 0) (length xs) refl,
      λ h l. omega (arith, ap extent (old h l), (s.each h l).inside),
      opens_keep xs (xs ++ (Group 1 ∷ [])) (length xs) (length xs) gs (omega arith) old s.open_groups,
    )

-- the innermost group is closed
pub stand_closed : (xs : List Element) (g : ℕ) (gs : List ℕ) → Stand xs (g ∷ gs) → suc g < length xs → Stand (set xs g (Group (length xs - g))) gs
stand_closed xs g gs s some =
    let o = s.open_groups in
    let long : length (set xs g (Group (length xs - g))) ≡ length xs = length-set xs g (Group (length xs - g)) in
    let here : element_at (set xs g (Group (length xs - g))) g ≡ Group (length xs - g) = get_or-set_same xs g (Group (length xs - g)) (Lexeme 0) (omega arith) in
    let old : (h : ℕ) → h ≢ g → element_at (set xs g (Group (length xs - g))) h ≡ element_at xs h = λ h l. get_or-set_other xs g h (Group (length xs - g)) (Lexeme 0) l in
    let old-ends : (h : ℕ) → h ≢ g → ends (set xs g (Group (length xs - g))) h ≡ ends xs h = λ h l. ap (λ e. h + extent e) (old h l) in
    let here-ends : ends (set xs g (Group (length xs - g))) g ≡ length xs = let e = ap extent here in omega arith in
    let was-ends : ends xs g ≡ g + 1 = ap (λ e. g + extent e) o.1 in
    let group : Stands (set xs g (Group (length xs - g))) gs g = record {
      numbered = omega (arith, ap number_of here);
      sized = inl (omega (arith, ap least_extent here, ap extent here));
      inside = omega arith;
      nested = λ h l m. absurd (omega (arith, old-ends h (omega arith), o.2 h l));
      shallow = omega (arith, (s.each g (omega arith)).shallow, below_out g gs g (omega arith), around_same xs (set xs g (Group (length xs - g))) g g (λ h l. old-ends h (omega arith)));
    } in
    record {
      few = omega (arith, s.few);
      deep = omega (arith, s.deep);
      open_groups = opens_keep xs (set xs g (Group (length xs - g))) g (length (set xs g (Group (length xs - g)))) gs (omega arith) (λ h l. old h (omega arith)) o.3;
      each = λ i l.
          ⊎_elim
          (λ same. subst (Stands (set xs g (Group (length xs - g))) gs) (sym same) group)
          (λ other.
          let was = s.each i (omega arith) in
          let e = old-ends i other in
          record {
            numbered = omega (arith, ap number_of (old i other), was.numbered);
            sized = ⊎_elim (λ k. inl (omega (arith, ap least_extent (old i other), ap extent (old i other)))) (λ k. ⊎_elim (λ a. absurd (other a)) (λ a. inr a) k) was.sized;
            inside = omega (arith, was.inside);
            nested = λ h k m.
                ⊎_elim
                (λ same. let f = ap (ends (set xs g (Group (length xs - g)))) same in omega (arith, was.inside))
                (λ apart. let f = old-ends h apart in omega (arith, was.nested h k (omega arith)))
                (cases_eq h g);
            shallow =
                ⊎_elim
                (λ k. omega (arith, was.shallow, below_out g gs i (omega arith), around_same xs (set xs g (Group (length xs - g))) i i (λ h m. old-ends h (omega arith))))
                (λ k. omega (arith, was.shallow, below_in g gs i (omega arith), around_one xs (set xs g (Group (length xs - g))) i g i (omega arith) (λ h m n. old-ends h n) (omega arith) (omega arith)))
                (cases_lt i g);
          })
          (cases_eq i g);
    }

-- where no group is open, the elements are well formed
pub stand_whole : (xs : List Element) → Stand xs [] → 0 < length xs → WellFormed xs
stand_whole xs s some = record {
  some_element = omega arith;
  few_elements = s.few;
  each = λ i l.
      let was = s.each i l in
      record {
        numbered = was.numbered;
        sized = ⊎_elim (λ k. k) (λ k. absurd k) was.sized;
        inside = was.inside;
        nested = was.nested;
        shallow = omega (arith, was.shallow);
      };
}

pub stand_none : Stand [] []
stand_none = record { few = omega arith; deep = omega arith; open_groups = tt; each = λ i l. absurd (omega arith) }
