-- The names that are kept, and how a name is found among them.
use Rattle.std.proofs.Common.{◌≡◌, ℕ, suc, ◌+◌, ◌-◌, ◌<◌, ◌≤◌, Bool, cond, eqb, ltb, List, [], ◌∷◌, ◌++◌, length, get_or, map, reverse, Some, None, Ok, Err, Option, Result, Bor, sym, refl, ap, ◌∙◌, subst, ⊎_elim, arith}
use Rattle.std.specs.Fn.{Called}
use Rattle.std.specs.Iterator.{FindsPositionBack}
use Rattle.std.specs.List.{position}
use Rattle.std.specs.Option.{IfSome, MatchOption, IsSomeAnd, is_some, option_copied, option_map}
use Rattle.std.specs.Slice.Iter.{iter_rest, iter_steps_back}
use Rattle.std.specs.Str.{bytes_eq}
use Rattle.std.proofs.lemmas.Bool.{cond-true, cond-false, cases_eq, eq-eqb, ne_eqb, le-ltb, ltb-true, ltb-false}
use Rattle.std.proofs.lemmas.Grind.{common_steps}
use Rattle.std.proofs.lemmas.Iterator.{YieldsList}
use Rattle.std.proofs.lemmas.Iterator.Consumers.{YieldsList-from_shown}
use Rattle.std.proofs.lemmas.Iterator.Search.{position_from_yields_List}
use Rattle.std.proofs.lemmas.List.{length-map, length-reverse, map-append, reverse-append, get_or-map, get_or-reverse}
use denote.Param.Members.{Mut}
use Rattle.refusals.specs.declared.Cause.{Cause}
use Rattle.refusals.specs.declared.Cause.TheVariants.{TooMany}
use Rattle.texts.specs.PatternText.{number_in, number_for, names_with, name_numbered}

-- the names of parts of a text, the last first
abbrev pub backwards : List (Bor (List ℕ)) → List (List ℕ)
backwards xs = reverse (map (λ x. x.now) xs)

pub length-backwards : (xs : List (Bor (List ℕ))) → length (backwards xs) ≡ length xs
length-backwards xs = simp (length-reverse, length-map)

pub backwards-push : (xs : List (Bor (List ℕ))) (x : Bor (List ℕ)) → backwards (xs ++ x ∷ []) ≡ x.now ∷ backwards xs
backwards-push xs x = ap reverse (map-append (λ y. y.now) xs (x ∷ [])) ∙ reverse-append (map (λ y. y.now) xs) (x.now ∷ [])

-- the number of a name says how many stand behind the first that is it
number_position : (ns : List (List ℕ)) (w : List ℕ) → number_in ns w ≡ option_map (λ i. length ns - 1 - i) (position (λ n. bytes_eq n w) ns)
number_position [] w = refl
number_position (n ∷ ns) w = grind (arith, common_steps, number_position ns w)

-- from the back an iterator gives the last name first
pub yields_back : {s : _} (xs : List (Bor (List ℕ))) → iter_rest s ≡ xs → YieldsList iter_steps_back (λ y. y.now.now) s (backwards xs)
yields_back {s} xs e =
    subst (λ ys. YieldsList iter_steps_back (λ y. y.now.now) s (backwards ys)) e
    (YieldsList-from_shown iter_steps_back (λ y. y.now.now) (λ t. backwards (iter_rest t)) (λ t u h. length-backwards (iter_rest t) ∙ h.0) (λ t x u h. ap backwards h ∙ backwards-push (iter_rest u) x.now) s)

turned : {X : Type 0} (n m : ℕ) (o : Option X) (r : Option ℕ) (Stop : X → Type 0) → MatchOption o (r ≡ None) (λ x. IsSomeAnd r (λ i. i + 1 + m ≡ n) × Stop x) → (q : Option ℕ) × (r ≡ option_map (λ i. n - 1 - i) q) × MatchOption o (q ≡ None) (λ x. (q ≡ Some m) × Stop x)
turned n m None r Stop h = (None, h, refl)
turned n m (Some x) None Stop h = absurd h.0
turned n m (Some x) (Some i) Stop h = (Some m, (let e : i ≡ n - 1 - m = omega (arith, h.0) in ap Some e), (refl, h.1))

-- what `rposition` finds is the number of the name
pub number_from_rposition : {S A F : Type 0} {steps : S → Option A → S → Type 0} {v : A → List ℕ} {g : Mut F (A × Unit {0}) Bool} {s : S} {all : List (List ℕ)} (w : List ℕ) (n : ℕ) (u : S) (f : F) (r : Option ℕ) → n ≡ length all → FindsPositionBack steps g s f n r u → YieldsList steps v s all → ((x : A) (b : Bool) (q : F) → Called g f (x, tt) b q → (q ≡ f) × (b ≡ bytes_eq (v x) w)) → r ≡ number_in all w
number_from_rposition {all} w n u f r e h y k =
    let p = turned n (length h.0) h.1 r _ h.5 in
    p.1 ∙ ap (λ (m : ℕ). option_map (λ i. m - 1 - i) p.0) e
    ∙ ap (option_map (λ i. length all - 1 - i)) (position_from_yields_List (λ x. bytes_eq x w) u f p.0 (h.0, h.1, h.2, h.3, h.4, p.2) y k) ∙ sym (number_position all w)

pub number_new : (ns : List (List ℕ)) (w : List ℕ) → number_in ns w ≡ None → length ns < 16 → number_for ns w ≡ Ok (length ns)
number_new ns w e h = ap (λ (o : Option ℕ). elim o as (λ _. Result ℕ Cause) [ Some x ↦ Ok x | None ↦ cond (ltb 15 (length ns)) (Err TooMany) (Ok (length ns)) ]) e ∙ cond-false _ _ _ (le-ltb 15 (length ns) (omega arith))

pub names_new : (ns : List (List ℕ)) (w : List ℕ) → number_in ns w ≡ None → length ns < 16 → names_with ns w ≡ w ∷ ns
names_new ns w e h = ap (λ (o : Option ℕ). elim o as (λ _. List (List ℕ)) [ Some x ↦ ns | None ↦ cond (ltb 15 (length ns)) ns (w ∷ ns) ]) e ∙ cond-false _ _ _ (le-ltb 15 (length ns) (omega arith))

inside : (ns : List (List ℕ)) (k : ℕ) (d : List ℕ) → k < length ns → name_numbered ns k ≡ Some (get_or ns (length ns - 1 - k) d)
inside [] k d h = absurd (omega arith)
inside (n ∷ ns) k d h =
    ⊎_elim
    (λ e. cond-true (eqb k (length ns)) _ _ (eq-eqb k (length ns) e) ∙ ap (λ (j : ℕ). Some (get_or (n ∷ ns) j d)) (let z : 0 ≡ suc (length ns) - 1 - k = omega arith in z))
    (λ e. cond-false (eqb k (length ns)) _ _ (ne_eqb k (length ns) e) ∙ inside ns k d (omega arith) ∙ ap (λ (j : ℕ). Some (get_or (n ∷ ns) j d)) (let z : suc (length ns - 1 - k) ≡ suc (length ns) - 1 - k = omega arith in z))
    (cases_eq k (length ns))

outside : (ns : List (List ℕ)) (k : ℕ) → length ns ≤ k → name_numbered ns k ≡ None
outside [] k h = refl
outside (n ∷ ns) k h = cond-false (eqb k (length ns)) _ _ (ne_eqb k (length ns) (λ e. omega arith)) ∙ outside ns k (omega arith)

-- the name at a place has the number of the place, and no other number is that of a name
pub name_from_get : (xs : List (Bor (List ℕ))) (k : ℕ) (o : Option (Bor (Bor (List ℕ)))) → is_some o ≡ ltb k (length xs) → IfSome o (λ x. x.now ≡ get_or xs k x.now) → option_map (λ x. x.now) (option_copied o) ≡ name_numbered (backwards xs) k
name_from_get xs k None l h = sym (outside (backwards xs) k (omega (arith, ltb-false k (length xs) (sym l), length-backwards xs)))
name_from_get xs k (Some x) l h =
    let m : k < length xs = ltb-true k (length xs) (sym l) in
    let ys = map (λ (y : Bor (List ℕ)). y.now) xs in
    let n : length ys ≡ length xs = simp length-map in
    let b = length-backwards xs in
    let j : length ys - 1 - (length (backwards xs) - 1 - k) ≡ k = omega arith in
    let at : get_or (backwards xs) (length (backwards xs) - 1 - k) x.now.now ≡ x.now.now =
    get_or-reverse ys (length (backwards xs) - 1 - k) x.now.now (omega arith) ∙ ap (λ (i : ℕ). get_or ys i x.now.now) j ∙ get_or-map (λ (y : Bor (List ℕ)). y.now) xs k x.now x.now.now m ∙ ap (λ (y : Bor (List ℕ)). y.now) (sym h) in
    ap Some (sym at) ∙ sym (inside (backwards xs) k x.now.now (omega arith))
