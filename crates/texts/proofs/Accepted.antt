-- The elements of a pattern text that is accepted are a pattern.
use Rattle.std.proofs.Common.{◌≡◌, ℕ, zero, suc, ◌-◌, ◌<◌, ◌≤◌, true, cond, ltb, List, [], ◌∷◌, ◌++◌, length, set, Some, None, Ok, Err, Option, Result, sym, refl, ap, ◌∙◌, subst, ⊎_elim, arith, lit<, lit≤}
use Rattle.std.specs.Str.{bytes_eq}
use Rattle.std.proofs.lemmas.Bool.{ltb-true, ltb-false, cases_Bool, cond-true, cond-false, false≢true}
use Rattle.refusals.specs.declared.Cause.{Cause}
use Rattle.refusals.specs.declared.Cause.TheVariants.{TooMany, Unpaired}
use Rattle.refusals.specs.declared.Refusal.{Refusal}
use Rattle.labels.specs.Entries.{Entry}
use Rattle.patterns.specs.declared.row.Element.{Element}
use Rattle.patterns.specs.declared.row.Element.TheVariants.{Lexeme, Variable, Group}
use Rattle.texts.specs.declared.pattern.row_builder.RowBuilder.{RowBuilder}
use Rattle.patterns.specs.Elements.{extent, least_extent, number_of, elements_of, WellFormed, IsPattern}
use Rattle.texts.specs.Tokens.{Shape, word, quoted, variable, sign, open_group, close_group, fault, end, Spot, next_token, is_end, lex, tokens_from}
use Rattle.texts.specs.Results.{also}
use Rattle.texts.specs.PatternText.{known_label, known_constructor, number_in, number_for, names_with, lexeme_of, leaf_of, names_after, Draft, drafted, one_more, with_leaf, with_group, closed, ended, with_token, pattern_fault, pattern_scan, scanned}
use Rattle.texts.proofs.Lexing.{moves, lex_next}
use Rattle.texts.proofs.Nesting.{Stand, stand_none, stand_leaf, stand_open, stand_closed, stand_whole}
use Rattle.texts.proofs.Results.{err_not_ok, same_ok, also_ok, then_ok, else_ok}
use Rattle.texts.proofs.Scanning.{scan_next, scan_none}

pub one_more_ok : (xs : List Element) (x : Element) {ys : List Element} → one_more xs x ≡ Ok ys → (length xs < 64) × (ys ≡ xs ++ (x ∷ []))
one_more_ok xs x h = let a = else_ok (ltb 63 (length xs)) (Ok (xs ++ (x ∷ []))) TooMany h in (omega (arith, ltb-false 63 (length xs) a.0), sym (same_ok a.1))

-- a number that is found is that of a name before
number_below : (ns : List (List ℕ)) (w : List ℕ) (x : ℕ) → number_in ns w ≡ Some x → x < length ns
number_below [] w x h = let z : ◌≡◌ {A = ℕ} 0 1 = cc in absurd (omega arith)
number_below (n ∷ ns) w x h =
    ⊎_elim
    (λ t. let e : Some (length ns) ≡ Some x = sym (cond-true (bytes_eq n w) _ _ t) ∙ h in let f : length ns ≡ x = cc in omega arith)
    (λ f. omega (arith, number_below ns w x (sym (cond-false (bytes_eq n w) _ _ f) ∙ h)))
    (cases_Bool (bytes_eq n w))

numbered : (ns : List (List ℕ)) (w : List ℕ) (x : ℕ) → length ns ≤ 16 → number_for ns w ≡ Ok x → (x < 16) × (length (names_with ns w) ≤ 16)
numbered ns w x l h =
    let go : (o : Option ℕ) → number_in ns w ≡ o → (elim o as (λ _. Result ℕ Cause) [ Some y ↦ Ok y | None ↦ cond (ltb 15 (length ns)) (Err TooMany) (Ok (length ns)) ]) ≡ Ok x → (x < 16) × (length (elim o as (λ _. List (List ℕ)) [ Some y ↦ ns | None ↦ cond (ltb 15 (length ns)) ns (w ∷ ns) ]) ≤ 16) =
    λ o. elim o as (λ o. number_in ns w ≡ o → (elim o as (λ _. Result ℕ Cause) [ Some y ↦ Ok y | None ↦ cond (ltb 15 (length ns)) (Err TooMany) (Ok (length ns)) ]) ≡ Ok x → (x < 16) × (length (elim o as (λ _. List (List ℕ)) [ Some y ↦ ns | None ↦ cond (ltb 15 (length ns)) ns (w ∷ ns) ]) ≤ 16)) [
      | Some y ↦ λ p q. let e : y ≡ x = same_ok q in (omega (arith, number_below ns w y p), l)
      | None ↦ λ p q. let a = else_ok (ltb 15 (length ns)) (Ok (length ns)) TooMany q in let b = ltb-false 15 (length ns) a.0 in let e = same_ok a.1 in let f = ap length (cond-false (ltb 15 (length ns)) ns (w ∷ ns) a.0) in (omega arith, omega arith)
    ] in
    go (number_in ns w) refl h

-- an element that is no group
record Plain (ns : List (List ℕ)) (t : Shape) (x : Element) : Type 0 where
  one : extent x ≡ 1
  least : least_extent x ≤ 1
  num : number_of x < 16
  names : length (names_after ns t) ≤ 16

plain_lexeme : (es : List Entry) (w : List ℕ) (x : Element) → lexeme_of es w ≡ Ok x → (l : ℕ) × (x ≡ Lexeme l)
plain_lexeme es w x h = let a = also_ok (known_label es w) (λ l. Ok (Lexeme l)) h in (a.0, sym (same_ok a.2))

lexed : (ns : List (List ℕ)) (t : Shape) (x : Element) → length (names_after ns t) ≤ 16 → (l : ℕ) × (x ≡ Lexeme l) → Plain ns t x
lexed ns t x m e = subst (Plain ns t) (sym e.1) (record { one = refl; least = lit≤ tt; num = lit< tt; names = m })

plain : (es : List Entry) (ns : List (List ℕ)) (t : Shape) (x : Element) → length ns ≤ 16 → leaf_of es ns t ≡ Ok x → Plain ns t x
plain es ns (word w) x l h = lexed ns (word w) x l (plain_lexeme es w x h)
plain es ns (quoted w) x l h = lexed ns (quoted w) x l (plain_lexeme es w x h)
plain es ns (variable k w) x l h =
    let a = also_ok (known_constructor es k) (λ c. also (number_for ns w) (λ y. Ok (Variable y c))) h in
    let b = also_ok (number_for ns w) (λ y. Ok (Variable y a.0)) a.2 in
    let c = numbered ns w b.0 l b.1 in
    subst (Plain ns (variable k w)) (same_ok b.2) (record { one = refl; least = lit≤ tt; num = c.0; names = c.1 })
plain es ns (sign b) x l h = lexed ns (sign b) x l (plain_lexeme es (b ∷ []) x h)
plain es ns open_group x l h = absurd (err_not_ok h)
plain es ns close_group x l h = absurd (err_not_ok h)
plain es ns fault x l h = absurd (err_not_ok h)
plain es ns end x l h = absurd (err_not_ok h)

-- a draft that can be the start of a pattern
record Good (d : Draft) : Type 0 where
  stand : Stand d.elements d.opened
  few_names : length d.names ≤ 16

good_leaf : (es : List Entry) (d e : Draft) (t : Shape) → Good d → with_leaf es d t ≡ Ok e → Good e
good_leaf es d e t g h =
    let a = also_ok (leaf_of es d.names t) (λ x. also (one_more d.elements x) (λ xs. Ok (drafted xs d.opened (names_after d.names t)))) h in
    let b = also_ok (one_more d.elements a.0) (λ xs. Ok (drafted xs d.opened (names_after d.names t))) a.2 in
    let m = one_more_ok d.elements a.0 b.1 in
    let p = plain es d.names t a.0 g.few_names a.1 in
    subst Good (ap (λ xs. drafted xs d.opened (names_after d.names t)) (sym m.1) ∙ same_ok b.2) (record { stand = stand_leaf d.elements d.opened a.0 g.stand m.0 p.one p.least p.num; few_names = p.names })

good_group : (d e : Draft) → Good d → with_group d ≡ Ok e → Good e
good_group d e g h =
    let a = else_ok (ltb 15 (length d.opened)) (also (one_more d.elements (Group 1)) (λ xs. Ok (drafted xs (length d.elements ∷ d.opened) d.names))) TooMany h in
    let b = also_ok (one_more d.elements (Group 1)) (λ xs. Ok (drafted xs (length d.elements ∷ d.opened) d.names)) a.1 in
    let m = one_more_ok d.elements (Group 1) b.1 in
    subst Good (ap (λ xs. drafted xs (length d.elements ∷ d.opened) d.names) (sym m.1) ∙ same_ok b.2) (record { stand = stand_open d.elements d.opened g.stand m.0 (omega (arith, ltb-false 15 (length d.opened) a.0)); few_names = g.few_names })

good_closed : (xs : List Element) (gs : List ℕ) (ns : List (List ℕ)) (e : Draft) → Good (drafted xs gs ns) → closed xs gs ns ≡ Ok e → Good e
good_closed xs [] ns e g h = absurd (err_not_ok h)
good_closed xs (k ∷ gs) ns e g h = let a = then_ok (ltb (suc k) (length xs)) (Ok (drafted (set xs k (Group (length xs - k))) gs ns)) Unpaired h in subst Good (same_ok a.1) (record { stand = stand_closed xs k gs g.stand (ltb-true _ _ a.0); few_names = g.few_names })

-- what is accepted at the end
record Whole (d : Draft) : Type 0 where
  formed : WellFormed d.elements

whole_end : (xs : List Element) (gs : List ℕ) (ns : List (List ℕ)) (e : Draft) → Good (drafted xs gs ns) → ended xs gs ns ≡ Ok e → Good e × Whole e
whole_end xs [] ns e g h = let a = then_ok (ltb 0 (length xs)) (Ok (drafted xs [] ns)) Unpaired h in let q = same_ok a.1 in (subst Good q g, subst Whole q (record { formed = stand_whole xs g.stand (ltb-true _ _ a.0) }))
whole_end xs (k ∷ gs) ns e g h = absurd (err_not_ok h)

good_token : (es : List Entry) (d e : Draft) (t : Shape) → Good d → with_token es d t ≡ Ok e → Good e
good_token es d e (word w) g h = good_leaf es d e (word w) g h
good_token es d e (quoted w) g h = good_leaf es d e (quoted w) g h
good_token es d e (variable k w) g h = good_leaf es d e (variable k w) g h
good_token es d e (sign b) g h = good_leaf es d e (sign b) g h
good_token es d e open_group g h = good_group d e g h
good_token es d e close_group g h = good_closed d.elements d.opened d.names e g h
good_token es d e fault g h = good_leaf es d e fault g h
good_token es d e end g h = (whole_end d.elements d.opened d.names e g h).0

whole_token : (es : List Entry) (d e : Draft) (t : Shape) → is_end t ≡ true → Good d → with_token es d t ≡ Ok e → Whole e
whole_token es d e (word w) n g h = absurd (false≢true n)
whole_token es d e (quoted w) n g h = absurd (false≢true n)
whole_token es d e (variable k w) n g h = absurd (false≢true n)
whole_token es d e (sign b) n g h = absurd (false≢true n)
whole_token es d e open_group n g h = absurd (false≢true n)
whole_token es d e close_group n g h = absurd (false≢true n)
whole_token es d e fault n g h = absurd (false≢true n)
whole_token es d e end n g h = (whole_end d.elements d.opened d.names e g h).1

-- the last token is the end of the text
abbrev pub EndsWell : List Spot → Type 0
EndsWell [] = ⊥
EndsWell (t ∷ []) = is_end t.what ≡ true
EndsWell (t ∷ u ∷ us) = EndsWell (u ∷ us)

pub scan_ok : (es : List Entry) (d : Draft) (t : Spot) (ts : List Spot) (e : Draft) → pattern_scan es d (t ∷ ts) ≡ Ok e → (f : Draft) × (with_token es d t.what ≡ Ok f) × (pattern_scan es f ts ≡ Ok e)
scan_ok es d t ts e h =
    let go : (r : Result Draft Cause) → with_token es d t.what ≡ r → (elim r as (λ _. Result Draft Refusal) [ Ok f ↦ pattern_scan es f ts | Err c ↦ Err (pattern_fault c t.start) ]) ≡ Ok e → (f : Draft) × (with_token es d t.what ≡ Ok f) × (pattern_scan es f ts ≡ Ok e) =
    λ r. elim r as (λ r. with_token es d t.what ≡ r → (elim r as (λ _. Result Draft Refusal) [ Ok f ↦ pattern_scan es f ts | Err c ↦ Err (pattern_fault c t.start) ]) ≡ Ok e → (f : Draft) × (with_token es d t.what ≡ Ok f) × (pattern_scan es f ts ≡ Ok e)) [
      | Ok f ↦ λ p q. (f, p, q)
      | Err c ↦ λ p q. absurd (err_not_ok q)
    ] in
    go (with_token es d t.what) refl (sym (scan_next es d t ts) ∙ h)

whole_scan : (es : List Entry) (d e : Draft) (ts : List Spot) → Good d → EndsWell ts → pattern_scan es d ts ≡ Ok e → Whole e
whole_scan es d e [] g n h = absurd n
whole_scan es d e (t ∷ []) g n h = let a = scan_ok es d t [] e h in subst Whole (same_ok (sym (scan_none es a.0) ∙ a.2)) (whole_token es d a.0 t.what n g a.1)
whole_scan es d e (t ∷ u ∷ us) g n h = let a = scan_ok es d t (u ∷ us) e h in whole_scan es a.0 e (u ∷ us) (good_token es d a.0 t.what g a.1) n a.2

ends_more : (t : Spot) (ts : List Spot) → EndsWell ts → EndsWell (t ∷ ts)
ends_more t [] n = absurd n
ends_more t (u ∷ us) n = n

lex_ends : (n : ℕ) (s : List ℕ) (i : ℕ) → i ≤ length s → length s - i < n → EndsWell (lex n s i)
lex_ends zero s i h p = absurd (omega arith)
lex_ends (suc n) s i h p =
    let w = moves s i h in
    subst EndsWell (sym (lex_next n s i))
    (⊎_elim
    (λ t. subst (λ ts. EndsWell (next_token s i ∷ ts)) (sym (cond-true (is_end (next_token s i).what) _ _ t)) t)
    (λ f. subst (λ ts. EndsWell (next_token s i ∷ ts)) (sym (cond-false (is_end (next_token s i).what) _ _ f)) (let m = w.forward f in ends_more (next_token s i) (lex n s (next_token s i).to) (lex_ends n s (next_token s i).to w.inner (omega (arith, w.inner)))))
    (cases_Bool (is_end (next_token s i).what)))

pub tokens_end : (s : List ℕ) → EndsWell (tokens_from s 0)
unfolding tokens_from
tokens_end s = lex_ends (suc (length s - 0)) s 0 (omega arith) (omega arith)

pub accepted : (es : List Entry) (s : List ℕ) (xs : List Element) → scanned es (tokens_from s 0) ≡ Ok xs → WellFormed xs
accepted es s xs h =
    let a = also_ok (pattern_scan es (drafted [] [] []) (tokens_from s 0)) (λ d. Ok d.elements) h in
    subst WellFormed (same_ok a.2) (whole_scan es (drafted [] [] []) a.0 (tokens_from s 0) (record { stand = stand_none; few_names = omega arith }) (tokens_end s) a.1).formed

pub accepted_row : (es : List Entry) (s : List ℕ) (r : RowBuilder) → scanned es (tokens_from s 0) ≡ Ok (elements_of r.row) → IsPattern r.row
accepted_row es s r h = record { counted = omega (arith, r.few, r.full); formed = accepted es s (elements_of r.row) h }
