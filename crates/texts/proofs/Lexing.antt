-- Each token moves on and stays inside its text, so the tokens of a text come one after the other.
use Rattle.std.proofs.Common.{◌≡◌, ℕ, zero, suc, ◌+◌, ◌-◌, ◌<◌, ◌≤◌, Bool, true, false, cond, ◌&&◌, eqb, ltb, leb, List, [], ◌∷◌, length, get_or, drop, Option, sym, refl, ap, ◌∙◌, ⊎_elim, arith, length-drop}
use Rattle.std.proofs.lemmas.List.{get_or_past}
use Rattle.std.proofs.lemmas.List.Sums.{prefix_len-le-length, prefix_len-drop_yes}
use Rattle.std.proofs.lemmas.Bool.{false≢true, cond_both, cond-true, cond-false, and_parts, cases_lt, ltb-true, ltb-false}
use Rattle.labels.specs.Entries.{name_byte}
use Rattle.texts.specs.declared.reader.Reader.{Reader}
use Rattle.texts.specs.Bytes.{blank, letter, namey, wordy, seen, run_end}
use Rattle.texts.specs.Tokens.{Shape, Lexed, lexed, quoted_at, variable_at, constructed_at, percent_at, token_at, next_token, is_end, Spot, lex, tokens_from}

pub run_within : (p : ℕ → Bool) (s : List ℕ) (i : ℕ) → i ≤ length s → run_end p s i ≤ length s
run_within p s i h = omega (arith, prefix_len-le-length p (drop i s), length-drop i s)

inside : (p : ℕ → Bool) (s : List ℕ) (j : ℕ) → p 0 ≡ false → p (get_or s j 0) ≡ true → j < length s
inside p s j no_zero yes-here = ⊎_elim (λ h. h) (λ h. absurd (false≢true (sym no_zero ∙ ap p (sym (get_or_past s j 0 h)) ∙ yes-here))) (cases_lt j (length s))

-- a token read at i ends behind i and inside the text
record Fits (s : List ℕ) (i : ℕ) (t : Lexed) : Type 0 where
  on : i < t.to
  in_text : t.to ≤ length s

fits_cond : {s : List ℕ} {i : ℕ} (b : Bool) {x y : Lexed} → (b ≡ true → Fits s i x) → (b ≡ false → Fits s i y) → Fits s i (cond b x y)
fits_cond {s} {i} b {x} {y} p q = cond_both b x y (Fits s i) p q

module _ (s : List ℕ) (i : ℕ) (here : i < length s) where
  one : (w : Shape) → Fits s i (lexed w (i + 1))
  one w = record { on = omega arith; in_text = omega arith }

  far : (w : Shape) (e : ℕ) → i < e → e ≤ length s → Fits s i (lexed w e)
  far w e p q = record { on = p; in_text = q }

  quoted_fits : Fits s i (quoted_at s i)
  quoted_fits =
      let w = run_within name_byte s (i + 1) (omega arith) in
      fits_cond (eqb (get_or s (run_end name_byte s (i + 1)) 0) 39 && (ltb (i + 1) (run_end name_byte s (i + 1)) && leb (run_end name_byte s (i + 1) - (i + 1)) 64)) (λ h. let e = inside (λ b. eqb b 39) s (run_end name_byte s (i + 1)) refl (and_parts _ _ h).0 in far _ (run_end name_byte s (i + 1) + 1) (omega arith) (omega arith)) (λ h. one _)

  variable_fits : (k : Option (List ℕ)) (j : ℕ) → i < j → j ≤ length s → Fits s i (variable_at s k i j)
  variable_fits k j l m = let w = run_within namey s j m in fits_cond (letter (get_or s j 0) && leb (run_end namey s j - j) 16) (λ h. far _ (run_end namey s j) (omega arith) w) (λ h. one _)

  constructed_fits : i + 1 < length s → Fits s i (constructed_at s i)
  constructed_fits l =
      let w = run_within wordy s (i + 2) (omega arith) in
      fits_cond (eqb (get_or s (run_end wordy s (i + 2)) 0) 62 && ltb (i + 2) (run_end wordy s (i + 2)))
      (λ h. let e = inside (λ b. eqb b 62) s (run_end wordy s (i + 2)) refl (and_parts _ _ h).0 in variable_fits _ (run_end wordy s (i + 2) + 1) (omega arith) (omega arith))
      (λ h. one _)

  two : i + 1 < length s → (w : Shape) → Fits s i (lexed w (i + 2))
  two l w = record { on = omega arith; in_text = omega arith }

  percent_fits : Fits s i (percent_at s i)
  percent_fits =
      fits_cond (eqb (get_or s (i + 1) 0) 37) (λ h. two (inside (λ b. eqb b 37) s (i + 1) refl h) _)
      (λ _. fits_cond (eqb (get_or s (i + 1) 0) 40) (λ h. two (inside (λ b. eqb b 40) s (i + 1) refl h) _)
      (λ _. fits_cond (eqb (get_or s (i + 1) 0) 41) (λ h. two (inside (λ b. eqb b 41) s (i + 1) refl h) _)
      (λ _. fits_cond (eqb (get_or s (i + 1) 0) 60) (λ h. constructed_fits (inside (λ b. eqb b 60) s (i + 1) refl h))
      (λ _. fits_cond (letter (get_or s (i + 1) 0)) (λ h. variable_fits _ (i + 1) (omega arith) (omega arith)) (λ h. one _)))))

  word_fits : wordy (get_or s i 0) ≡ true → (w : Shape) → Fits s i (lexed w (run_end wordy s i))
  word_fits h w = let l = prefix_len-drop_yes wordy s i 0 here h in record { on = omega arith; in_text = run_within wordy s i (omega arith) }

  token_fits : Fits s i (token_at s i)
  token_fits =
      fits_cond (ltb i (length s))
      (λ _. fits_cond (wordy (get_or s i 0)) (λ h. word_fits h _)
      (λ _. fits_cond (eqb (get_or s i 0) 39) (λ h. quoted_fits)
      (λ _. fits_cond (eqb (get_or s i 0) 37) (λ h. percent_fits)
      (λ _. fits_cond (seen (get_or s i 0)) (λ h. one _) (λ h. one _)))))
      (λ h. absurd (omega (arith, ltb-false i (length s) h)))

-- the end of a text is read only there
end_token : (s : List ℕ) (i : ℕ) → length s ≤ i → is_end (token_at s i).what ≡ false → ⊥
end_token s i h no_end = false≢true (sym no_end ∙ cond_both (ltb i (length s)) _ _ (λ (t : Lexed). is_end t.what ≡ true) (λ l. absurd (omega (arith, ltb-true i (length s) l))) (λ _. refl))

pub record Moves (s : List ℕ) (i : ℕ) : Type 0 where
  pub behind : i ≤ (next_token s i).start
  pub inner : (next_token s i).to ≤ length s
  pub forward : is_end (next_token s i).what ≡ false → i < (next_token s i).to
  pub onward : i ≤ (next_token s i).to

pub moves : (s : List ℕ) (i : ℕ) → i ≤ length s → Moves s i
unfolding next_token
moves s i h =
    let w = run_within blank s i h in
    ⊎_elim
    (λ l. let f = token_fits s (run_end blank s i) l in record { behind = omega arith; inner = f.in_text; forward = λ _. omega (arith, f.on); onward = omega (arith, f.on) })
    (λ l.
    let stays : (token_at s (run_end blank s i)).to ≡ run_end blank s i = cond_both (ltb (run_end blank s i) (length s)) _ _ (λ (t : Lexed). t.to ≡ run_end blank s i) (λ x. absurd (omega (arith, ltb-true _ _ x))) (λ _. refl) in
    record { behind = omega arith; inner = omega (arith, stays); forward = λ e. absurd (end_token s (run_end blank s i) l e); onward = omega (arith, stays) })
    (cases_lt (run_end blank s i) (length s))

cond_same : {X : Type 0} (b : Bool) (x y z : X) → (b ≡ false → y ≡ z) → cond b x y ≡ cond b x z
cond_same true x y z h = refl
cond_same false x y z h = h refl

pub lex_next : (n : ℕ) (s : List ℕ) (i : ℕ) → lex (suc n) s i ≡ next_token s i ∷ cond (is_end (next_token s i).what) [] (lex n s (next_token s i).to)
unfolding lex
lex_next n s i = refl

-- more room for tokens than there are bytes adds none
pub lex_enough : (n m : ℕ) (s : List ℕ) (i : ℕ) → i ≤ length s → length s - i < n → length s - i < m → lex n s i ≡ lex m s i
lex_enough zero m s i h p q = absurd (omega arith)
lex_enough (suc n) zero s i h p q = absurd (omega arith)
lex_enough (suc n) (suc m) s i h p q =
    let w = moves s i h in
    lex_next n s i ∙ ap (λ ts. next_token s i ∷ ts) (cond_same (is_end (next_token s i).what) [] _ _ (λ e. let f = w.forward e in lex_enough n m s (next_token s i).to w.inner (omega (arith, w.inner)) (omega (arith, w.inner)))) ∙ sym (lex_next m s i)

pub end_step : (s : List ℕ) (i : ℕ) → is_end (next_token s i).what ≡ true → tokens_from s i ≡ next_token s i ∷ []
unfolding tokens_from
end_step s i e = lex_next (length s - i) s i ∙ ap (λ ts. next_token s i ∷ ts) (cond-true _ _ _ e)

-- the tokens left, of which there is a next one
pub rest_of : List ℕ → ℕ → List Spot
rest_of s i = cond (is_end (next_token s i).what) [] (lex (length s - i) s (next_token s i).to)

pub some_token : (s : List ℕ) (i : ℕ) → tokens_from s i ≡ next_token s i ∷ rest_of s i
unfolding tokens_from rest_of
some_token s i = lex_next (length s - i) s i

pub rest_step : (s : List ℕ) (i : ℕ) → i ≤ length s → is_end (next_token s i).what ≡ false → rest_of s i ≡ tokens_from s (next_token s i).to
unfolding rest_of tokens_from
rest_step s i h e =
    let w = moves s i h in
    let f = w.forward e in
    cond-false _ _ _ e ∙ lex_enough (length s - i) (suc (length s - (next_token s i).to)) s (next_token s i).to w.inner (omega (arith, w.inner)) (omega arith)

pub token_step : (s : List ℕ) (i : ℕ) → i ≤ length s → is_end (next_token s i).what ≡ false → tokens_from s i ≡ next_token s i ∷ tokens_from s (next_token s i).to
token_step s i h e = some_token s i ∙ ap (λ ts. next_token s i ∷ ts) (rest_step s i h e)

-- a reader that read a token which is not the end has fewer bytes left
pub fewer : (p r : Reader) → r.text ≡ p.text → (next_token p.text.now p.at).to ≤ r.at → is_end (next_token p.text.now p.at).what ≡ false → length r.text.now - r.at < length p.text.now - p.at
fewer p r t l n =
    let m = moves p.text.now p.at p.within in
    let f = m.forward n in
    omega (arith, m.inner, ap (λ x. length x.now) t)
