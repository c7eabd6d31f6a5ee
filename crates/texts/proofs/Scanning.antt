-- What the reading of pattern text does at the next token.
use Rattle.std.proofs.Common.{◌≡◌, ℕ, ◌≤◌, true, false, List, [], ◌∷◌, length, Some, None, Ok, Err, Option, Result, sym, refl, ap, ◌∙◌, Bor}
use Rattle.std.proofs.lemmas.Bool.{false≢true, true≢false}
use Rattle.refusals.specs.declared.Cause.{Cause}
use Rattle.refusals.specs.declared.Refusal.{Refusal}
use Rattle.labels.specs.Entries.{Entry}
use Rattle.texts.specs.declared.reader.Reader.{Reader}
use Rattle.texts.specs.declared.token.Token.{Token}
use Rattle.texts.specs.declared.token.Token.TheVariants.{Word, Quoted, Variable, Sign, GroupOpen, GroupClose, Fault, End}
use Rattle.texts.specs.Tokens.{Shape, close_group, end, Spot, shape, next_token, is_end, tokens_from}
use Rattle.texts.specs.PatternSteps.{stops}
use Rattle.texts.specs.PatternText.{Draft, names_after, names_among, names_with, with_leaf, with_token, pattern_fault, pattern_scan}
use Rattle.texts.proofs.Lexing.{rest_of, some_token, token_step, end_step}

abbrev pub goes_on : List Entry → Spot → List Spot → Result Draft Cause → Result Draft Refusal
goes_on es t ts r = elim r [ Ok e ↦ pattern_scan es e ts | Err c ↦ Err (pattern_fault c t.start) ]

pub scan_next : (es : List Entry) (d : Draft) (t : Spot) (ts : List Spot) → pattern_scan es d (t ∷ ts) ≡ goes_on es t ts (with_token es d t.what)
unfolding pattern_scan
scan_next es d t ts = refl

pub scan_none : (es : List Entry) (d : Draft) → pattern_scan es d [] ≡ Ok d
unfolding pattern_scan
scan_none es d = refl

module _ (es : List Entry) (s : List ℕ) (i : ℕ) (d : Draft) (x : Shape) (q : x ≡ (next_token s i).what) where
  pub scan_wrong : (c : Cause) → with_token es d x ≡ Err c → pattern_scan es d (tokens_from s i) ≡ Err (pattern_fault c (next_token s i).start)
  scan_wrong c w = ap (pattern_scan es d) (some_token s i) ∙ scan_next es d (next_token s i) (rest_of s i) ∙ ap (goes_on es (next_token s i) (rest_of s i)) (ap (with_token es d) (sym q) ∙ w)

  pub scan_token : i ≤ length s → is_end x ≡ false → (e : Draft) → with_token es d x ≡ Ok e → pattern_scan es d (tokens_from s i) ≡ pattern_scan es e (tokens_from s (next_token s i).to)
  scan_token h n e w = ap (pattern_scan es d) (token_step s i h (ap is_end (sym q) ∙ n)) ∙ scan_next es d (next_token s i) (tokens_from s (next_token s i).to) ∙ ap (goes_on es (next_token s i) (tokens_from s (next_token s i).to)) (ap (with_token es d) (sym q) ∙ w)

  pub scan_end : is_end x ≡ true → (e : Draft) → with_token es d x ≡ Ok e → pattern_scan es d (tokens_from s i) ≡ Ok e
  scan_end n e w = ap (pattern_scan es d) (end_step s i (ap is_end (sym q) ∙ n)) ∙ scan_next es d (next_token s i) [] ∙ ap (goes_on es (next_token s i) []) (ap (with_token es d) (sym q) ∙ w) ∙ scan_none es e

-- a token that ends a level and does not close a group ends the text, and the other way round
pub stop_not_close : (t : Token) → stops (shape t) ≡ true → (t ≡ GroupClose → ⊥) → shape t ≡ end
stop_not_close (Word w) h n = absurd (false≢true h)
stop_not_close (Quoted w) h n = absurd (false≢true h)
stop_not_close (Variable None w) h n = absurd (false≢true h)
stop_not_close (Variable (Some k) w) h n = absurd (false≢true h)
stop_not_close (Sign b) h n = absurd (false≢true h)
stop_not_close GroupOpen h n = absurd (false≢true h)
stop_not_close GroupClose h n = absurd (n refl)
stop_not_close Fault h n = absurd (false≢true h)
stop_not_close End h n = refl

pub stop_not_end : (t : Token) → stops (shape t) ≡ true → (t ≡ End → ⊥) → shape t ≡ close_group
stop_not_end (Word w) h n = absurd (false≢true h)
stop_not_end (Quoted w) h n = absurd (false≢true h)
stop_not_end (Variable None w) h n = absurd (false≢true h)
stop_not_end (Variable (Some k) w) h n = absurd (false≢true h)
stop_not_end (Sign b) h n = absurd (false≢true h)
stop_not_end GroupOpen h n = absurd (false≢true h)
stop_not_end GroupClose h n = refl
stop_not_end Fault h n = absurd (false≢true h)
stop_not_end End h n = absurd (n refl)

-- a token that is read as an element and is no group
pub record Leafy (x : Shape) : Type 0 where
  pub same : (es : List Entry) (d : Draft) → with_token es d x ≡ with_leaf es d x
  pub goes : is_end x ≡ false

pub leafy : (t : Token) → stops (shape t) ≡ false → (t ≡ GroupOpen → ⊥) → Leafy (shape t)
leafy (Word w) h n = record { same = λ es d. refl; goes = refl }
leafy (Quoted w) h n = record { same = λ es d. refl; goes = refl }
leafy (Variable None w) h n = record { same = λ es d. refl; goes = refl }
leafy (Variable (Some k) w) h n = record { same = λ es d. refl; goes = refl }
leafy (Sign b) h n = record { same = λ es d. refl; goes = refl }
leafy GroupOpen h n = absurd (n refl)
leafy GroupClose h n = absurd (true≢false h)
leafy Fault h n = record { same = λ es d. refl; goes = refl }
leafy End h n = absurd (true≢false h)

names_next : (ns : List (List ℕ)) (t : Spot) (ts : List Spot) → names_among ns (t ∷ ts) ≡ names_among (names_after ns t.what) ts
unfolding names_among
names_next ns t ts = refl

names_none : (ns : List (List ℕ)) → names_among ns [] ≡ ns
unfolding names_among
names_none ns = refl

-- the names among the tokens left, where the reader r read the next of them
pub names_on : (p r : Reader) (x : Shape) (ns : List (List ℕ)) → x ≡ (next_token p.text.now p.at).what → r.text ≡ p.text → r.at ≡ (next_token p.text.now p.at).to → is_end x ≡ false → names_among ns (tokens_from p.text.now p.at) ≡ names_among (names_after ns x) (tokens_from r.text.now r.at)
names_on p r x ns q t m n =
    ap (names_among ns) (token_step p.text.now p.at p.within (ap is_end (sym q) ∙ n)) ∙ names_next ns (next_token p.text.now p.at) (tokens_from p.text.now (next_token p.text.now p.at).to)
    ∙ ap (λ (y : Shape). names_among (names_after ns y) (tokens_from p.text.now (next_token p.text.now p.at).to)) (sym q)
    ∙ ap (λ (k : ℕ). names_among (names_after ns x) (tokens_from p.text.now k)) (sym m)
    ∙ ap (λ y. names_among (names_after ns x) (tokens_from y.now r.at)) (sym t)

-- and where that is the end
pub names_stop : (p : Reader) (ns : List (List ℕ)) → end ≡ (next_token p.text.now p.at).what → names_among ns (tokens_from p.text.now p.at) ≡ ns
names_stop p ns q =
    ap (names_among ns) (end_step p.text.now p.at (ap is_end (sym q))) ∙ names_next ns (next_token p.text.now p.at) []
    ∙ ap (λ (y : Shape). names_among (names_after ns y) []) (sym q) ∙ names_none ns

-- a token that is no variable adds no name
pub names_same : (t : Token) (ns : List (List ℕ)) → ((k : Option (Bor (List ℕ))) (w : Bor (List ℕ)) → t ≡ Variable k w → ⊥) → (t ≡ End → ⊥) → (names_after ns (shape t) ≡ ns) × (is_end (shape t) ≡ false)
names_same (Word w) ns v n = (refl, refl)
names_same (Quoted w) ns v n = (refl, refl)
names_same (Variable k w) ns v n = absurd (v k w refl)
names_same (Sign b) ns v n = (refl, refl)
names_same GroupOpen ns v n = (refl, refl)
names_same GroupClose ns v n = (refl, refl)
names_same Fault ns v n = (refl, refl)
names_same End ns v n = absurd (n refl)

-- what a variable adds
pub names_variable : (k : Option (Bor (List ℕ))) (w : Bor (List ℕ)) (ns : List (List ℕ)) → (names_after ns (shape (Variable k w)) ≡ names_with ns w.now) × (is_end (shape (Variable k w)) ≡ false)
names_variable None w ns = (refl, refl)
names_variable (Some k) w ns = (refl, refl)
