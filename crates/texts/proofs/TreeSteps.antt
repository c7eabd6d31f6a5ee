-- What the reading of tree text does at each kind of token.
use Rattle.std.proofs.Common.{◌≡◌, ℕ, ◌+◌, ◌-◌, ◌⊎◌, ⊎_elim, Result, Bool, true, false, List, [], ◌∷◌, ◌++◌, length, Some, None, Ok, Err, Option, sym, refl, ap, ◌∙◌, Bor}
use Rattle.std.proofs.lemmas.Bool.{cond-true, cond-false, false≢true}
use Rattle.refusals.specs.declared.Cause.{Cause}
use Rattle.refusals.specs.declared.Cause.TheVariants.{BadText}
use Rattle.refusals.specs.declared.Refusal.{Refusal}
use Rattle.labels.specs.Entries.{Entry}
use Rattle.trees.specs.declared.record.Record.{Record}
use Rattle.texts.specs.declared.reader.Reader.{Reader}
use Rattle.texts.specs.declared.token.Token.{Token}
use Rattle.texts.specs.declared.token.Token.TheVariants.{Variable, GroupOpen, GroupClose, Fault}
use Rattle.texts.specs.declared.tree.reading.TreeReader.{TreeReader}
use Rattle.texts.specs.Books.{entries_of}
use Rattle.texts.specs.Steps.{scan_on}
use Rattle.texts.specs.Tokens.{Shape, shape, word, quoted, variable, sign, open_group, close_group, fault, end, Spot, next_token, is_end, tokens_from}
use Rattle.texts.specs.Results.{also}
use Rattle.texts.specs.TreeText.{tree_fault, node_answer, end_fault_lem, sign_fault_lem, is_open, tree_scan}
use Rattle.texts.proofs.Lexing.{rest_of, some_token, rest_step, token_step, end_step}

-- a token that opens a node is not the end
pub open_goes_on : (x : Shape) → is_open x ≡ true → is_end x ≡ false
open_goes_on (word w) h = refl
open_goes_on (quoted w) h = refl
open_goes_on (variable k w) h = refl
open_goes_on (sign b) h = refl
open_goes_on open_group h = refl
open_goes_on close_group h = refl
open_goes_on fault h = refl
open_goes_on end h = absurd (false≢true h)

-- the reader r read the next token of p, which starts at byte b
module _ (p : TreeReader) (r : Reader) (b : ℕ) (same : r.text ≡ p.reader.text) (start : b ≡ (next_token p.reader.text.now p.reader.at).start) (moved : r.at ≡ (next_token p.reader.text.now p.reader.at).to) where
  abbrev es : List Entry
  es = entries_of p.book.now

  abbrev here : Spot
  here = next_token p.reader.text.now p.reader.at

  -- the records that are read in the end, where a reader is left
  abbrev on : Reader → ℕ → Bool → List Record → Result (List Record) Refusal
  on o d e rs = tree_scan es d e rs (tokens_from o.text.now o.at)

  left : tokens_from p.reader.text.now here.to ≡ tokens_from r.text.now r.at
  left = ap (λ (k : ℕ). tokens_from p.reader.text.now k) (sym moved) ∙ ap (λ t. tokens_from t.now r.at) (sym same)

  -- back from the token behind the reader
  whole : next_token r.text.now r.at ∷ rest_of r.text.now r.at ≡ tokens_from r.text.now r.at
  whole = sym (some_token r.text.now r.at)

  at_two : (x : Shape) → x ≡ here.what → is_end x ≡ false → (rs : List Record) → scan_on p rs ≡ tree_scan es p.depth p.empty rs (record { what = x; start = b; to = here.to } ∷ next_token r.text.now r.at ∷ rest_of r.text.now r.at)
  at_two x q n rs =
      ap (tree_scan es p.depth p.empty rs) (token_step p.reader.text.now p.reader.at p.reader.within (ap is_end (sym q) ∙ n))
      ∙ ap (λ (y : Shape). tree_scan es p.depth p.empty rs (record { what = y; start = here.start; to = here.to } ∷ tokens_from p.reader.text.now here.to)) (sym q)
      ∙ ap (λ (k : ℕ). tree_scan es p.depth p.empty rs (record { what = x; start = k; to = here.to } ∷ tokens_from p.reader.text.now here.to)) (sym start)
      ∙ ap (λ ts. tree_scan es p.depth p.empty rs (record { what = x; start = b; to = here.to } ∷ ts)) (left ∙ sym whole)

  at_end : end ≡ here.what → (rs : List Record) → length rs ≡ p.count → scan_on p rs ≡ elim (end_fault_lem p.depth p.count) [ None ↦ Ok rs | Some c ↦ Err (tree_fault c b) ]
  at_end q rs l =
      ap (tree_scan es p.depth p.empty rs) (end_step p.reader.text.now p.reader.at (ap is_end (sym q)))
      ∙ ap (λ (k : ℕ). elim (end_fault_lem p.depth k) [ None ↦ Ok rs | Some c ↦ Err (tree_fault c here.start) ]) l
      ∙ ap (λ (k : ℕ). elim (end_fault_lem p.depth p.count) [ None ↦ Ok rs | Some c ↦ Err (tree_fault c k) ]) (sym start)

  module _ (rs : List Record) (l : length rs ≡ p.count) where
    node : {X : Result Record Refusal} (w : List ℕ) → node_answer es p.depth p.count w b ≡ X → node_answer es p.depth (length rs) w b ≡ X
    node w a = ap (λ (k : ℕ). node_answer es p.depth k w b) l ∙ a

    quoted_step : (w : List ℕ) (x : Result Record Refusal) → quoted w ≡ here.what → node_answer es p.depth p.count w b ≡ x → scan_on p rs ≡ also x (λ z. on r p.depth false (rs ++ (z ∷ [])))
    quoted_step w x q a =
        at_two (quoted w) q refl rs
        ∙ ap (λ ts. also (node_answer es p.depth (length rs) w b) (λ z. tree_scan es p.depth false (rs ++ (z ∷ [])) ts)) whole
        ∙ ap (λ y. also y (λ z. on r p.depth false (rs ++ (z ∷ [])))) (node w a)

    pub quoted_on : (w : List ℕ) (z : Record) → quoted w ≡ here.what → node_answer es p.depth p.count w b ≡ Ok z → scan_on p rs ≡ on r p.depth false (rs ++ (z ∷ []))
    quoted_on w z q a = quoted_step w (Ok z) q a

    pub quoted_fault : (w : List ℕ) (f : Refusal) → quoted w ≡ here.what → node_answer es p.depth p.count w b ≡ Err f → scan_on p rs ≡ Err f
    quoted_fault w f q a = quoted_step w (Err f) q a

    -- a word, and the token behind it, which is read by the reader o
    module _ (w : List ℕ) (q : word w ≡ here.what) where
      pub word_alone : is_open (next_token r.text.now r.at).what ≡ false → scan_on p rs ≡ Err (tree_fault BadText b)
      word_alone h = at_two (word w) q refl rs ∙ cond-false _ _ _ h

      module _ (o : Reader) (h : is_open (next_token r.text.now r.at).what ≡ true) (t : o.text ≡ r.text) (j : o.at ≡ (next_token r.text.now r.at).to) where
        word_step : (x : Result Record Refusal) → node_answer es p.depth p.count w b ≡ x → scan_on p rs ≡ also x (λ z. on o (p.depth + 1) true (rs ++ (z ∷ [])))
        word_step x a =
            at_two (word w) q refl rs ∙ cond-true _ _ _ h
            ∙ ap (λ ts. also (node_answer es p.depth (length rs) w b) (λ z. tree_scan es (p.depth + 1) true (rs ++ (z ∷ [])) ts)) (rest_step r.text.now r.at r.within (open_goes_on (next_token r.text.now r.at).what h) ∙ ap (λ (k : ℕ). tokens_from r.text.now k) (sym j) ∙ ap (λ y. tokens_from y.now o.at) (sym t))
            ∙ ap (λ y. also y (λ z. on o (p.depth + 1) true (rs ++ (z ∷ [])))) (node w a)

        pub word_on : (z : Record) → node_answer es p.depth p.count w b ≡ Ok z → scan_on p rs ≡ on o (p.depth + 1) true (rs ++ (z ∷ []))
        word_on z a = word_step (Ok z) a

        pub word_fault : (f : Refusal) → node_answer es p.depth p.count w b ≡ Err f → scan_on p rs ≡ Err f
        word_fault f a = word_step (Err f) a

    sign_step : (a : ℕ) (c : Option Cause) → sign a ≡ here.what → sign_fault_lem a p.depth p.empty ≡ c → scan_on p rs ≡ elim c [ None ↦ on r (p.depth - 1) false rs | Some k ↦ Err (tree_fault k b) ]
    sign_step a c q n =
        at_two (sign a) q refl rs
        ∙ ap (λ ts. elim (sign_fault_lem a p.depth p.empty) [ None ↦ tree_scan es (p.depth - 1) false rs ts | Some k ↦ Err (tree_fault k b) ]) whole
        ∙ ap (λ (o : Option Cause). elim o [ None ↦ on r (p.depth - 1) false rs | Some k ↦ Err (tree_fault k b) ]) n

    pub sign_on : (a : ℕ) → sign a ≡ here.what → sign_fault_lem a p.depth p.empty ≡ None → scan_on p rs ≡ on r (p.depth - 1) false rs
    sign_on a q n = sign_step a None q n

    pub sign_at_fault : (a : ℕ) (c : Cause) → sign a ≡ here.what → sign_fault_lem a p.depth p.empty ≡ Some c → scan_on p rs ≡ Err (tree_fault c b)
    sign_at_fault a c q n = sign_step a (Some c) q n

    pub done : end ≡ here.what → end_fault_lem p.depth p.count ≡ None → scan_on p rs ≡ Ok rs
    done q n = at_end q rs l ∙ ap (λ (o : Option Cause). elim o [ None ↦ Ok rs | Some c ↦ Err (tree_fault c b) ]) n

    pub end_at_fault : (c : Cause) → end ≡ here.what → end_fault_lem p.depth p.count ≡ Some c → scan_on p rs ≡ Err (tree_fault c b)
    end_at_fault c q n = at_end q rs l ∙ ap (λ (o : Option Cause). elim o [ None ↦ Ok rs | Some a ↦ Err (tree_fault a b) ]) n

    -- a token that stands in no tree
    spelt : (k : Option (Bor (List ℕ))) (w : Bor (List ℕ)) → shape (Variable k w) ≡ here.what → scan_on p rs ≡ Err (tree_fault BadText b)
    spelt None w q = at_two (variable None w.now) q refl rs
    spelt (Some k) w q = at_two (variable (Some k.now) w.now) q refl rs

    pub no_node : (t : Token) → shape t ≡ here.what → ((k : Option (Bor (List ℕ))) × (w : Bor (List ℕ)) × (t ≡ Variable k w)) ⊎ ((t ≡ GroupOpen) ⊎ ((t ≡ GroupClose) ⊎ (t ≡ Fault))) → scan_on p rs ≡ Err (tree_fault BadText b)
    no_node t q h =
        ⊎_elim (λ h. spelt h.0 h.1 (ap shape (sym h.2) ∙ q))
        (⊎_elim (λ h. at_two open_group (ap shape (sym h) ∙ q) refl rs)
        (⊎_elim (λ h. at_two close_group (ap shape (sym h) ∙ q) refl rs) (λ h. at_two fault (ap shape (sym h) ∙ q) refl rs))) h
