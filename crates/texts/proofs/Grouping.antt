-- What an element and a group of a pattern text do to the reading.
use Rattle.std.proofs.Common.{◌≡◌, ℕ, suc, ◌+◌, ◌-◌, ◌<◌, ◌≤◌, false, List, [], ◌∷◌, ◌++◌, length, set, Ok, Err, Result, sym, refl, ap, ◌∙◌, subst, arith, length-take-le}
use Rattle.std.proofs.lemmas.Bool.{cond-true, cond-false, lt-ltb, le-ltb}
use Rattle.refusals.specs.declared.Cause.{Cause}
use Rattle.refusals.specs.declared.Cause.TheVariants.{TooMany, Unpaired}
use Rattle.labels.specs.Entries.{Entry}
use Rattle.patterns.specs.declared.row.Element.{Element}
use Rattle.patterns.specs.declared.row.Element.TheVariants.{Group}
use Rattle.patterns.specs.Elements.{elements_of}
use Rattle.texts.specs.declared.reader.Reader.{Reader}
use Rattle.texts.specs.declared.pattern.row_builder.RowBuilder.{RowBuilder}
use Rattle.texts.specs.declared.pattern.reading.PatternReader.{PatternReader}
use Rattle.texts.specs.Books.{entries_of}
use Rattle.texts.specs.Results.{also}
use Rattle.texts.specs.Tokens.{Shape, open_group, close_group, end, next_token, is_end, tokens_from}
use Rattle.texts.specs.PatternText.{drafted, leaf_of, names_after, one_more, with_token, pattern_fault, pattern_scan}
use Rattle.texts.specs.Rows.{Put}
use Rattle.texts.specs.PatternSteps.{names_in, scan_on, Onward, Moved, Went, Shut, Ended}
use Rattle.texts.proofs.Lexing.{moves}
use Rattle.texts.proofs.Scanning.{Leafy, scan_wrong, scan_token, scan_end}

length_built : (r : RowBuilder) → length (elements_of r.row) ≡ r.row.count
length_built r = length-take-le r.row.count r.row.elements (omega (arith, r.few, r.full))

too_many : (xs : List Element) (x : Element) → 64 ≤ length xs → one_more xs x ≡ Err TooMany
too_many xs x l = cond-true _ _ _ (lt-ltb 63 (length xs) (omega arith))

has_room : (xs : List Element) (x : Element) → length xs < 64 → one_more xs x ≡ Ok (xs ++ (x ∷ []))
has_room xs x l = cond-false _ _ _ (le-ltb 63 (length xs) (omega arith))

pub onward_on : (p q o : PatternReader) → Onward p q → Onward q o → Onward p o
onward_on p q o a b = record { book = b.book ∙ a.book; text = b.text ∙ a.text; at = omega (arith, a.at, b.at) }

-- what was left after a level is all that was left before it
pub ended_on : {U : Type 0} (p q o : PatternReader) → Moved 0 p q → (u : Result U Cause) → Ended q o u → Ended p o u
ended_on p q o m (Ok u) h = m.same [] refl ∙ h
ended_on p q o m (Err c) h = m.same [] refl ∙ h

-- the reader r read the next token of p
module _ (p : PatternReader) (r : Reader) (same : r.text ≡ p.reader.text) (start : r.start ≡ (next_token p.reader.text.now p.reader.at).start) (moved : r.at ≡ (next_token p.reader.text.now p.reader.at).to) where
  abbrev es : List Entry
  es = entries_of p.book.now

  abbrev xs : List Element
  xs = elements_of p.row.row

  abbrev ns : List (List ℕ)
  ns = names_in p.names

  abbrev next : Shape
  next = (next_token p.reader.text.now p.reader.at).what

  n : length xs ≡ p.row.row.count
  n = length_built p.row

  pub onward : (q : PatternReader) → q.book ≡ p.book → q.reader ≡ r → Onward p q
  onward q b e =
      let m = moves p.reader.text.now p.reader.at p.reader.within in
      let k : q.reader.at ≡ r.at = ap (λ (x : Reader). x.at) e in
      record { book = b; text = ap (λ (x : Reader). x.text) e ∙ same; at = omega (arith, m.onward, moved) }

  pub forward : is_end next ≡ false → p.reader.at < r.at
  forward h = let m = (moves p.reader.text.now p.reader.at p.reader.within).forward h in omega (arith, moved)

  wrong : (gs : List ℕ) (x : Shape) → x ≡ next → (c : Cause) → with_token es (drafted xs gs ns) x ≡ Err c → scan_on p gs ≡ Err (pattern_fault c r.start)
  wrong gs x e c w = scan_wrong es p.reader.text.now p.reader.at (drafted xs gs ns) x e c w ∙ ap (λ (k : ℕ). Err (pattern_fault c k)) (sym start)

  leads : (gs hs : List ℕ) (x : Shape) → x ≡ next → is_end x ≡ false → (q : PatternReader) → q.book ≡ p.book → q.reader ≡ r → with_token es (drafted xs gs ns) x ≡ Ok (drafted (elements_of q.row.row) hs (names_in q.names)) → scan_on p gs ≡ scan_on q hs
  leads gs hs x e l q b k w =
      scan_token es p.reader.text.now p.reader.at (drafted xs gs ns) x e p.reader.within l (drafted (elements_of q.row.row) hs (names_in q.names)) w
      ∙ ap (λ (j : ℕ). pattern_scan es (drafted (elements_of q.row.row) hs (names_in q.names)) (tokens_from p.reader.text.now j)) (sym moved)
      ∙ ap (λ t. pattern_scan es (drafted (elements_of q.row.row) hs (names_in q.names)) (tokens_from t.now r.at)) (sym same)
      ∙ ap (λ (o : Reader). pattern_scan es (drafted (elements_of q.row.row) hs (names_in q.names)) (tokens_from o.text.now o.at)) (sym k)
      ∙ ap (λ o. pattern_scan (entries_of o.now) (drafted (elements_of q.row.row) hs (names_in q.names)) (tokens_from q.reader.text.now q.reader.at)) (sym b)

  -- the end of a group
  pub shuts : (g : ℕ) → suc g < p.row.row.count → close_group ≡ next → (q : PatternReader) → q.book ≡ p.book → q.reader ≡ r → q.names ≡ p.names → elements_of q.row.row ≡ set xs g (Group (p.row.row.count - g)) → (gs : List ℕ) → scan_on p (g ∷ gs) ≡ scan_on q gs
  shuts g l t q b k m e gs =
      leads (g ∷ gs) gs close_group t refl q b k
      (cond-true _ _ _ (lt-ltb (suc g) (length xs) (omega (arith, n)))
      ∙ ap (λ (j : ℕ). Ok (drafted (set xs g (Group (j - g))) gs ns)) n
      ∙ ap (λ ys. Ok (drafted ys gs ns)) (sym e)
      ∙ ap (λ o. Ok (drafted (elements_of q.row.row) gs (names_in o))) (sym m))

  pub shuts_nothing : (g : ℕ) → p.row.row.count ≤ suc g → close_group ≡ next → (gs : List ℕ) → scan_on p (g ∷ gs) ≡ Err (pattern_fault Unpaired r.start)
  shuts_nothing g l t gs = wrong (g ∷ gs) close_group t Unpaired (cond-false _ _ _ (le-ltb (suc g) (length xs) (omega (arith, n))))

  pub never_shut : (g : ℕ) → end ≡ next → (gs : List ℕ) → scan_on p (g ∷ gs) ≡ Err (pattern_fault Unpaired r.start)
  never_shut g t gs = wrong (g ∷ gs) end t Unpaired refl

  -- the end of the text
  pub ends : end ≡ next → 0 < p.row.row.count → scan_on p [] ≡ Ok (drafted xs [] ns)
  ends t l = scan_end es p.reader.text.now p.reader.at (drafted xs [] ns) end t refl _ (cond-true _ _ _ (lt-ltb 0 (length xs) (omega (arith, n))))

  pub ends_empty : end ≡ next → p.row.row.count ≡ 0 → scan_on p [] ≡ Err (pattern_fault Unpaired r.start)
  ends_empty t l = wrong [] end t Unpaired (cond-false _ _ _ (le-ltb 0 (length xs) (omega (arith, n))))

  pub never_open : close_group ≡ next → scan_on p [] ≡ Err (pattern_fault Unpaired r.start)
  never_open t = wrong [] close_group t Unpaired refl

  -- the start of a group, where d groups are open
  module _ (d : ℕ) (t : open_group ≡ next) where
    pub too_deep : 16 ≤ d → (gs : List ℕ) → length gs ≡ d → scan_on p gs ≡ Err (pattern_fault TooMany r.start)
    too_deep h gs l = wrong gs open_group t TooMany (cond-true _ _ _ (lt-ltb 15 (length gs) (omega arith)))

    pub group_full : (c : Cause) → d < 16 → (64 ≤ p.row.row.count) × (c ≡ TooMany) → (gs : List ℕ) → length gs ≡ d → scan_on p gs ≡ Err (pattern_fault c r.start)
    group_full c h u gs l =
        wrong gs open_group t c
        (cond-false _ _ _ (le-ltb 15 (length gs) (omega arith)) ∙ ap (λ a. also a (λ ys. Ok (drafted ys (length xs ∷ gs) ns))) (too_many xs (Group 1) (omega (arith, n, u.0))) ∙ ap Err (sym u.1))

    pub opens : (q : PatternReader) → q.book ≡ p.book → q.reader ≡ r → q.names ≡ p.names → d < 16 → (p.row.row.count < 64) × (elements_of q.row.row ≡ xs ++ (Group 1 ∷ [])) × (q.row.row.count ≡ p.row.row.count + 1) → (gs : List ℕ) → length gs ≡ d → scan_on p gs ≡ scan_on q (p.row.row.count ∷ gs)
    opens q b k m h u gs l =
        leads gs (p.row.row.count ∷ gs) open_group t refl q b k
        (cond-false _ _ _ (le-ltb 15 (length gs) (omega arith))
        ∙ ap (λ a. also a (λ ys. Ok (drafted ys (length xs ∷ gs) ns))) (has_room xs (Group 1) (omega (arith, n, u.0)))
        ∙ ap (λ (j : ℕ). Ok (drafted (xs ++ (Group 1 ∷ [])) (j ∷ gs) ns)) n
        ∙ ap (λ ys. Ok (drafted ys (p.row.row.count ∷ gs) ns)) (sym u.1)
        ∙ ap (λ o. Ok (drafted (elements_of q.row.row) (p.row.row.count ∷ gs) (names_in o))) (sym m))

    -- what stands in the group is read, and the group is closed, or not
    pub grouped : {U : Type 0} (q o v : PatternReader) → q.book ≡ p.book → q.reader ≡ r → q.names ≡ p.names → d < 16 → (p.row.row.count < 64) × (elements_of q.row.row ≡ xs ++ (Group 1 ∷ [])) × (q.row.row.count ≡ p.row.row.count + 1) → Moved (d + 1) q o → (w : Result U Cause) → (g : ℕ) → g ≡ p.row.row.count → Shut g o v w → Went d p v w
    grouped q o v b k m h u a (Ok w) g e s = record {
      same = λ gs l. opens q b k m h u gs l ∙ ap (λ (j : ℕ). scan_on q (j ∷ gs)) (sym e) ∙ a.same (g ∷ gs) (omega arith) ∙ s.0 gs;
      more = omega (arith, a.more, s.1, u.2);
    }
    grouped q o v b k m h u a (Err c) g e s = λ gs l. opens q b k m h u gs l ∙ ap (λ (j : ℕ). scan_on q (j ∷ gs)) (sym e) ∙ a.same (g ∷ gs) (omega arith) ∙ s gs

  -- an element that is no group
  module _ (d : ℕ) (x : Shape) (t : x ≡ next) (leaf : Leafy x) where
    pub no_leaf : (q : PatternReader) (c : Cause) → q.reader ≡ r → leaf_of es ns x ≡ Err c → (gs : List ℕ) → length gs ≡ d → scan_on p gs ≡ Err (pattern_fault c q.reader.start)
    no_leaf q c k w gs l =
        wrong gs x t c (leaf.same es (drafted xs gs ns) ∙ ap (λ a. also a (λ y. also (one_more xs y) (λ ys. Ok (drafted ys gs (names_after ns x))))) w)
        ∙ ap (λ (o : Reader). Err (pattern_fault c o.start)) (sym k)

    pub leaf_put : {U : Type 0} (q : PatternReader) (y : Element) (u : Result U Cause) → q.book ≡ p.book → q.reader ≡ r → leaf_of es ns x ≡ Ok y → names_in q.names ≡ names_after ns x → (b : RowBuilder) → b ≡ p.row → Put b.row y q.row.row u → Went d p q u
    leaf_put {U} q y (Ok u) b k w m o e g = let h = subst (λ (z : RowBuilder). Put {U = U} z.row y q.row.row (Ok u)) e g in record {
      same = λ gs l.
          leads gs gs x t leaf.goes q b k
          (leaf.same es (drafted xs gs ns)
          ∙ ap (λ a. also a (λ z. also (one_more xs z) (λ ys. Ok (drafted ys gs (names_after ns x))))) w
          ∙ ap (λ a. also a (λ ys. Ok (drafted ys gs (names_after ns x)))) (has_room xs y (omega (arith, n, h.0)))
          ∙ ap (λ ys. Ok (drafted ys gs (names_after ns x))) (sym h.1)
          ∙ ap (λ ms. Ok (drafted (elements_of q.row.row) gs ms)) (sym m));
      more = omega (arith, h.2);
    }
    leaf_put {U} q y (Err c) b k w m o e g = let h = subst (λ (z : RowBuilder). Put {U = U} z.row y q.row.row (Err c)) e g in λ gs l.
        wrong gs x t TooMany
        (leaf.same es (drafted xs gs ns)
        ∙ ap (λ a. also a (λ z. also (one_more xs z) (λ ys. Ok (drafted ys gs (names_after ns x))))) w
        ∙ ap (λ a. also a (λ ys. Ok (drafted ys gs (names_after ns x)))) (too_many xs y (omega (arith, n, h.0))))
        ∙ ap (λ a. Err (pattern_fault a r.start)) (sym h.1)
        ∙ ap (λ (o : Reader). Err (pattern_fault c o.start)) (sym k)
