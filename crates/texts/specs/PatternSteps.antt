-- Where the reading of pattern text stands, as the program keeps it.
use Rattle.std.specs.Prelude.{◌≡◌, ℕ, ◌≤◌, Bool, true, false, List, [], ◌∷◌, length, map, reverse, Ok, Err, Result}
use Rattle.refusals.specs.declared.Cause.{Cause}
use Rattle.refusals.specs.declared.Refusal.{Refusal}
use Rattle.patterns.specs.Elements.{elements_of}
use Rattle.texts.specs.Books.{entries_of}
use Rattle.texts.specs.Tokens.{Shape, word, quoted, variable, sign, open_group, close_group, fault, end, next_token, tokens_from}
use Rattle.texts.specs.PatternText.{Draft, drafted, pattern_fault, pattern_scan}
use Rattle.texts.specs.declared.pattern.names.Names.{Names}
use Rattle.texts.specs.declared.pattern.reading.PatternReader.{PatternReader}

-- The names that are kept, the last first.
abbrev pub names_in : Names → List (List ℕ)
names_in x = reverse (map (λ w. w.now) x.parts.items)

-- A token ends a level: it closes a group or ends the text.
abbrev pub stops : Shape → Bool
stops (word w) = false
stops (quoted w) = false
stops (variable k w) = false
stops (sign b) = false
stops open_group = false
stops close_group = true
stops fault = false
stops end = true

-- The next token ends a level.
abbrev pub at_stop : PatternReader → Bool
at_stop p = stops (next_token p.reader.text.now p.reader.at).what

-- What the text that is left makes of the elements and the names that are kept, where these groups are open.
abbrev pub scan_on : PatternReader → List ℕ → Result Draft Refusal
scan_on p gs = pattern_scan (entries_of p.book.now) (drafted (elements_of p.row.row) gs (names_in p.names)) (tokens_from p.reader.text.now p.reader.at)

-- The book and the text stay, and the reading goes on and never back.
pub record Onward (p q : PatternReader) : Type 0 where
  pub book : q.book ≡ p.book
  pub text : q.reader.text ≡ p.reader.text
  pub at : p.reader.at ≤ q.reader.at

-- Only the names may have changed.
pub record OnlyNames (p q : PatternReader) : Type 0 where
  pub book : q.book ≡ p.book
  pub reader : q.reader ≡ p.reader
  pub row : q.row ≡ p.row

-- The same is read in the end, whichever d groups are open, and no element is gone.
pub record Moved (d : ℕ) (p q : PatternReader) : Type 0 where
  pub same : (gs : List ℕ) → length gs ≡ d → scan_on p gs ≡ scan_on q gs
  pub more : p.row.row.count ≤ q.row.row.count

-- The reading moved on, or the token that was read last is at fault.
abbrev pub Went : {U : Type 0} → ℕ → PatternReader → PatternReader → Result U Cause → Type 0
Went d p q (Ok u) = Moved d p q
Went d p q (Err c) = (gs : List ℕ) → length gs ≡ d → scan_on p gs ≡ Err (pattern_fault c q.reader.start)

-- A group that stands at g is closed, or the token that ends its level is at fault.
abbrev pub Shut : {U : Type 0} → ℕ → PatternReader → PatternReader → Result U Cause → Type 0
Shut g p q (Ok u) = ((gs : List ℕ) → scan_on p (g ∷ gs) ≡ scan_on q gs) × (q.row.row.count ≡ p.row.row.count)
Shut g p q (Err c) = (gs : List ℕ) → scan_on p (g ∷ gs) ≡ Err (pattern_fault c q.reader.start)

-- The text that was left is read to its end, or the token that was read last is at fault.
abbrev pub Ended : {U : Type 0} → PatternReader → PatternReader → Result U Cause → Type 0
Ended p q (Ok u) = scan_on p [] ≡ Ok (drafted (elements_of q.row.row) [] (names_in q.names))
Ended p q (Err c) = scan_on p [] ≡ Err (pattern_fault c q.reader.start)
