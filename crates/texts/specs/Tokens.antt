-- The tokens of a text.
use Rattle.std.specs.Prelude.{ℕ, zero, suc, ◌+◌, ◌-◌, Bool, true, false, cond, ◌&&◌, List, [], ◌∷◌, length, Some, None, Option, ◌==◌, nat_le, nat_lt, slice_index, slice_index_or}
use Rattle.std.specs.List.{between}
use Rattle.labels.specs.Entries.{name_byte}
use Rattle.texts.specs.Bytes.{blank, letter, namey, wordy, seen, run_end}
use Rattle.texts.specs.declared.token.Token.{Token}
use Rattle.texts.specs.declared.token.Token.TheVariants.{Word, Quoted, Variable, Sign, GroupOpen, GroupClose, Fault, End}

-- A token with its bytes in the place of the references.
pub data Shape : Type 0 where
  word : List ℕ → Shape
  quoted : List ℕ → Shape
  variable : Option (List ℕ) → List ℕ → Shape
  sign : ℕ → Shape
  open_group : Shape
  close_group : Shape
  fault : Shape
  end : Shape

-- The shape of a token.
abbrev pub shape : Token → Shape
shape (Word w) = word w.now
shape (Quoted w) = quoted w.now
shape (Variable None n) = variable None n.now
shape (Variable (Some k) n) = variable (Some k.now) n.now
shape (Sign b) = sign b
shape GroupOpen = open_group
shape GroupClose = close_group
shape Fault = fault
shape End = end

-- What is read at a byte, and where it ends.
pub record Lexed : Type 0 where
  pub what : Shape
  pub to : ℕ

abbrev pub lexed : Shape → ℕ → Lexed
lexed w e = record { what = w; to = e }

-- The token of the quote at i: a name of 1 to 64 bytes up to the next quote.
abbrev pub quoted_at : List ℕ → ℕ → Lexed
quoted_at s i =
    (let e = run_end name_byte s (i + 1) in
    cond (slice_index s e == 39 && (nat_lt (i + 1) e && nat_le (e - (i + 1)) 64)) (lexed (quoted (between (i + 1) e s)) (e + 1)) (lexed fault (i + 1)))

-- The token of the percent sign at i, where a variable's name has to start at j.
abbrev pub variable_at : List ℕ → Option (List ℕ) → ℕ → ℕ → Lexed
variable_at s k i j =
    (let e = run_end namey s j in
    cond (letter (slice_index s j) && nat_le (e - j) 16) (lexed (variable k (between j e s)) e) (lexed fault (i + 1)))

-- The token of the percent sign at i, where a constructor has to stand behind the next byte.
abbrev pub constructed_at : List ℕ → ℕ → Lexed
constructed_at s i =
    (let e = run_end wordy s (i + 2) in
    cond (slice_index s e == 62 && nat_lt (i + 2) e) (variable_at s (Some (between (i + 2) e s)) i (e + 1)) (lexed fault (i + 1)))

-- The token of the percent sign at i: the next byte decides.
abbrev pub percent_at : List ℕ → ℕ → Lexed
percent_at s i =
    (let b = slice_index_or s (i + 1) 0 in
    cond (b == 37) (lexed (sign 37) (i + 2))
    (cond (b == 40) (lexed open_group (i + 2))
    (cond (b == 41) (lexed close_group (i + 2))
    (cond (b == 60) (constructed_at s i)
    (cond (letter b) (variable_at s None i (i + 1)) (lexed fault (i + 1)))))))

-- The token at i, where no blank stands.
abbrev pub token_at : List ℕ → ℕ → Lexed
token_at s i =
    (let b = slice_index_or s i 0 in
    cond (nat_lt i (length s))
    (cond (wordy b) (lexed (word (between i (run_end wordy s i) s)) (run_end wordy s i))
    (cond (b == 39) (quoted_at s i)
    (cond (b == 37) (percent_at s i)
    (cond (seen b) (lexed (sign b) (i + 1)) (lexed fault (i + 1))))))
    (lexed end i))

-- A token, where it starts, and where it ends.
pub record Spot : Type 0 where
  pub what : Shape
  pub start : ℕ
  pub to : ℕ

-- The next token from i on.
unfoldable pub next_token : List ℕ → ℕ → Spot
next_token s i = (let b = run_end blank s i in record { what = (token_at s b).what; start = b; to = (token_at s b).to })

-- A token is the end of its text.
abbrev pub is_end : Shape → Bool
is_end (word w) = false
is_end (quoted w) = false
is_end (variable k w) = false
is_end (sign b) = false
is_end open_group = false
is_end close_group = false
is_end fault = false
is_end end = true

-- The tokens from i on, at most n.
unfoldable pub lex : ℕ → List ℕ → ℕ → List Spot
lex zero s i = []
lex (suc n) s i = next_token s i ∷ cond (is_end (next_token s i).what) [] (lex n s (next_token s i).to)

-- The tokens from i on, the last of which is the end of the text.
unfoldable pub tokens_from : List ℕ → ℕ → List Spot
tokens_from s i = lex (suc (length s - i)) s i

-- The tokens of a text.
abbrev pub tokens : List ℕ → List Spot
tokens s = tokens_from s 0
