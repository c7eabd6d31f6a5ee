-- What pattern text is read into: the elements of a pattern, or the refusal of the first token at fault.
use Rattle.std.specs.Prelude.{ℕ, suc, ◌-◌, cond, List, [], ◌∷◌, ◌++◌, length, Some, None, Ok, Err, Option, Result, ◌==◌, nat_lt, slice_set}
use Rattle.std.specs.Str.{bytes_eq}
use Rattle.refusals.specs.declared.Cause.{Cause}
use Rattle.refusals.specs.declared.Cause.TheVariants.{BadText, UnknownName, Unpaired, TooMany}
use Rattle.refusals.specs.declared.Layer.TheVariants.{Pattern}
use Rattle.refusals.specs.declared.Refusal.{Refusal}
use Rattle.refusals.specs.Numbers.{refused}
use Rattle.labels.specs.Entries.{Entry, label_of}
use Rattle.patterns.specs.declared.row.Element.{Element}
use Rattle.patterns.specs.declared.row.Element.TheVariants.{Lexeme, Variable, Group}
use Rattle.texts.specs.Results.{also}
use Rattle.texts.specs.Tokens.{Shape, word, quoted, variable, sign, open_group, close_group, fault, end, Spot}

-- The label of a name.
abbrev pub known_label : List Entry → List ℕ → Result ℕ Cause
known_label es w = elim (label_of es w) [ None ↦ Err UnknownName | Some l ↦ Ok l ]

-- The label of a constructor, where there is one.
abbrev pub known_constructor : List Entry → Option (List ℕ) → Result (Option ℕ) Cause
known_constructor es None = Ok None
known_constructor es (Some w) = also (known_label es w) (λ l. Ok (Some l))

-- The number of a name among names that have the last first: how many were there before it.
abbrev pub number_in : List (List ℕ) → List ℕ → Option ℕ
number_in [] w = None
number_in (n ∷ ns) w = cond (bytes_eq n w) (Some (length ns)) (number_in ns w)

-- The number of a name, which may be new.
abbrev pub number_for : List (List ℕ) → List ℕ → Result ℕ Cause
number_for ns w = elim (number_in ns w) [ Some x ↦ Ok x | None ↦ cond (nat_lt 15 (length ns)) (Err TooMany) (Ok (length ns)) ]

-- The names with one that may be new; there are at most 16.
abbrev pub names_with : List (List ℕ) → List ℕ → List (List ℕ)
names_with ns w = elim (number_in ns w) [ Some x ↦ ns | None ↦ cond (nat_lt 15 (length ns)) ns (w ∷ ns) ]

-- The element of a lexeme.
abbrev pub lexeme_of : List Entry → List ℕ → Result Element Cause
lexeme_of es w = also (known_label es w) (λ l. Ok (Lexeme l))

-- The element of a variable behind these names.
abbrev pub variable_of_lem : List Entry → List (List ℕ) → Option (List ℕ) → List ℕ → Result Element Cause
variable_of_lem es ns k w = also (known_constructor es k) (λ c. also (number_for ns w) (λ x. Ok (Variable x c)))

-- The element of a token that is no group, behind these names.
abbrev pub leaf_of : List Entry → List (List ℕ) → Shape → Result Element Cause
leaf_of es ns (word w) = lexeme_of es w
leaf_of es ns (quoted w) = lexeme_of es w
leaf_of es ns (variable k w) = variable_of_lem es ns k w
leaf_of es ns (sign b) = lexeme_of es (b ∷ [])
leaf_of es ns open_group = Err Unpaired
leaf_of es ns close_group = Err Unpaired
leaf_of es ns fault = Err BadText
leaf_of es ns end = Err Unpaired

-- The names after a token.
abbrev pub names_after : List (List ℕ) → Shape → List (List ℕ)
names_after ns (word w) = ns
names_after ns (quoted w) = ns
names_after ns (variable k w) = names_with ns w
names_after ns (sign b) = ns
names_after ns open_group = ns
names_after ns close_group = ns
names_after ns fault = ns
names_after ns end = ns

-- A pattern that is being read: its elements, in which a group that is open has the size 1; where the open groups stand, the innermost first; and the names of its variables, the last first.
pub record Draft : Type 0 where
  pub elements : List Element
  pub opened : List ℕ
  pub names : List (List ℕ)

abbrev pub drafted : List Element → List ℕ → List (List ℕ) → Draft
drafted xs gs ns = record { elements = xs; opened = gs; names = ns }

-- The elements with one more, if there is room.
abbrev pub one_more : List Element → Element → Result (List Element) Cause
one_more xs x = cond (nat_lt 63 (length xs)) (Err TooMany) (Ok (xs ++ (x ∷ [])))

-- A draft with the element of a token that is no group.
abbrev pub with_leaf : List Entry → Draft → Shape → Result Draft Cause
with_leaf es d t = also (leaf_of es d.names t) (λ x. also (one_more d.elements x) (λ xs. Ok (drafted xs d.opened (names_after d.names t))))

-- A draft in which a group is opened.
abbrev pub with_group : Draft → Result Draft Cause
with_group d =
    cond (nat_lt 15 (length d.opened)) (Err TooMany)
    (also (one_more d.elements (Group 1)) (λ xs. Ok (drafted xs (length d.elements ∷ d.opened) d.names)))

-- A draft in which the innermost group is closed: it has something in it, and gets its size.
abbrev pub closed : List Element → List ℕ → List (List ℕ) → Result Draft Cause
closed xs [] ns = Err Unpaired
closed xs (g ∷ gs) ns = cond (nat_lt (suc g) (length xs)) (Ok (drafted (slice_set xs g (Group (length xs - g))) gs ns)) (Err Unpaired)

-- A draft at the end of the text: it has an element, and no group is open.
abbrev pub ended : List Element → List ℕ → List (List ℕ) → Result Draft Cause
ended xs [] ns = cond (nat_lt 0 (length xs)) (Ok (drafted xs [] ns)) (Err Unpaired)
ended xs (g ∷ gs) ns = Err Unpaired

-- What a token makes of a draft, or what is wrong with it.
abbrev pub with_token : List Entry → Draft → Shape → Result Draft Cause
with_token es d (word w) = with_leaf es d (word w)
with_token es d (quoted w) = with_leaf es d (quoted w)
with_token es d (variable k w) = with_leaf es d (variable k w)
with_token es d (sign b) = with_leaf es d (sign b)
with_token es d open_group = with_group d
with_token es d close_group = closed d.elements d.opened d.names
with_token es d fault = with_leaf es d fault
with_token es d end = ended d.elements d.opened d.names

-- A refusal of pattern text at a byte.
abbrev pub pattern_fault : Cause → ℕ → Refusal
pattern_fault c i = refused c Pattern i 0

-- What tokens make of a draft, or the refusal of the first at fault.
unfoldable pub pattern_scan : List Entry → Draft → List Spot → Result Draft Refusal
pattern_scan es d [] = Ok d
pattern_scan es d (t ∷ ts) = elim (with_token es d t.what) [ Ok e ↦ pattern_scan es e ts | Err c ↦ Err (pattern_fault c t.start) ]

-- The elements of a pattern text by these entries, or its first fault.
abbrev pub scanned : List Entry → List Spot → Result (List Element) Refusal
scanned es ts = also (pattern_scan es (drafted [] [] []) ts) (λ d. Ok d.elements)

-- The elements of a pattern text by a book that was read, or the first fault of the book or the text.
abbrev pub read_elements_lem : Result (List Entry) Refusal → List Spot → Result (List Element) Refusal
read_elements_lem b ts = also b (λ es. scanned es ts)

-- The names of the variables in these tokens, behind those that stand, the last first.
unfoldable pub names_among : List (List ℕ) → List Spot → List (List ℕ)
names_among ns [] = ns
names_among ns (t ∷ ts) = names_among (names_after ns t.what) ts

-- The name that has this number.
abbrev pub name_numbered : List (List ℕ) → ℕ → Option (List ℕ)
name_numbered [] x = None
name_numbered (n ∷ ns) x = cond (x == length ns) (Some n) (name_numbered ns x)
