-- What it means that bytes are a label book, apart from any way of reading them.
use Rattle.std.specs.Prelude.{◌≡◌, ℕ, ◌+◌, ◌<◌, ◌≤◌, ◌⊎◌, List, [], ◌∷◌, ◌++◌, length, drop, Some, Ok, Err, Result, ◌≢◌}
use Rattle.std.specs.List.{ContainsAt, AllByRecursion}
use Rattle.records.specs.Heads.{length_of, kind_of}
use Rattle.refusals.specs.declared.Cause.{Cause}
use Rattle.refusals.specs.declared.Cause.TheVariants.{UnknownName}
use Rattle.refusals.specs.declared.Layer.TheVariants.{Book}
use Rattle.refusals.specs.declared.Refusal.{Refusal}
use Rattle.refusals.specs.Numbers.{refused}
use Rattle.labels.specs.Entries.{Entry, fault}

-- The bytes are the record of an entry: a length that counts them all, the label, and the name.
pub record IsRecord (e : Entry) (r : List ℕ) : Type 0 where
  pub whole : length r ≡ 6 + length e.name
  pub counts : length_of r ≡ length r
  pub label : kind_of r ≡ e.label
  pub name : drop 6 r ≡ e.name

-- A name has 1 to 64 bytes from 33 to 126, none of them the quote.
pub record GoodName (n : List ℕ) : Type 0 where
  pub some : 1 ≤ length n
  pub short : length n ≤ 64
  pub bytes : AllByRecursion (λ b. (33 ≤ b) × (b ≤ 126) × (b ≢ 39)) n

-- An entry may follow others: there is room, its label is a label and above all of theirs, its name is a name and none of theirs.
pub record MayFollow (es : List Entry) (e : Entry) : Type 0 where
  pub room : length es < 4096
  pub small : e.label < 32768
  pub above : AllByRecursion (λ d. d.label < e.label) es
  pub good : GoodName e.name
  pub new : AllByRecursion (λ d. d.name ≢ e.name) es

-- The bytes are the book of these entries, the last entry first: their records one after the other, each of which may follow those before it.
pub data IsBook : List Entry → List ℕ → Type 0 where
  empty : IsBook [] []
  more : {es : List Entry} {e : Entry} {ds r bs : List ℕ} → IsBook es ds → MayFollow es e → IsRecord e r → bs ≡ ds ++ r → IsBook (e ∷ es) bs

-- A book up to a record that has a fault, the first; and there are no entries of which the bytes are the book.
pub record FirstFault (bs : List ℕ) (f : Refusal) : Type 0 where
  pub before : List Entry
  pub front : List ℕ
  pub rest : List ℕ
  pub cause : Cause
  pub split : bs ≡ front ++ rest
  pub book : IsBook before front
  pub wrong : fault before rest ≡ Some cause
  pub said : f ≡ refused cause Book (length front) 0
  pub none : (es : List Entry) → IsBook es bs → ⊥

-- What the check of bytes answers: the number of the entries of which they are the book, the only ones; or the first fault.
abbrev pub Judged : List ℕ → Result ℕ Refusal → Type 0
Judged bs (Ok n) = (es : List Entry) × IsBook es bs × (length es ≡ n) × ((fs : List Entry) → IsBook fs bs → fs ≡ es)
Judged bs (Err f) = FirstFault bs f

-- What is answered for the name of a label: the name beside that label in the book, or that the label is not in it, or the book's first fault.
abbrev pub Named : List ℕ → ℕ → Result (List ℕ) Refusal → Type 0
Named bs l (Ok n) = (es : List Entry) × IsBook es bs × ContainsAt es (record { label = l; name = n })
Named bs l (Err f) = ((es : List Entry) × IsBook es bs × (f ≡ refused UnknownName Book 0 0) × AllByRecursion (λ e. e.label ≢ l) es) ⊎ FirstFault bs f
