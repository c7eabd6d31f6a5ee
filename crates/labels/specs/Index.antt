-- The index of a book's records: the label of each and where it starts in the book's bytes, and for each hash the records that have it, the last first.
use Rattle.std.specs.Prelude.{◌≡◌, ℕ, ◌+◌, ◌*◌, ◌/◌, ◌%◌, ◌^◌, ◌<◌, cond, false, List, [], ◌∷◌, length, take, drop, map, reverse, fold, ◌==◌, Some, None, Option, slice_index_or, slice_set}
use Rattle.labels.specs.declared.index.Record.{Record}
use Rattle.labels.specs.declared.index.Tables.{Tables}
use Rattle.labels.specs.declared.link.Link.{Link}
use Rattle.labels.specs.Entries.{Entry, first_entry, bad_length}

-- The hash of a name, after each of its bytes.
abbrev pub hash_step : ℕ → ℕ → ℕ
hash_step h b = ((h + b) % 2 ^ 32 * 2654435761) % 2 ^ 32

-- The list in which a name is looked for: one of 4096.
abbrev pub bucket_of : List ℕ → ℕ
bucket_of n = fold hash_step 0 n / 1048576

-- The link to the record with a number, or to none.
abbrev pub link_of : Option ℕ → Link
link_of None = record { above = 0 }
link_of (Some k) = record { above = k + 1 }

-- The entry of a record, whose name is read in the bytes where the record starts.
abbrev pub entry_of : List ℕ → Record → Entry
entry_of bs r = record { label = r.label; name = (first_entry (drop r.start bs)).name }

-- The entries of the first n records, the last first.
abbrev pub noted : List ℕ → List Record → ℕ → List Entry
noted bs rs n = map (entry_of bs) (reverse (take n rs))

-- The number of the last entry in a bucket.
abbrev pub newest : ℕ → List Entry → Option ℕ
newest b [] = None
newest b (e ∷ es) = cond (bucket_of e.name == b) (Some (length es)) (newest b es)

-- The entries that the tables hold, where their records lie in these bytes.
abbrev pub known : List ℕ → Tables → List Entry
known bs t = noted bs t.records t.count

-- Each record starts where the bytes have a whole one.
abbrev pub Whole : List ℕ → Tables → Type 0
Whole bs t = (k : ℕ) (d : Record) → k < t.count → bad_length (drop (slice_index_or t.records k d).start bs) ≡ false

-- For each bucket, the last record in it.
abbrev pub Heads : List ℕ → Tables → Type 0
Heads bs t = (b : ℕ) → b < 4096 → slice_index_or t.last b (link_of None) ≡ link_of (newest b (known bs t))

-- For each record, the one before it in the same bucket.
abbrev pub Links : List ℕ → Tables → Type 0
Links bs t = (k : ℕ) (d : Record) → k < t.count → (slice_index_or t.records k d).before ≡ link_of (newest (bucket_of (entry_of bs (slice_index_or t.records k d)).name) (noted bs t.records k))

-- The tables t hold a record more than s did, that starts at the byte i and has the label l and the name n, as the last one, in its bucket too.
pub record Noted (s t : Tables) (i l : ℕ) (n : List ℕ) : Type 0 where
  pub records : t.records ≡ slice_set s.records s.count (record { start = i; label = l; before = slice_index_or s.last (bucket_of n) (link_of None) })
  pub last : t.last ≡ slice_set s.last (bucket_of n) (link_of (Some s.count))
  pub count : t.count ≡ s.count + 1
