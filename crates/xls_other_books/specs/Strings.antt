-- The strings of a SupBook ([MS-XLS] 2.4.271), each an XLUnicodeString (2.5.294), in the record's body from its third
-- byte on and in the bodies of the Continue records directly behind it. What stands before the units is in one piece;
-- a string may begin with the next piece, and its units go on behind the flags byte of one.
use Rattle.std.specs.Prelude.{◌≡◌, ℕ, List, [], ◌∷◌, drop, take, length, slice_index, Bool, true, false, nat_lt, ◌==◌, if◌then◌else◌, Option, Some, None, zero, suc, String}
use Rattle.std.specs.Global.{Global, Vec}
use Rattle.std.specs.Char.Utf16.{utf16_lossy_chars}
use Rattle.xls_bytes.specs.Numbers.{le}
use Rattle.xls_stream.specs.StringTable.{Mark, prefix_of, is_wide, head_len, units_at}
use Rattle.xls_stream.specs.declared.types.TheConstants.{CONTINUE}
use Rattle.xls_parts.specs.PartRecords.{Placed}
use Rattle.xls_strings.specs.Texts.{text_of}
use Rattle.xls_other_books.specs.declared.marked.Head.{Head as HeadFields}

-- ---- Continue records

-- the bodies of those that some records begin with
abbrev pub continues : List Placed → List (List ℕ)
continues [] = []
continues (r ∷ rs) = if r.typ == CONTINUE then r.body ∷ continues rs else []

-- the records behind them
abbrev pub past_continues : List Placed → List Placed
past_continues [] = []
past_continues (r ∷ rs) = if r.typ == CONTINUE then past_continues rs else r ∷ rs

-- ---- one string

-- the bytes before the units: two of the count, the flags, with the flag 08 two more, with the flag 04 four more
abbrev pub head_size : ℕ → ℕ
head_size flags = head_len flags

-- their number, the count of the units, and whether these have two bytes each
pub record Head : Type 0 where
  pub size : ℕ
  pub count : ℕ
  pub wide : Bool

-- by the bytes of its piece
abbrev pub head_at : List ℕ → Option Head
head_at prefix =
    if nat_lt (length prefix) 3 then None
    else if nat_lt (length prefix) (head_size (slice_index prefix 2)) then None
    else Some (record {
      size = head_size (slice_index prefix 2);
      count = le (take 2 prefix);
      wide = is_wide (slice_index prefix 2);
    })

abbrev pub units_behind : List Mark → Option Head → Option (List ℕ × List Mark)
units_behind ms None = None
units_behind ms (Some h) = units_at h.count h.wide (drop h.size ms)

-- the units of the string at the start and what stands behind it; None where they aren't there
abbrev pub string_at : List Mark → Option (List ℕ × List Mark)
string_at ms = units_behind ms (head_at (prefix_of ms))

-- a string may begin with the next piece
abbrev pub next_at : List Mark → Option (List ℕ × List Mark)
next_at (None ∷ ms) = string_at ms
next_at ms = string_at ms

-- ---- strings

-- texts, and whether all were there
abbrev pub Texts : Type 0
Texts = List (List ℕ) × Bool

abbrev pub with_text : List ℕ → Texts → Texts
with_text text texts = (text ∷ texts.0, texts.1)

-- the first text, and what on gives of the rest
abbrev pub texts_from : (List Mark → Texts) → Option (List ℕ × List Mark) → Texts
texts_from on None = ([], false)
texts_from on (Some x) = with_text (utf16_lossy_chars x.0) (on x.1)

-- the texts of so many strings, up to the first that isn't there
abbrev pub texts_at : ℕ → List Mark → Texts
texts_at zero ms = ([], true)
texts_at (suc n) ms = texts_from (λ rest. texts_at n rest) (next_at ms)

-- ---- for the contracts

-- the marked bytes that are left, and the records behind the Continue records
pub record Left : Type 0 where
  pub marks : List Mark
  pub behind : List Placed

abbrev pub head_view : HeadFields → Head
head_view h = record { size = h.size; count = h.count; wide = h.is_wide }

-- the units that were read, with what stands behind them
abbrev pub TakesUnits : Option (List ℕ × List Mark) → Option (Vec ℕ) → List Mark → Type 0
TakesUnits read None after = read ≡ None
TakesUnits read (Some units) after = read ≡ Some (units.items, after)

-- the text of units that were read, with what stands behind them
abbrev pub TakesText : Option (List ℕ × List Mark) → Option (String Global) → List Mark → Type 0
TakesText read None after = read ≡ None
TakesText read (Some text) after = (units : List ℕ) × (read ≡ Some (units, after)) × (text_of text ≡ utf16_lossy_chars units)
