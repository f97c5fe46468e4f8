-- The string table of an SST record ([MS-XLS] 2.4.265): XLUnicodeRichExtendedString (2.5.293) after
-- XLUnicodeRichExtendedString, in the record's body without its first 8 bytes and in the bodies of
-- the Continue records attached to it. A string is here a list of 16-bit units.
--
--   Table   nothing; or Str, Table; or |, Str, Table; or | directly before another | or the end,
--           which is the empty string, then Table
--   Str     a head in one piece, Units (cch, fHighByte), Tail (4 * cRun + cbExtRst)
--   Units   nothing, where none is left; or a unit, Units; or |, a flags byte, and Units of the
--           width that it sets
--   Tail    nothing, where no byte is left; or a byte, Tail; or |, Tail
use Rattle.std.specs.Prelude.{◌≡◌, ◌≢◌, ◌⊎◌, ℕ, zero, suc, ◌+◌, ◌*◌, ◌/◌, ◌%◌, List, [], ◌∷◌, ◌++◌, length, take, drop, slice_index, map, Bool, true, false, nat_lt, ◌==◌, if◌then◌else◌, Option, Some, None, Result, Ok, Err}
use Rattle.std.specs.List.{flat_map}
use Rattle.xls_bytes.specs.Numbers.{le}

-- ---- bytes with a mark before each attached body

-- a byte, or None for a mark
abbrev pub Mark : Type 0
Mark = Option ℕ

-- a mark and the bytes of an attached body
abbrev pub marked_piece : List ℕ → List Mark
marked_piece body = None ∷ map Some body

-- the bytes at the start, and the attached bodies with a mark before each
abbrev pub marked : List ℕ → List (List ℕ) → List Mark
marked prefix bodies = map Some prefix ++ flat_map marked_piece bodies

-- the bytes before the next mark
abbrev pub prefix_of : List Mark → List ℕ
prefix_of [] = []
prefix_of (None ∷ ms) = []
prefix_of (Some b ∷ ms) = b ∷ prefix_of ms

-- three for a mark and one for a byte: a Continue record has four bytes before its body, and each
-- string of a table takes three at least
abbrev pub weight : List Mark → ℕ
weight [] = 0
weight (None ∷ ms) = 3 + weight ms
weight (Some b ∷ ms) = 1 + weight ms

-- ---- units and tail

-- fHighByte, the flag 01 of a flags byte: units of two bytes
abbrev pub is_wide : ℕ → Bool
is_wide flags = flags % 2 == 1

-- a unit, and the units after it
abbrev pub with_unit : ℕ → Option (List ℕ × List Mark) → Option (List ℕ × List Mark)
with_unit u None = None
with_unit u (Some x) = Some (u ∷ x.0, x.1)

-- so many units at the start and what stands after them; None where they aren't there
unfoldable pub units_at : ℕ → Bool → List Mark → Option (List ℕ × List Mark)
units_at zero wide ms = Some ([], ms)
units_at (suc n) wide [] = None
units_at (suc n) wide (None ∷ []) = None
units_at (suc n) wide (None ∷ None ∷ ms) = None
units_at (suc n) wide (None ∷ Some flags ∷ ms) = units_at (suc n) (is_wide flags) ms
units_at (suc n) false (Some b ∷ ms) = with_unit b (units_at n false ms)
units_at (suc n) true (Some b ∷ []) = None
units_at (suc n) true (Some b ∷ None ∷ ms) = None
units_at (suc n) true (Some b ∷ Some c ∷ ms) = with_unit (b + 256 * c) (units_at n true ms)

-- what stands after so many bytes, whose marks don't count; None where they aren't there
unfoldable pub tail_at : ℕ → List Mark → Option (List Mark)
tail_at zero ms = Some ms
tail_at (suc k) [] = None
tail_at (suc k) (None ∷ ms) = tail_at (suc k) ms
tail_at (suc k) (Some b ∷ ms) = tail_at k ms

-- ---- a string

-- what isn't there: a head of so many bytes where so many were found, a unit, or a byte of the tail
pub data Missing : Type 0 where
  short_head : (expected found : ℕ) → Missing
  no_units : Missing
  no_tail : Missing

-- what stands before the units: the head's length, cch, fHighByte, and the length of the tail, which
-- is None where cbExtRst is negative
pub record Head : Type 0 where
  pub len : ℕ
  pub count : ℕ
  pub wide : Bool
  pub following : Option ℕ

-- fRichSt, the flag 08: a 16-bit cRun follows
abbrev pub has_runs : ℕ → Bool
has_runs flags = flags / 8 % 2 == 1

-- fExtSt, the flag 04: a signed 32-bit cbExtRst follows
abbrev pub has_extension : ℕ → Bool
has_extension flags = flags / 4 % 2 == 1

abbrev pub after_runs : ℕ → ℕ
after_runs flags = if has_runs flags then 5 else 3

abbrev pub head_len : ℕ → ℕ
head_len flags = if has_extension flags then after_runs flags + 4 else after_runs flags

-- cRun
abbrev pub runs_at : List ℕ → ℕ
runs_at prefix = if has_runs (slice_index prefix 2) then le (take 2 (drop 3 prefix)) else 0

-- cbExtRst, as an unsigned number
abbrev pub extension_at : List ℕ → ℕ
extension_at prefix =
    if has_extension (slice_index prefix 2)
    then le (take 4 (drop (after_runs (slice_index prefix 2)) prefix)) else 0

-- four bytes for each run, then the extension
abbrev pub after_at : List ℕ → Option ℕ
after_at prefix =
    if nat_lt (extension_at prefix) 2147483648 then Some (4 * runs_at prefix + extension_at prefix)
    else None

-- the head of a string, by the bytes before the next mark
abbrev pub head_at : List ℕ → Result Head Missing
head_at prefix =
    if nat_lt (length prefix) 3 then Err (short_head 3 (length prefix))
    else if nat_lt (length prefix) (head_len (slice_index prefix 2))
    then Err (short_head (head_len (slice_index prefix 2)) (length prefix))
    else Ok (record {
      len = head_len (slice_index prefix 2);
      count = le (take 2 prefix);
      wide = is_wide (slice_index prefix 2);
      following = after_at prefix;
    })

abbrev pub with_tail : List ℕ → Option (List Mark) → Result (List ℕ × List Mark) Missing
with_tail us None = Err no_tail
with_tail us (Some after) = Ok (us, after)

abbrev pub tail_of : Option ℕ → List Mark → Option (List Mark)
tail_of None ms = None
tail_of (Some n) ms = tail_at n ms

abbrev pub with_units : Option ℕ → Option (List ℕ × List Mark) → Result (List ℕ × List Mark) Missing
with_units following None = Err no_units
with_units following (Some x) = with_tail x.0 (tail_of following x.1)

abbrev pub with_head : List Mark → Result Head Missing → Result (List ℕ × List Mark) Missing
with_head ms (Err e) = Err e
with_head ms (Ok h) = with_units h.following (units_at h.count h.wide (drop h.len ms))

-- the string at the start and what stands after it, or what isn't there
abbrev pub str_at : List Mark → Result (List ℕ × List Mark) Missing
str_at ms = with_head ms (head_at (prefix_of ms))

-- the next string of a table: a piece without a byte is the empty string
abbrev pub next_at : List Mark → Result (List ℕ × List Mark) Missing
next_at [] = str_at []
next_at (None ∷ []) = Ok ([], [])
next_at (None ∷ None ∷ ms) = Ok ([], None ∷ ms)
next_at (None ∷ Some b ∷ ms) = str_at (Some b ∷ ms)
next_at (Some b ∷ ms) = str_at (Some b ∷ ms)

-- ---- a table

-- the marked bytes are these strings in order and then the rest
abbrev pub Strings : List Mark → List (List ℕ) → List Mark → Type 0
Strings ms [] rest = ms ≡ rest
Strings ms (s ∷ ss) rest = (after : List Mark) × (next_at ms ≡ Ok (s, after)) × Strings after ss rest

-- the marked bytes are these strings
abbrev pub Table : List Mark → List (List ℕ) → Type 0
Table ms ss = Strings ms ss []

-- after whole strings, the next one isn't whole
pub record TableFault (ms : List Mark) (e : Missing) : Type 0 where
  pub strings : List (List ℕ)
  pub rest : List Mark
  pub before : Strings ms strings rest
  pub some : rest ≢ []
  pub fault : next_at rest ≡ Err e

-- ---- the law

-- marked bytes are one table, or have one fault
pub record OneReading (ms : List Mark) : Type 0 where
  pub some : ((strings : List (List ℕ)) × Table ms strings) ⊎ ((e : Missing) × TableFault ms e)
  pub table : (ss ts : List (List ℕ)) → Table ms ss → Table ms ts → ss ≡ ts
  pub fault : (e f : Missing) → TableFault ms e → TableFault ms f → e ≡ f
  pub apart : (ss : List (List ℕ)) (e : Missing) → Table ms ss → TableFault ms e → ⊥

abbrev pub OneTable : Type 0
OneTable = (ms : List Mark) → OneReading ms
