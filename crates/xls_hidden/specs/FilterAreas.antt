-- The areas of the filters of sheets. A filter's area has the built-in name 0D of its sheet, in the globals: Lbl
-- (2.4.150) has among the bits at 0 fBuiltin, 0020, the count of the name's units (cch) at 3, the count of the bytes of
-- its tokens (cce) at 4, the number of its sheet from 1 (itab) at 8, its name at 14, and its tokens last.
use Rattle.std.specs.Prelude.{◌≡◌, ℕ, ◌+◌, ◌-◌, ◌<◌, ◌%◌, List, [], ◌∷◌, drop, length, slice_index, slice_index_or, Bool, not, ◌&&◌, ◌||◌, nat_le, nat_lt, ◌==◌, if◌then◌else◌, Option, Some, None}
use Rattle.xls_record.specs.declared.version.Biff.{Biff}
use Rattle.xls_record.specs.Version.{is_biff8}
use Rattle.xls_stream.specs.declared.types.TheConstants.{LBL}
use Rattle.xls_hidden.specs.declared.filter_areas.SheetArea.{SheetArea}
use Rattle.xls_hidden.specs.declared.lines.FilterArea.{FilterArea}
use Rattle.xls_hidden.specs.Fields.{u16_at, has_bit}
use Rattle.xls_parts.specs.PartRecords.{Placed}

-- ---- the name

-- the unit 0D: of BIFF8 behind a flags byte, whose bit 01 says that units have two bytes
abbrev pub is_filter_unit : Biff → List ℕ → Bool
is_filter_unit version name =
    if is_biff8 version
    then (if has_bit 0x01 (slice_index name 0) then nat_le 3 (length name) && u16_at 1 name == 0x0D
    else nat_le 2 (length name) && slice_index name 1 == 0x0D)
    else nat_le 1 (length name) && slice_index name 0 == 0x0D

abbrev pub is_filter_name : Biff → List ℕ → Bool
is_filter_name version body = has_bit 0x0020 (u16_at 0 body) && slice_index body 3 == 1 && is_filter_unit version (drop 14 body)

-- ---- the tokens

-- so many bytes at the end; none where there are fewer
abbrev pub tokens_of : ℕ → List ℕ → List ℕ
tokens_of size body = if nat_lt (length body) size then [] else drop (length body - size) body

-- PtgArea3d (2.5.198.28), in each class of value
abbrev pub starts_area : List ℕ → Bool
starts_area tokens = slice_index tokens 0 == 0x3B || slice_index tokens 0 == 0x5B || slice_index tokens 0 == 0x7B

-- the first and last row of the area that the tokens begin with, where it is there whole
abbrev pub area_at : Biff → List ℕ → Option FilterArea
area_at version tokens =
    if not (starts_area tokens) then None
    else if is_biff8 version
    then (if nat_lt (length tokens) 11 then None else Some (record { first = u16_at 3 tokens; last = u16_at 5 tokens }))
    else if nat_lt (length tokens) 21 then None
    else Some (record { first = u16_at 15 tokens % 0x4000; last = u16_at 17 tokens % 0x4000 })

-- ---- a record

abbrev pub numbered : ℕ → Option FilterArea → Option SheetArea
numbered number None = None
numbered number (Some area) = Some (record { number = number; area = area })

-- the area that the body of a Lbl tells, and the number of its sheet
abbrev pub lbl_area : Biff → List ℕ → Option SheetArea
lbl_area version body =
    if nat_lt (length body) 14 then None
    else if is_filter_name version body then numbered (u16_at 8 body) (area_at version (tokens_of (u16_at 4 body) body))
    else None

abbrev pub record_area : Biff → Placed → Option SheetArea
record_area version r = if r.typ == LBL then lbl_area version r.body else None

-- ---- a sheet

-- what an area says of the sheet of this index from 0
abbrev pub area_for : ℕ → Option SheetArea → Option FilterArea
area_for sheet None = None
area_for sheet (Some s) = if s.number == sheet + 1 then Some s.area else None

-- the first, or the second where there is no first
abbrev pub or_else : Option FilterArea → Option FilterArea → Option FilterArea
or_else None y = y
or_else (Some x) y = Some x

-- the area that the first of these records tells that tells one
abbrev pub first_area : Biff → ℕ → List Placed → Option FilterArea
first_area version sheet [] = None
first_area version sheet (r ∷ rs) = or_else (area_for sheet (record_area version r)) (first_area version sheet rs)

-- the areas of so many sheets
pub record AreAreas (version : Biff) (records : List Placed) (sheets : ℕ) (areas : List (Option FilterArea)) : Type 0 where
  pub count : length areas ≡ sheets
  pub each : (sheet : ℕ) → sheet < sheets → slice_index_or areas sheet None ≡ first_area version sheet records
