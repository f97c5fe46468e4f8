-- What all records of a sheet's own say together of its rows and columns.
use Rattle.std.specs.Prelude.{ℕ, List, [], ◌∷◌, Bool, true, false, ◌&&◌, nat_le, nat_lt, ◌==◌, if◌then◌else◌, Option, Some, None}
use Rattle.xls_hidden.specs.declared.fields.Mark.{Mark}
use Rattle.xls_hidden.specs.declared.fields.Mark.TheVariants as marks
use Rattle.xls_hidden.specs.declared.lines.FilterArea.{FilterArea}
use Rattle.xls_hidden.specs.declared.lines.Why.{Why}
use Rattle.xls_hidden.specs.declared.lines.Why.TheVariants as whys
use Rattle.xls_hidden.specs.declared.said.Said.{Said}
use Rattle.xls_hidden.specs.declared.said.Said.TheVariants.{Row, Columns, OtherRows, Filter}

-- ---- the last record that speaks of something counts

-- what is known of a row after a record
abbrev pub row_after : ℕ → Mark → Said → Mark
row_after row before (Row r) = if r.row == row then r.mark else before
row_after row before said = before

-- what is known of a column after a record
abbrev pub column_after : ℕ → Mark → Said → Mark
column_after column before (Columns c) = if nat_le c.first column && nat_le column c.last then c.mark else before
column_after column before said = before

-- whether rows without a Row record are hidden
abbrev pub hides_after : Bool → Said → Bool
hides_after before (OtherRows hides) = hides
hides_after before said = before

-- whether a filter hides rows, which one FilterMode is enough for
abbrev pub filters_after : Bool → Said → Bool
filters_after before Filter = true
filters_after before said = before

-- what is known after all records
abbrev pub row_mark : ℕ → Mark → List Said → Mark
row_mark row before [] = before
row_mark row before (s ∷ ss) = row_mark row (row_after row before s) ss

abbrev pub column_mark : ℕ → Mark → List Said → Mark
column_mark column before [] = before
column_mark column before (s ∷ ss) = column_mark column (column_after column before s) ss

abbrev pub hides_others : Bool → List Said → Bool
hides_others before [] = before
hides_others before (s ∷ ss) = hides_others (hides_after before s) ss

abbrev pub filters : Bool → List Said → Bool
filters before [] = before
filters before (s ∷ ss) = filters (filters_after before s) ss

-- ---- why something can't be seen

-- a row is below the first row of a filter's area, and not below its last
abbrev pub is_in_area : Option FilterArea → ℕ → Bool
is_in_area None row = false
is_in_area (Some area) row = nat_lt area.first row && nat_le row area.last

-- why a row or a column of this mark can't be seen: where those of which nothing is said are hidden or not, and in
-- this area of a filter
abbrev pub why_of : Bool → Option FilterArea → ℕ → Mark → Option Why
why_of hides_unsaid area line marks.Unsaid = if hides_unsaid then Some whys.Hidden else None
why_of hides_unsaid area line marks.Shown = None
why_of hides_unsaid area line marks.Hidden = if is_in_area area line then Some whys.Filtered else Some whys.Hidden
why_of hides_unsaid area line marks.Flat = Some whys.Flat

-- the area of a filter counts where a filter hides rows
abbrev pub area_in : List Said → Option FilterArea → Option FilterArea
area_in said area = if filters false said then area else None

-- why a row can't be seen, and why a column can't
abbrev pub row_why : Option FilterArea → List Said → ℕ → Option Why
row_why area said row = why_of (hides_others false said) (area_in said area) row (row_mark row marks.Unsaid said)

abbrev pub column_why : List Said → ℕ → Option Why
column_why said column = why_of false None column (column_mark column marks.Unsaid said)
