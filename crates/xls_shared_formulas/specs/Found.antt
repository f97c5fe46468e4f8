-- The formulas of ranges of a sheet: what its own ShrFmla, Array and Table records hold.
use Rattle.std.specs.Prelude.{◌≡◌, ℕ, ◌+◌, ◌*◌, List, [], ◌∷◌, Bool, true, false, not, ◌&&◌, ◌==◌, if◌then◌else◌, Option, Some, None}
use Rattle.std.specs.Prelude.{Result, Ok, Err}
use Rattle.std.specs.List.{filter}
use Rattle.xls_record.specs.declared.version.Biff.{Biff}
use Rattle.xls_stream.specs.declared.types.TheConstants.{FORMULA}
use Rattle.xls_parts.specs.PartRecords.{Placed, own_records}
use Rattle.xls_bodies.specs.Bodies.{body_of}
use Rattle.xls_shown_ptg.specs.declared.fault.Fault.{Fault}
use Rattle.xls_shown_ptg.specs.declared.fault.Fault.TheVariants as faults
use Rattle.xls_shared_formulas.specs.declared.fields.CellPlace.{CellPlace}
use Rattle.xls_shared_formulas.specs.declared.fields.CellRange.{CellRange}
use Rattle.xls_shared_formulas.specs.declared.fields.FormulaKind.{FormulaKind}
use Rattle.xls_shared_formulas.specs.declared.fields.FormulaKind.TheVariants.{Shared, Table}
use Rattle.xls_shared_formulas.specs.declared.found.RangeFormula.{RangeFormula}
use Rattle.xls_shared_formulas.specs.Fields.{formula_cell, holds, kind_of, least_size, or_else, range_in}

-- ---- all of a sheet

-- the formula of a record of this kind, of this range, for this cell
abbrev pub of_range : Placed → CellPlace → FormulaKind → Option CellRange → Option RangeFormula
of_range r anchor kind None = None
of_range r anchor kind (Some range) = Some (record { offset = r.offset; kind = kind; range = range; anchor = anchor })

abbrev pub of_kind : ℕ → List ℕ → Placed → CellPlace → Option FormulaKind → Option RangeFormula
of_kind offset part r anchor None = None
of_kind offset part r anchor (Some kind) = of_range r anchor kind (range_in (least_size kind) (body_of offset part r.offset))

-- the formula that a record holds: it belongs to a cell, its anchor, and has none without one
abbrev pub formula_at : Biff → ℕ → List ℕ → Option CellPlace → Placed → Option RangeFormula
formula_at version offset part None r = None
formula_at version offset part (Some anchor) r = of_kind offset part r anchor (kind_of version r.typ)

abbrev pub with_found : Option RangeFormula → List RangeFormula → List RangeFormula
with_found None fs = fs
with_found (Some f) fs = f ∷ fs

-- those of some records, where the last cell with a formula before them is this one: the anchor is the cell of the last
-- Formula record
unfoldable pub formulas_from : Biff → ℕ → List ℕ → Option CellPlace → List Placed → List RangeFormula
formulas_from version offset part anchor [] = []
formulas_from version offset part anchor (r ∷ rs) =
    if r.typ == FORMULA then formulas_from version offset part (or_else (formula_cell r.body) anchor) rs
    else with_found (formula_at version offset part anchor r) (formulas_from version offset part anchor rs)

-- those of a sheet, whose part begins at an offset of the stream
abbrev pub formulas_in : Biff → ℕ → List ℕ → List RangeFormula
formulas_in version offset part = formulas_from version offset part None (own_records offset part)

-- ---- shared formulas and arrays apart from tables

abbrev pub is_table : FormulaKind → Bool
is_table Table = true
is_table kind = false

abbrev pub formulas_of : List RangeFormula → List RangeFormula
formulas_of fs = filter (λ f. not (is_table f.kind)) fs

abbrev pub tables_of : List RangeFormula → List RangeFormula
tables_of fs = filter (λ f. is_table f.kind) fs

-- ---- the last of a cell counts

-- the number of a cell in the order of rows, and in each of columns, of which there are 65,536 at most
abbrev pub number : CellPlace → ℕ
number cell = cell.row * 0x10000 + cell.column

abbrev pub anchor_number : RangeFormula → ℕ
anchor_number f = number f.anchor

abbrev pub last_or : Option RangeFormula → Option RangeFormula → Option RangeFormula
last_or (Some f) other = Some f
last_or None other = other

-- the last formula of the cell of this number
abbrev pub last_at : ℕ → List RangeFormula → Option RangeFormula
last_at n [] = None
last_at n (f ∷ fs) = last_or (last_at n fs) (if anchor_number f == n then Some f else None)

-- the formula to which a token points, if its range holds the cell that has the token
abbrev pub held_by : Fault → CellPlace → Option RangeFormula → Result RangeFormula Fault
held_by fault cell None = Err fault
held_by fault cell (Some f) = if holds f.range cell then Ok f else Err fault

abbrev pub formula_for : List RangeFormula → CellPlace → CellPlace → Result RangeFormula Fault
formula_for formulas token cell = held_by (faults.NoFormula token.row token.column) cell (last_at (number token) formulas)

abbrev pub table_for : List RangeFormula → CellPlace → CellPlace → Result RangeFormula Fault
table_for tables token cell = held_by (faults.NoTable token.row token.column) cell (last_at (number token) tables)

-- ---- what is known of a sheet

-- its part, and its shared formulas and arrays, and its tables, by cells
pub record Known : Type 0 where
  pub version : Biff
  pub offset : ℕ
  pub part : List ℕ
  pub formulas : List RangeFormula
  pub tables : List RangeFormula

-- each cell has what the sheet's records say
pub record IsReadFrom (version : Biff) (offset : ℕ) (part : List ℕ) (known : Known) : Type 0 where
  pub version_is : known.version ≡ version
  pub offset_is : known.offset ≡ offset
  pub part_is : known.part ≡ part
  pub formulas : (n : ℕ) → last_at n known.formulas ≡ last_at n (formulas_of (formulas_in version offset part))
  pub tables : (n : ℕ) → last_at n known.tables ≡ last_at n (tables_of (formulas_in version offset part))

-- ---- arrays and tables that count

abbrev pub last_for : Known → RangeFormula → Option RangeFormula
last_for known f = if is_table f.kind then last_at (anchor_number f) known.tables else last_at (anchor_number f) known.formulas

abbrev pub is_at : ℕ → Option RangeFormula → Bool
is_at offset None = false
is_at offset (Some f) = f.offset == offset

abbrev pub counts : Known → RangeFormula → Bool
counts known f = is_at f.offset (last_for known f)

-- an array or a table has a line of its own, where it counts
abbrev pub has_line : FormulaKind → Bool
has_line Shared = false
has_line kind = true

abbrev pub lines_from : Known → List RangeFormula → List RangeFormula
lines_from known fs = filter (λ f. has_line f.kind && counts known f) fs

abbrev pub lines_in : Known → List RangeFormula
lines_in known = lines_from known (formulas_in known.version known.offset known.part)
