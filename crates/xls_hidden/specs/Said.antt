-- What one record of a sheet's own says of what is hidden, by its type.
use Rattle.std.specs.Prelude.{ℕ, List, take, length, nat_lt, ◌==◌, if◌then◌else◌, Option, Some, None}
use Rattle.xls_bytes.specs.Numbers.{le}
use Rattle.xls_record.specs.declared.version.Biff.{Biff}
use Rattle.xls_record.specs.Version.{is_biff8}
use Rattle.xls_hidden.specs.declared.types.TheConstants as types
use Rattle.xls_hidden.specs.declared.damage.DamagedRecord.TheVariants as names
use Rattle.xls_hidden.specs.declared.damage.Flaw.{Flaw}
use Rattle.xls_hidden.specs.declared.damage.Flaw.TheVariants as flaws
use Rattle.xls_hidden.specs.declared.fields.RowMark.{RowMark}
use Rattle.xls_hidden.specs.declared.said.Said.{Said}
use Rattle.xls_hidden.specs.declared.said.Said.TheVariants.{Nothing, Row, Columns, OtherRows, Filter, Window, Pane, Damaged}
use Rattle.xls_parts.specs.PartRecords.{Placed}
use Rattle.xls_hidden.specs.Fields.{row_at, columns_at, default_hides_at, window_at, pane_at}

-- a sheet has 65,536 rows, and 16,384 before BIFF8
abbrev pub row_count : Biff → ℕ
row_count version = if is_biff8 version then types.ROWS else types.ROWS_BEFORE_BIFF8

-- ---- damage

-- the 16-bit number at the beginning, where two bytes are there
abbrev pub first_number : List ℕ → Option ℕ
first_number body = if nat_lt (length body) 2 then None else Some (le (take 2 body))

-- of a Row the row is told, of a ColInfo the first column, and of a DefaultRowHeight neither
abbrev pub row_damage : Placed → Option ℕ → Flaw → Said
row_damage r row flaw = Damaged (record {
  record_name = names.Row;
  offset = r.offset;
  row = row;
  column = None;
  flaw = flaw;
})

abbrev pub columns_damage : Placed → Said
columns_damage r = Damaged (record {
  record_name = names.ColInfo;
  offset = r.offset;
  row = None;
  column = first_number r.body;
  flaw = flaws.Short 10 (length r.body);
})

abbrev pub other_rows_damage : Placed → Said
other_rows_damage r = Damaged (record {
  record_name = names.DefaultRowHeight;
  offset = r.offset;
  row = None;
  column = None;
  flaw = flaws.Short 4 (length r.body);
})

-- ---- what each type says

abbrev pub row_or_damage : Biff → Placed → Option RowMark → Said
row_or_damage version r None = row_damage r (first_number r.body) (flaws.Short 16 (length r.body))
row_or_damage version r (Some m) =
    if nat_lt m.row (row_count version) then Row m else row_damage r (Some m.row) flaws.PastLastRow

abbrev pub row_said : Biff → Placed → Said
row_said version r = row_or_damage version r (row_at r.body)

-- what is said of a value that is there, or else something
abbrev pub said_or : {X : Type 0} → Said → (X → Said) → Option X → Said
said_or other say None = other
said_or other say (Some x) = say x

abbrev pub columns_said : Placed → Said
columns_said r = said_or (columns_damage r) Columns (columns_at r.body)

abbrev pub other_rows_said : Placed → Said
other_rows_said r = said_or (other_rows_damage r) OtherRows (default_hides_at r.body)

-- a Window2 or a Pane that is too short counts for nothing
abbrev pub window_said : List ℕ → Said
window_said body = said_or Nothing Window (window_at body)

abbrev pub pane_said : List ℕ → Said
pane_said body = said_or Nothing Pane (pane_at body)

-- FilterMode (2.4.110) says that a filter hides rows; records of other types say nothing
abbrev pub said_of : Biff → Placed → Said
said_of version r =
    if r.typ == types.ROW then row_said version r
    else if r.typ == types.COL_INFO then columns_said r
    else if r.typ == types.DEFAULT_ROW_HEIGHT then other_rows_said r
    else if r.typ == types.FILTER_MODE then Filter
    else if r.typ == types.WINDOW_2 then window_said r.body
    else if r.typ == types.PANE then pane_said r.body
    else Nothing
