-- The runs of rows and columns of a sheet that can't be seen, as items.
use Rattle.std.specs.Prelude.{ℕ, List, drop}
use Rattle.xls_hidden.specs.Hidden.{hidden_items, said_in}
use Rattle.xls_hidden.specs.Texts.{flaw_text}
use Rattle.xls_hidden.specs.declared.damage.Damage.{Damage}
use Rattle.xls_hidden.specs.declared.damage.DamagedRecord.{DamagedRecord}
use Rattle.xls_hidden.specs.declared.damage.DamagedRecord.TheVariants as names
use Rattle.xls_hidden.specs.declared.lines.Run.{Run}
use Rattle.xls_hidden.specs.declared.lines.Why.{Why}
use Rattle.xls_hidden.specs.declared.lines.Why.TheVariants as whys
use Rattle.xls_hidden.specs.declared.sheet.HiddenItem.{HiddenItem}
use Rattle.xls_hidden.specs.declared.sheet.HiddenItem.TheVariants as items
use Rattle.xls_hidden.specs.declared.types.TheConstants as types
use Rattle.xls_open.specs.Globals.{State}
use Rattle.xls_beside.specs.declared.parts.SheetPart.{SheetPart}
use Rattle.xls_arrays.specs.declared.faults.Fault.{Fault}
use Rattle.xls_arrays.specs.declared.options.Options.{Options}
use Rattle.xls_beside_arrays.specs.Answers.{Fills}
use Rattle.xls_beside_arrays.specs.Arrays.{Arrays, with_item}
use Rattle.xls_beside_arrays.specs.Damages.{with_damage}
use Rattle.xls_beside_arrays.specs.Opened.{IsOfSheet, RefusesSheet}
use Rattle.xls_beside_arrays.specs.declared.damage.Damaged.{Damaged}
use Rattle.xls_beside_arrays.specs.declared.items.Counts.{Counts}
use Rattle.xls_beside_arrays.specs.declared.items.HiddenRunItem.{HiddenRunItem}

abbrev pub why_number : Why → ℕ
why_number whys.Hidden = 1
why_number whys.Filtered = 2
why_number whys.Flat = 4

-- of rows (0) or columns (1)
abbrev pub run_item : ℕ → Run → HiddenRunItem
run_item is_column r = record { first = r.first; last = r.last; why = why_number r.why; is_column = is_column }

abbrev pub record_number : DamagedRecord → ℕ
record_number names.Row = types.ROW
record_number names.ColInfo = types.COL_INFO
record_number names.DefaultRowHeight = types.DEFAULT_ROW_HEIGHT

abbrev pub damaged_of : Damage → Damaged
damaged_of d = record { record_type = record_number d.record_name; offset = d.offset; row = d.row; column = d.column }

-- a run, or a damaged record; frozen panes and zeros that aren't shown have no item
abbrev pub with_hidden : Arrays HiddenRunItem → HiddenItem → Arrays HiddenRunItem
with_hidden a (items.Rows r) = with_item a (run_item 0 r)
with_hidden a (items.Columns r) = with_item a (run_item 1 r)
with_hidden a (items.Frozen p) = a
with_hidden a items.Zeros = a
with_hidden a (items.Damaged d) = with_damage a (damaged_of d) (flaw_text d.flaw)

-- what is hidden in a part of the stream, in the order of its lines
abbrev pub hidden_in : State → List ℕ → SheetPart → List HiddenItem
hidden_in globals stream part =
    hidden_items globals.version part.area (said_in globals.version part.offset (drop part.offset stream))

abbrev pub AreRuns : Options → List ℕ → Arrays HiddenRunItem → Type 0
AreRuns = IsOfSheet with_hidden hidden_in

abbrev pub FillsRuns : Options → List ℕ → Arrays HiddenRunItem → Counts → Fault → ℕ → Type 0
FillsRuns options stream = Fills (AreRuns options stream) (RefusesSheet options stream)
