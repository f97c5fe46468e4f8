-- What is hidden in a sheet, by all records of its own.
use Rattle.std.specs.Prelude.{◌≡◌, ℕ, ◌<◌, List, [], ◌∷◌, ◌++◌, map, Bool, true, false, Option}
use Rattle.std.specs.Option.{option_to_list}
use Rattle.xls_record.specs.declared.version.Biff.{Biff}
use Rattle.xls_hidden.specs.declared.types.TheConstants.{COLUMNS}
use Rattle.xls_hidden.specs.declared.damage.Damage.{Damage}
use Rattle.xls_hidden.specs.declared.fields.Pane.{Pane}
use Rattle.xls_hidden.specs.declared.lines.FilterArea.{FilterArea}
use Rattle.xls_hidden.specs.declared.lines.Run.{Run}
use Rattle.xls_hidden.specs.declared.said.Said.{Said}
use Rattle.xls_hidden.specs.declared.said.Said.TheVariants as says
use Rattle.xls_hidden.specs.declared.sheet.HiddenItem.{HiddenItem}
use Rattle.xls_hidden.specs.declared.sheet.HiddenItem.TheVariants.{Rows, Columns, Frozen, Zeros, Damaged}
use Rattle.xls_hidden.specs.Lines.{Table, why_at}
use Rattle.xls_parts.specs.PartRecords.{own_records}
use Rattle.xls_hidden.specs.Said.{said_of, row_count}
use Rattle.xls_hidden.specs.States.{row_why, column_why}
use Rattle.xls_hidden.specs.Runs.{runs_from}
use Rattle.xls_hidden.specs.Windows.{first_window, frozen_by, hides_zeros_by}

-- what the records of a sheet's own say, one after another, where its part begins with the first byte
abbrev pub said_in : Biff → ℕ → List ℕ → List Said
said_in version offset part = map (said_of version) (own_records offset part)

-- the damaged records, in their order
abbrev pub damages_in : List Said → List Damage
damages_in [] = []
damages_in (says.Damaged d ∷ ss) = d ∷ damages_in ss
damages_in (s ∷ ss) = damages_in ss

abbrev pub zeros_if : Bool → List HiddenItem
zeros_if true = Zeros ∷ []
zeros_if false = []

-- runs of rows, runs of columns, frozen panes, zeros that aren't shown, then what is damaged
abbrev pub items_of : List Run → List Run → Option Pane → Bool → List Damage → List HiddenItem
items_of rows columns frozen hides_zeros damages =
    map Rows rows ++ (map Columns columns ++ (map Frozen (option_to_list frozen) ++ (zeros_if hides_zeros ++ map Damaged damages)))

-- all that is hidden
abbrev pub hidden_items : Biff → Option FilterArea → List Said → List HiddenItem
hidden_items version area said =
    items_of (runs_from (row_why area said) 0 (row_count version)) (runs_from (column_why said) 0 COLUMNS)
    (frozen_by (first_window said)) (hides_zeros_by (first_window said)) (damages_in said)

-- what is known of a sheet: why each row and each column can't be seen, and all items
pub record Hidden : Type 0 where
  pub rows : Table
  pub columns : Table
  pub items : List HiddenItem

-- it is what these records say
pub record IsHiddenIn (version : Biff) (area : Option FilterArea) (said : List Said) (hidden : Hidden) : Type 0 where
  pub rows : (row : ℕ) → row < row_count version → why_at hidden.rows row ≡ row_why area said row
  pub columns : (column : ℕ) → column < COLUMNS → why_at hidden.columns column ≡ column_why said column
  pub items : hidden.items ≡ hidden_items version area said
