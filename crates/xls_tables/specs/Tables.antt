-- Tables, and how far they were written.
use Rattle.std.specs.Prelude.{◌≡◌, ℕ, Bool, true, false, List, [], ◌∷◌, ◌++◌, Option, Result, MatchResult}
use Rattle.xls_output.specs.Gathering.{Stops, Wrote}
use Rattle.xls_output.specs.SinkState.{SinkState}
use Rattle.xls_output.specs.declared.stop.Stop.{Stop}
use Rattle.xls_csv.specs.Boxes.{BeginsBox, FieldForm, IsBox}
use Rattle.xls_csv.specs.Dense.{box_of, from_a1, rows_in}
use Rattle.xls_csv.specs.Seen.{seen_in}
use Rattle.xls_csv.specs.Walk.{Formatted, no_cell, walk_box}
use Rattle.xls_hidden.specs.Hidden.{Hidden}
use Rattle.xls_csv.specs.declared.extent.Extent.{Extent}
use Rattle.xls_readable.specs.declared.choices.Origin.{Origin}
use Rattle.xls_readable.specs.declared.choices.Origin.TheVariants as origins
use Rattle.xls_readable.specs.declared.choices.Origin.TheVariants.{A1}
use Rattle.xls_view.specs.Formats.{FormattedCell}

-- the byte order mark U+FEFF in UTF-8, where it is asked for
abbrev pub byte_order_mark : Bool → List ℕ
byte_order_mark true = 0xEF ∷ 0xBB ∷ 0xBF ∷ []
byte_order_mark false = []

-- the box of a table, by where it begins
abbrev pub table_box : Origin → Extent → Extent
table_box origins.Box box = box
table_box A1 box = from_a1 box

-- its rows: the value that was given to each position last, and else none
abbrev pub table_rows : Origin → List FormattedCell → List (List Formatted)
table_rows origin cells = rows_in no_cell cells (table_box origin (box_of cells))

-- those that can be seen, where it is asked for what is hidden
abbrev pub seen_table : Option Hidden → Origin → List FormattedCell → List (List Formatted)
seen_table hidden origin cells = seen_in hidden (table_box origin (box_of cells)) (table_rows origin cells)

-- the same of cells that are gone through once; where they ascend, both are the same rows
abbrev pub table_walk : Option Hidden → Origin → List FormattedCell → List (List Formatted)
table_walk hidden origin cells =
    seen_in hidden (table_box origin (box_of cells)) (walk_box no_cell (table_box origin (box_of cells)) cells)

-- a table: the mark, where it is asked for, and the box of the rows
abbrev pub IsTable : FieldForm → Bool → List (List Formatted) → List ℕ → Type 0
IsTable form is_marked rows text =
    (body : List ℕ) × IsBox form rows body × (text ≡ byte_order_mark is_marked ++ body)

-- the mark likewise, and a part of the box
abbrev pub BeginsTable : FieldForm → Bool → List (List Formatted) → List ℕ → Type 0
BeginsTable form is_marked rows text =
    (body : List ℕ) × BeginsBox form rows body × (text ≡ byte_order_mark is_marked ++ body)

-- the table was written
pub record WroteTable (form : FieldForm) (is_marked : Bool) (rows : List (List Formatted))
    (before after : SinkState) : Type 0 where
  pub text : List ℕ
  pub table : IsTable form is_marked rows text
  pub wrote : Wrote before after text

-- a prefix of a part of it was written, and then it was given up
pub record StopsTable (form : FieldForm) (is_marked : Bool) (rows : List (List Formatted))
    (before after : SinkState) (e : Stop) : Type 0 where
  pub text : List ℕ
  pub part : BeginsTable form is_marked rows text
  pub stops : Stops before [] after text e

-- either of them
abbrev pub DeliversTable : {X : Type 0} → FieldForm → Bool → List (List Formatted) → SinkState → SinkState → Result X Stop → Type 0
DeliversTable form is_marked rows before after result =
    MatchResult result (λ _. WroteTable form is_marked rows before after) (StopsTable form is_marked rows before after)
