-- A box in the fields of `csv` is the text that its default writer gives.
use Rattle.std.proofs.Common.{◌≡◌, inl, inr, ℕ, zero, suc, List, [], ◌∷◌, ◌++◌, length, map, take, drop, append_assoc, append-nil, refl, sym, ap, ◌∙◌}
use Rattle.std.specs.Prelude.{◌==◌}
use Rattle.csv.specs.Writing.{default_writer, field_text, fields_text, row_body}
use Rattle.xls_data.specs.Content.{Content, nothing}
use Rattle.xls_biff.specs.Cells.{CellEntry}
use Rattle.xls_view.specs.Formats.{FormattedCell, plain}
use Rattle.xls_output.specs.Each.{Concatenates, GathersEach}
use Rattle.xls_output.specs.Output.{Buffers, GivesUp, Output}
use Rattle.xls_output.specs.declared.stop.Stop.{Stop}
use Rattle.xls_output.proofs.OutputLemmas.{gathers-as, stops-as, stops-more}
use Rattle.xls_csv.specs.Boxes.{BeginsBox, BeginsRow, GivesUpBox, IsBox, IsFields, IsRow, IsSeparated, row_end}
use Rattle.xls_csv.specs.Fields.{field}
use Rattle.xls_csv.specs.Steps.{csv_fields}
use Rattle.xls_csv.specs.Text.{row_csv, rows_csv}
use Rattle.xls_csv.specs.Dense.{box_of}
use Rattle.xls_csv.specs.declared.extent.Extent.{Extent}
use Rattle.xls_csv.specs.Walk.{Formatted, content_in, no_cell, rows_over, walk_rows}
use Rattle.xls_csv.proofs.LineLemmas.{row_ended}
use Rattle.xls_csv.proofs.WalkLemmas.{walk_plain, walked}

-- the contents of a row
abbrev pub contents : List Formatted → List Content
contents row = map content_in row

-- their fields
abbrev fields_in : List Formatted → List (List ℕ)
fields_in row = map field (contents row)

-- rows by their contents
abbrev row_shown : List Formatted → List ℕ
row_shown row = row_csv (contents row)

abbrev pub rows_shown : List (List Formatted) → List ℕ
rows_shown rows = rows_csv (map contents rows)

-- the fields after the first
others_are : (values : List Formatted) (text : List ℕ) → Concatenates (IsSeparated csv_fields) values text
    → text ≡ fields_text default_writer (fields_in values)
unfolding fields_text
others_are [] text none = none
others_are (c ∷ cs) text (first, others, (f, is, e), rest, whole) =
    rw (whole, e, is, others_are cs others rest) refl

fields_are : (values : List Formatted) (text : List ℕ) → IsFields csv_fields values text
    → text ≡ row_body default_writer (fields_in values)
fields_are [] text none = none
fields_are (c ∷ cs) text (first, others, is, rest, whole) = rw (whole, is, others_are cs others rest) refl

row_is : (row : List Formatted) (text : List ℕ) → IsRow csv_fields row text → text ≡ row_shown row
row_is row text (fields, are, e) =
    let body = fields_are row fields are in
    e ∙ ap (λ (t : List ℕ). t ++ row_end (length t == 0)) body ∙ row_ended (fields_in row)

box_is : (rows : List (List Formatted)) (text : List ℕ) → IsBox csv_fields rows text → text ≡ rows_shown rows
box_is [] text none = none
box_is (row ∷ rows) text (first, others, is, rest, e) =
    e ∙ ap (λ (t : List ℕ). t ++ others) (row_is row first is) ∙ ap (λ (t : List ℕ). row_shown row ++ t) (box_is rows others rest)

-- ---- a part of it, and what is missing

others_split : (n : ℕ) (values : List Formatted)
    → fields_text default_writer (fields_in (take n values)) ++ fields_text default_writer (fields_in (drop n values))
    ≡ fields_text default_writer (fields_in values)
unfolding fields_text
others_split zero values = refl
others_split (suc n) [] = refl
others_split (suc n) (c ∷ cs) =
    ap (λ (t : List ℕ). 44 ∷ t)
    (append_assoc (field_text default_writer (field (content_in c))) (fields_text default_writer (fields_in (take n cs))) (fields_text default_writer (fields_in (drop n cs)))
    ∙ ap (λ (t : List ℕ). field_text default_writer (field (content_in c)) ++ t) (others_split n cs))

fields_split : (n : ℕ) (values : List Formatted)
    → (more : List ℕ) × (row_body default_writer (fields_in (take n values)) ++ more ≡ row_body default_writer (fields_in values))
fields_split zero values = (row_body default_writer (fields_in values), refl)
fields_split (suc n) [] = ([], refl)
fields_split (suc n) (c ∷ cs) = (
  fields_text default_writer (fields_in (drop n cs)),
  append_assoc (field_text default_writer (field (content_in c))) (fields_text default_writer (fields_in (take n cs))) (fields_text default_writer (fields_in (drop n cs)))
      ∙ ap (λ (t : List ℕ). field_text default_writer (field (content_in c)) ++ t) (others_split n cs),
)

row_part : (row : List Formatted) (text : List ℕ) → BeginsRow csv_fields row text
    → (more : List ℕ) × (text ++ more ≡ row_shown row)
row_part row text (n, is) =
    let (more, whole) = fields_split n row in
    let end = row_end (length (row_body default_writer (fields_in row)) == 0) in (
      more ++ end,
      ap (λ (t : List ℕ). t ++ (more ++ end)) (fields_are (take n row) text is)
          ∙ sym (append_assoc (row_body default_writer (fields_in (take n row))) more end)
          ∙ ap (λ (t : List ℕ). t ++ end) whole ∙ row_ended (fields_in row),
    )

box_part : (rows : List (List Formatted)) (text : List ℕ) → BeginsBox csv_fields rows text
    → (more : List ℕ) × (text ++ more ≡ rows_shown rows)
box_part [] text none = ([], append-nil text ∙ none)
box_part (row ∷ rows) text (inl begins) =
    let (more, whole) = row_part row text begins in
    (more ++ rows_shown rows, sym (append_assoc text more (rows_shown rows)) ∙ ap (λ (t : List ℕ). t ++ rows_shown rows) whole)
box_part (row ∷ rows) text (inr (first, others, is, rest, e)) =
    let (more, whole) = box_part rows others rest in (
      more,
      ap (λ (t : List ℕ). t ++ more) (e ∙ ap (λ (t : List ℕ). t ++ others) (row_is row first is))
          ∙ append_assoc (row_shown row) others more ∙ ap (λ (t : List ℕ). row_shown row ++ t) whole,
    )

-- ---- a box that is put

pub csv_gathers : {rows : List (List Formatted)} {a b : Output} → GathersEach (IsRow csv_fields) rows a b → Buffers a b (rows_shown rows)
csv_gathers {rows} p = gathers-as p.gathers (box_is rows p.text p.texts)

pub csv_stops : (rows : List (List Formatted)) {a b : Output} {e : Stop} → GivesUpBox csv_fields rows a b e → GivesUp a b (rows_shown rows) e
csv_stops rows (text, begins, stops) =
    let (more, whole) = box_part rows text begins in
    stops-as (stops-more more stops) whole

-- ---- all rows

-- the rows over the box of cells with their formats are the CSV of the plain cells
pub walk_shown : (plain_cells : List CellEntry) (cells ahead : List FormattedCell) {extent : Extent} → map plain cells ≡ plain_cells
    → ahead ≡ cells → extent ≡ box_of cells
    → rows_shown (rows_over no_cell extent.height extent.top extent.left extent.width ahead) ≡ rows_csv (walk_rows nothing plain_cells)
walk_shown plain_cells cells ahead {extent} same e is =
    ap rows_shown (walked no_cell cells ahead {extent = extent} e is) ∙ ap rows_csv (walk_plain cells)
    ∙ ap (λ (l : List CellEntry). rows_csv (walk_rows nothing l)) same
