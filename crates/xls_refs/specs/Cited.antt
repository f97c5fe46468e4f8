-- The cells that the formulas of a workbook cite, by its logical list.
use Rattle.std.specs.Prelude.{◌≡◌, ℕ, suc, List, [], ◌∷◌, ◌++◌, map, Some, unwrap_or, Result, Ok, Err}
use Rattle.std.specs.List.{flat_map}
use Rattle.xls_stream.specs.Listing.{Kept, ListEntry}
use Rattle.xls_range.specs.Positions.{Position}
use Rattle.xls_record.specs.declared.error.XlsError.{XlsError}
use Rattle.xls_formula.specs.Context.{Context}
use Rattle.xls_meaning.specs.Settings.{SheetRecords, sheets_of, sheet_names_of, context_of}
use Rattle.xls_meaning.specs.Reading.{kept_named}
use Rattle.xls_meaning.specs.Rules.{Rules}
use Rattle.xls_view.specs.Formulas.{Formula, AreLast, formulas_kept}
use Rattle.xls_refs.specs.Citations.{Citation, citation_of, cites_at}
use Rattle.xls_refs.specs.declared.cite.BookCite.{BookCite}

-- ---- what a formula of a sheet cites

-- a sheet by its index, the row and the column of a formula, and cells that it cites
pub record BookCitation : Type 0 where
  pub sheet : ℕ
  pub row : ℕ
  pub col : ℕ
  pub cite : Citation

abbrev pub book_citation_of : BookCite → BookCitation
book_citation_of c = record { sheet = c.sheet; row = c.row; col = c.col; cite = citation_of c.cite }

-- on the sheet of this name, where the formula tells none
abbrev pub on_own_sheet : List ℕ → Citation → Citation
on_own_sheet name c =
    record { sheet = Some (unwrap_or c.sheet name); first = c.first; last = c.last }

abbrev pub cited_from : ℕ → List ℕ → Position → Citation → BookCitation
cited_from index name p c =
    record { sheet = index; row = p.0; col = p.1; cite = on_own_sheet name c }

-- a formula that is refused cites nothing
abbrev pub citations_unless_refused : Result (List Citation) XlsError → List Citation
citations_unless_refused (Ok cs) = cs
citations_unless_refused (Err e) = []

-- what a formula of the sheet of this index and name cites, in order
abbrev pub cited_by : Context → ℕ → List ℕ → Formula → List BookCitation
cited_by context index name f =
    map (cited_from index name f.0) (citations_unless_refused (cites_at context f.1))

-- ---- the workbook

-- what the formulas among these kept records cite, for the sheet of this index and name
pub record IsSheetCited (context : Context) (index : ℕ) (name : List ℕ) (kept : List Kept) (cited : List BookCitation) : Type 0 where
  pub formulas : List Formula
  pub last : AreLast (formulas_kept kept) formulas
  pub cited_is : cited ≡ flat_map (cited_by context index name) formulas

-- these sheets in order, of which the first has this index, each by the formulas of the last of all
-- sheets of its name
abbrev pub AreCited : Context → List SheetRecords → ℕ → List SheetRecords → List BookCitation → Type 0
AreCited context all index [] cited = cited ≡ []
AreCited context all index (q ∷ qs) cited =
    (here : List BookCitation) × (others : List BookCitation) × (cited ≡ here ++ others)
    × IsSheetCited context index q.0.name (kept_named all q.0.name) here
    × AreCited context all (suc index) qs others

-- the names of the sheets in order, and what their formulas cite
pub record BookCited : Type 0 where
  pub names : List (List ℕ)
  pub cites : List BookCitation

-- what the formulas of a list's sheets cite
pub record IsCited (rules : Rules) (entries : List ListEntry) (book : BookCited) : Type 0 where
  pub names : book.names ≡ sheet_names_of (sheets_of rules entries)
  pub cites : AreCited (context_of rules entries) (sheets_of rules entries) 0 (sheets_of rules entries) book.cites
