-- The defined names of a workbook, and what its formulas may name.
use Rattle.std.specs.Prelude.{ℕ, List, [], ◌∷◌, ◌++◌, Bool, true, Result, Ok, Option, Some, None}
use Rattle.xls_text.specs.declared.encoding.XlsEncoding.{XlsEncoding}
use Rattle.xls_record.specs.declared.version.Biff.{Biff}
use Rattle.xls_parts.specs.PartRecords.{globals_records, own_records}
use Rattle.xls_bodies.specs.Bodies.{body_of}
use Rattle.xls_formula.specs.Functions.{shipped}
use Rattle.xls_formula.specs.Table.{from_index_72}
use Rattle.xls_shown_ptg.specs.Reading.{◌>>=◌}
use Rattle.xls_shown_ptg.specs.declared.fault.Fault.{Fault}
use Rattle.xls_shared_formulas.specs.declared.fields.CellPlace.{CellPlace}
use Rattle.xls_defined_names.specs.Fields.{formula_in}
use Rattle.xls_defined_names.specs.Names.{Name, names_in, scope_of}
use Rattle.xls_defined_names.specs.declared.kinds.NameKinds.{NameKinds}
use Rattle.xls_formula_books.specs.Books.{Books, books_of, own_books}
use Rattle.xls_formula_books.specs.Names.{name, name_x}
use Rattle.xls_formula_books.specs.Prefixes.{Here, prefix}
use Rattle.xls_formula_shown.specs.Scope.{Scope}
use Rattle.xls_formula_shown.specs.ShownFold.{shown_text}
use Rattle.xls_shown_formulas.specs.Refusals.{told_of_name}

-- what all formulas of a workbook are read by: version, page and stream; the names of its sheets; other books by its globals; its
-- defined names
pub record Book : Type 0 where
  pub version : Biff
  pub page : XlsEncoding
  pub stream : List ℕ
  pub sheets : List (List ℕ)
  pub books : Books
  pub names : List Name

abbrev pub book_of : Biff → XlsEncoding → List ℕ → List (List ℕ) → Book
book_of version page stream sheets = record {
  version = version;
  page = page;
  stream = stream;
  sheets = sheets;
  books = books_of version page (globals_records stream);
  names = names_in page version stream;
}

-- ---- what a formula names

-- in the sheet of this number from 1, 0 for a name of the workbook
abbrev pub here_by : Book → Books → ℕ → Here
here_by book books sheet = record { books = books; names = book.names; sheets = book.sheets; sheet = sheet }

-- in a defined name, which refers by the globals' records
abbrev pub name_here : Book → ℕ → Here
name_here book sheet = here_by book book.books sheet

-- before BIFF8 a sheet's formulas refer by the records of its own, where it has some
abbrev pub or_books : Books → Option Books → Books
or_books books None = books
or_books books (Some own) = own

abbrev pub sheet_here : Book → ℕ → ℕ → List ℕ → Here
sheet_here book sheet offset part =
    here_by book (or_books book.books (own_books book.version book.page (own_records offset part))) sheet

-- the text of tokens from a place; offsets of other sheets count from it in a defined name
abbrev pub scope : Book → Here → Bool → CellPlace → Scope
scope book here is_name at = record {
  biff = book.version;
  page = book.page;
  place = record { row = at.row; column = at.column };
  is_name = is_name;
  functions = shipped ++ from_index_72;
  sheets = prefix here;
  name = name here;
  name_x = name_x here;
}

-- ---- defined names

-- its place is A1
abbrev pub first_cell : CellPlace
first_cell = record { row = 0; column = 0 }

-- nothing where there are no tokens
abbrev pub text_of_tokens : Scope → List ℕ × List ℕ → Result (List ℕ) Fault
text_of_tokens s ([], extra) = Ok []
text_of_tokens s (b ∷ bs, extra) = shown_text s (b ∷ bs) extra

-- the text of the formula, or why there is none
abbrev pub name_text : Book → Name → Result (List ℕ) Fault
name_text book n =
    formula_in book.version (body_of 0 book.stream n.offset) >>= text_of_tokens (scope book (name_here book n.sheet) true first_cell)

-- a name, its scope, its kinds, and its text, each as a list of characters
pub record ShownName : Type 0 where
  pub name : List ℕ
  pub scope : List ℕ
  pub kinds : NameKinds
  pub text : List ℕ

abbrev pub shown_name : Book → Name → ShownName
shown_name book n = record {
  name = n.text;
  scope = scope_of n.sheet book.sheets;
  kinds = n.kinds;
  text = told_of_name (name_text book n);
}
