-- What formulas call names: by number (PtgName) and by reference (PtgNameX). Texts are lists of characters.
use Rattle.std.specs.Prelude.{ℕ, ◌-◌, ◌%◌, List, ◌++◌, Bool, true, false, ◌==◌, ◌||◌, if◌then◌else◌, codes, Option, Some, None, ℤ}
use Rattle.std.specs.Int.{is_negative}
use Rattle.std.specs.List.{slice_get}
use Rattle.xls_record.specs.declared.version.Biff.{Biff}
use Rattle.xls_record.specs.Version.{is_biff8}
use Rattle.xls_formula_names.specs.Links.{link_prefix}
use Rattle.xls_formula_names.specs.Prefixes.{name_text, sheets_prefix}
use Rattle.xls_other_books.specs.declared.entries.Entry.{Entry}
use Rattle.xls_defined_names.specs.Names.{Name, numbered}
use Rattle.xls_shown_ptg.specs.declared.tokens.NameLink.{NameLink}
use Rattle.xls_shown_ptg.specs.declared.tokens.NameLink.TheVariants.{Xti, Early}
use Rattle.xls_formula_books.specs.declared.sources.Kind.{Kind}
use Rattle.xls_formula_books.specs.declared.sources.Kind.TheVariants as kinds
use Rattle.xls_formula_books.specs.Books.{entry_at, source_at}
use Rattle.xls_formula_books.specs.ExternNames.{Name as ExternName}
use Rattle.xls_formula_books.specs.Prefixes.{Here, numbered_sheet, numbered_source, workbook_place}
use Rattle.xls_formula_books.specs.Places.{place_prefix}
use Rattle.xls_formula_books.specs.Sources.{Source}

-- where there is no such name
abbrev pub nameless : List ℕ
nameless = codes "#NAME?"

abbrev pub behind_mark : List ℕ → List ℕ → List ℕ
behind_mark prefix text = prefix ++ (codes "!" ++ text)

-- a name of a sheet, by its number from 1; `#REF!` stands for one that isn't there
abbrev pub of_sheet : List (List ℕ) → ℕ → List ℕ → List ℕ
of_sheet sheets sheet text = behind_mark (sheets_prefix (numbered_sheet sheets sheet)) text

-- ---- by number

-- in a formula of the name's own sheet, and for one of the workbook, the text alone
abbrev pub seen : Here → Name → List ℕ
seen here n = if n.sheet == 0 || (n.sheet == here.sheet) then n.text else of_sheet here.sheets n.sheet n.text

abbrev pub seen_if : Here → Option Name → List ℕ
seen_if here (Some n) = seen here n
seen_if here None = nameless

-- of the four bytes of a token two are the number
abbrev pub name_number : ℕ → ℕ
name_number field = field % 0x10000

abbrev pub name : Here → ℕ → List ℕ
name here field = seen_if here (numbered (name_number field) here.names)

-- ---- of this workbook, by reference

-- `[0]` is what files call this workbook
abbrev pub called : List (List ℕ) → Name → List ℕ
called sheets n = if n.sheet == 0 then codes "[0]!" ++ n.text else of_sheet sheets n.sheet n.text

abbrev pub called_if : List (List ℕ) → Option Name → List ℕ
called_if sheets (Some n) = called sheets n
called_if sheets None = nameless

abbrev pub this_name : Here → ℕ → List ℕ
this_name here number = called_if here.sheets (numbered number here.names)

-- ---- of others

-- by its number from 1
abbrev pub numbered_name : Source → ℕ → Option ExternName
numbered_name s number = if number == 0 then None else slice_get s.names (number - 1)

-- the sheet of another workbook to which it belongs, before BIFF8 that of the reference
abbrev pub sheet_of : Biff → Source → ExternName → Option (List ℕ)
sheet_of version s n =
    if is_biff8 version then (if n.sheet == 0 then None else slice_get s.sheets (n.sheet - 1)) else slice_get s.sheets 0

-- `DIR[FILE]Sheet!Name`, or `FILE!Name` behind the whole path
abbrev pub of_workbook : Biff → Source → ExternName → List ℕ
of_workbook version s n = behind_mark (place_prefix (workbook_place s (sheet_of version s n))) n.text

abbrev pub item : Source → List ℕ → List ℕ
item s text = behind_mark (link_prefix s.app s.topic) (name_text text)

abbrev pub name_by : Kind → Biff → Source → ExternName → List ℕ
name_by kinds.Functions version s n = n.text
name_by kinds.Program version s n = item s n.text
name_by kinds.Workbook version s n = of_workbook version s n
name_by kind version s n = nameless

abbrev pub name_of : Biff → Source → ExternName → List ℕ
name_of version s n = name_by s.kind version s n

abbrev pub name_if : Biff → Source → Option ExternName → List ℕ
name_if version s (Some n) = name_of version s n
name_if version s None = nameless

abbrev pub other_name : Biff → Source → ℕ → List ℕ
other_name version s number = name_if version s (numbered_name s number)

-- ---- BIFF8: through an entry of ExternSheet

abbrev pub source_name_by : Kind → Here → ℕ → Source → List ℕ
source_name_by kinds.This here number s = this_name here number
source_name_by kind here number s = other_name here.books.version s number

abbrev pub source_name : Here → ℕ → Source → List ℕ
source_name here number s = source_name_by s.kind here number s

abbrev pub source_name_if : Here → ℕ → Option Source → List ℕ
source_name_if here number (Some s) = source_name here number s
source_name_if here number None = nameless

abbrev pub name_through : Here → ℕ → Option Entry → List ℕ
name_through here number (Some entry) = source_name_if here number (source_at here.books entry.book)
name_through here number None = nameless

abbrev pub xti_name : Here → ℕ → ℕ → List ℕ
xti_name here ixti number = name_through here number (entry_at here.books ixti)

-- ---- before BIFF8: through an ExternSheet record, or of this workbook where its number is below 0

abbrev pub is_this : Kind → Bool
is_this kinds.This = true
is_this kinds.Own = true
is_this kinds.Sheet = true
is_this kind = false

-- an ExternName of this workbook as it is
abbrev pub text_or : List ℕ → Option ExternName → List ℕ
text_or other (Some n) = n.text
text_or other None = other

abbrev pub of_this : Here → ℕ → Source → List ℕ
of_this here number s = text_or (this_name here number) (numbered_name s number)

abbrev pub early_source_name : Here → ℕ → Source → List ℕ
early_source_name here number s =
    if is_this s.kind then of_this here number s else other_name here.books.version s number

abbrev pub early_name_if : Here → ℕ → Option Source → List ℕ
early_name_if here number (Some s) = early_source_name here number s
early_name_if here number None = nameless

abbrev pub early_name : Here → ℤ → ℕ → List ℕ
early_name here reference index =
    if is_negative reference then this_name here index else early_name_if here index (numbered_source here.books reference)

-- ---- both

abbrev pub name_x : Here → NameLink → List ℕ
name_x here (Xti ixti index) = xti_name here ixti index
name_x here (Early number index) = early_name here number index
