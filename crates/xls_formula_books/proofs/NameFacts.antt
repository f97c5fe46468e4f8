-- Known names, so that a wrong rule does not check.
use Rattle.std.proofs.Common.{◌≡◌, ℕ, List, [], ◌∷◌, map, refl, codes, Some, None, ℤ, pos, negsuc}
use Rattle.xls_record.specs.declared.version.Biff.{Biff}
use Rattle.xls_record.specs.declared.version.Biff.TheVariants.{Biff5, Biff8}
use Rattle.xls_other_books.specs.declared.entries.Entry.{Entry}
use Rattle.xls_shown_ptg.specs.declared.tokens.NameLink.TheVariants.{Xti, Early}
use Rattle.xls_defined_names.specs.Kinds.{kinds_of}
use Rattle.xls_defined_names.specs.Names.{Name}
use Rattle.xls_formula_books.specs.declared.sources.Kind.TheVariants as kinds
use Rattle.xls_formula_books.specs.ExternNames.{Name as ExternName}
use Rattle.xls_formula_books.specs.Sources.{Source, bare, program, with_names, with_sheets, workbook}
use Rattle.xls_formula_books.specs.Names.{name, name_x}
use Rattle.xls_formula_books.specs.Own.{own_name}
use Rattle.xls_formula_books.specs.Prefixes.{Here}

abbrev defined : ℕ → List ℕ → Name
defined sheet text = record { offset = 0; kinds = kinds_of 0; sheet = sheet; text = text }

abbrev other : ℕ → List ℕ → ExternName
other sheet text = record { sheet = sheet; text = text }

abbrev entry : ℕ → Entry
entry book = record { book = book; first = 0xFFFE; last = 0xFFFE }

-- names of the workbook, of the first and the second sheet, and of one that isn't there
abbrev here : Biff → List Source → ℕ → Here
here version sources sheet = record {
  books = record { version = version; sources = sources; entries = entry 0 ∷ entry 1 ∷ entry 2 ∷ entry 3 ∷ entry 4 ∷ entry 5 ∷ entry 6 ∷ [] };
  names = defined 0 (codes "Rate") ∷ defined 1 (codes "Here") ∷ defined 2 (codes "There") ∷ defined 9 (codes "Lost") ∷ [];
  sheets = codes "Jan" ∷ codes "It's" ∷ [];
  sheet = sheet;
}

-- ---- by number

pub known_names : map (λ n. name (here Biff8 [] 1) n) (0 ∷ 1 ∷ 2 ∷ 3 ∷ 4 ∷ 5 ∷ 0x1DAB0001 ∷ [])
    ≡ codes "#NAME?" ∷ codes "Rate" ∷ codes "Here" ∷ codes "'It''s'!There" ∷ codes "#REF!Lost" ∷ codes "#NAME?" ∷ codes "Rate" ∷ []
known_names = refl

-- in a formula of the second sheet, and in a name of the workbook
pub known_places : map (λ sheet. name (here Biff8 [] sheet) 2 ∷ name (here Biff8 [] sheet) 3 ∷ []) (2 ∷ 0 ∷ [])
    ≡ (codes "Jan!Here" ∷ codes "There" ∷ []) ∷ (codes "Jan!Here" ∷ codes "'It''s'!There" ∷ []) ∷ []
known_places = refl

-- ---- by reference

abbrev three : List ExternName
three = other 0 (codes "All") ∷ other 1 (codes "One") ∷ other 3 (codes "Two") ∷ []

abbrev sources : List Source
sources =
    bare kinds.This
    ∷ with_names three (with_sheets (codes "S" ∷ codes "T 1" ∷ []) (workbook (codes "C:\\d\\") (codes "b.xls")))
    ∷ with_names three (with_sheets (codes "S" ∷ []) (workbook [] (codes "b.xls")))
    ∷ with_names three (program (codes "MTX") (codes "DATA 1"))
    ∷ with_names (other 0 (codes "EDATE") ∷ []) (bare kinds.Functions)
    ∷ with_names three (bare kinds.Nothing) ∷ []

abbrev through : ℕ → List (List ℕ)
through ixti = map (λ n. name_x (here Biff8 sources 1) (Xti ixti n)) (0 ∷ 1 ∷ 2 ∷ 3 ∷ 4 ∷ [])

pub known_this : through 0 ≡ codes "#NAME?" ∷ codes "[0]!Rate" ∷ codes "Jan!Here" ∷ codes "'It''s'!There" ∷ codes "#REF!Lost" ∷ []
known_this = refl

pub known_far : through 1 ∷ through 2 ∷ []
    ≡ (codes "#NAME?" ∷ codes "'C:\\d\\b.xls'!All" ∷ codes "'C:\\d\\[b.xls]S'!One" ∷ codes "'C:\\d\\b.xls'!Two" ∷ codes "#NAME?" ∷ [])
    ∷ (codes "#NAME?" ∷ codes "b.xls!All" ∷ codes "[b.xls]S!One" ∷ codes "b.xls!Two" ∷ codes "#NAME?" ∷ []) ∷ []
known_far = refl

pub known_items : through 3 ≡ codes "#NAME?" ∷ codes "MTX|'DATA 1'!All" ∷ codes "MTX|'DATA 1'!One" ∷ codes "MTX|'DATA 1'!Two" ∷ codes "#NAME?" ∷ []
known_items = refl

-- an item that needs quotes
pub known_quoted_item : name_x (here Biff8 (with_names (other 0 (codes "R1C1") ∷ []) (program (codes "MTX") (codes "D")) ∷ []) 1) (Xti 0 1) ≡ codes "MTX|D!'R1C1'"
known_quoted_item = refl

-- added functions; what couldn't be read; no SupBook; no entry
pub known_others : map (λ ixti. name_x (here Biff8 sources 1) (Xti ixti 1)) (4 ∷ 5 ∷ 6 ∷ 7 ∷ []) ≡ codes "EDATE" ∷ codes "#NAME?" ∷ codes "#NAME?" ∷ codes "#NAME?" ∷ []
known_others = refl

-- ---- before BIFF8

abbrev references : List Source
references =
    with_names (other 0 (codes "Own") ∷ []) (bare kinds.Own) ∷ bare kinds.This ∷ with_sheets (codes "Jan" ∷ []) (bare kinds.Sheet)
    ∷ with_names three (with_sheets (codes "S" ∷ []) (workbook [] (codes "b.xls")))
    ∷ with_names three (workbook (codes "C:\\") (codes "b.xls"))
    ∷ with_names three (program (codes "MTX") (codes "DATA"))
    ∷ with_names (other 0 (codes "EDATE") ∷ []) (bare kinds.Functions) ∷ bare kinds.Nothing ∷ []

abbrev early : ℤ → ℕ → List ℕ
early reference index = name_x (here Biff5 references 1) (Early reference index)

-- an ExternName of this workbook as it is, else a defined name
pub known_early_this : early (pos 1) 1 ∷ early (pos 1) 2 ∷ early (pos 2) 1 ∷ early (pos 3) 3 ∷ early (negsuc 0) 1 ∷ early (negsuc 0) 5 ∷ []
    ≡ codes "Own" ∷ codes "Jan!Here" ∷ codes "[0]!Rate" ∷ codes "'It''s'!There" ∷ codes "[0]!Rate" ∷ codes "#NAME?" ∷ []
known_early_this = refl

-- the sheet is that of the path
pub known_early : map (λ reference. early reference 2) (pos 4 ∷ pos 5 ∷ pos 6 ∷ pos 7 ∷ pos 8 ∷ pos 9 ∷ pos 0 ∷ [])
    ≡ codes "[b.xls]S!One" ∷ codes "'C:\\b.xls'!One" ∷ codes "MTX|DATA!One" ∷ codes "#NAME?" ∷ codes "#NAME?" ∷ codes "#NAME?" ∷ codes "#NAME?" ∷ []
known_early = refl

pub known_function : early (pos 7) 1 ≡ codes "EDATE"
known_function = refl

-- ---- the numbers of names of this workbook

-- through the entries of this workbook, another one, a program, added functions; no SupBook, no entry. There may be no name of the number
pub known_own_names : map (λ ixti. own_name (here Biff8 sources 1) (Xti ixti 9)) (0 ∷ 1 ∷ 3 ∷ 4 ∷ 6 ∷ 7 ∷ [])
    ≡ Some 9 ∷ None ∷ None ∷ None ∷ None ∷ None ∷ []
known_own_names = refl

-- not an ExternName of this workbook
pub known_early_own_names : map (λ reference. own_name (here Biff5 references 1) (Early reference 1)) (pos 1 ∷ pos 2 ∷ pos 3 ∷ pos 4 ∷ pos 6 ∷ pos 7 ∷ pos 9 ∷ pos 0 ∷ negsuc 0 ∷ [])
    ≡ None ∷ Some 1 ∷ Some 1 ∷ None ∷ None ∷ None ∷ None ∷ None ∷ Some 1 ∷ []
known_early_own_names = refl
