-- Known prefixes, so that a wrong rule does not check.
use Rattle.std.proofs.Common.{◌≡◌, ℕ, List, [], ◌∷◌, map, refl, codes, ℤ, pos, negsuc}
use Rattle.xls_record.specs.declared.version.Biff.{Biff}
use Rattle.xls_record.specs.declared.version.Biff.TheVariants.{Biff5, Biff8}
use Rattle.xls_other_books.specs.declared.entries.Entry.{Entry}
use Rattle.xls_shown_ptg.specs.declared.tokens.SheetLink.TheVariants.{Xti, Early}
use Rattle.xls_formula_books.specs.declared.sources.Kind.TheVariants as kinds
use Rattle.xls_formula_books.specs.Sources.{Source, bare, program, with_sheets, workbook}
use Rattle.xls_formula_names.specs.Prefixes.{gone, one, range}
use Rattle.xls_formula_books.specs.Places.{cited_text}
use Rattle.xls_formula_books.specs.Places as places
use Rattle.xls_formula_books.specs.Prefixes.{Here, prefix}

abbrev entry : ℕ → ℕ → ℕ → Entry
entry book first last = record { book = book; first = first; last = last }

abbrev here : Biff → List Source → List Entry → ℕ → Here
here version sources entries sheet = record {
  books = record { version = version; sources = sources; entries = entries };
  names = [];
  sheets = codes "Jan" ∷ codes "It's" ∷ codes "A1" ∷ codes "Dec" ∷ [];
  sheet = sheet;
}

-- this workbook; one in a folder, and one beside; a program; added functions; what couldn't be read
abbrev sources : List Source
sources =
    bare kinds.This
    ∷ with_sheets (codes "S" ∷ codes "T 1" ∷ []) (workbook (codes "C:\\d\\") (codes "b.xls"))
    ∷ with_sheets (codes "S" ∷ codes "T 1" ∷ codes "U" ∷ []) (workbook [] (codes "b.xls"))
    ∷ program (codes "MTX") (codes "DATA 1")
    ∷ bare kinds.Functions ∷ bare kinds.Nothing ∷ []

abbrev through : Entry → List ℕ
through e = prefix (here Biff8 sources (e ∷ []) 1) (Xti 0)

-- one sheet, with an apostrophe, like a cell; from one to another; gone, none, and one behind the list
pub known_here : map through (entry 0 0 0 ∷ entry 0 1 1 ∷ entry 0 2 2 ∷ entry 0 0 3 ∷ entry 0 3 1 ∷ entry 0 0xFFFF 0xFFFF ∷ entry 0 0xFFFE 0xFFFE ∷ entry 0 4 4 ∷ entry 0 0 4 ∷ [])
    ≡ codes "Jan" ∷ codes "'It''s'" ∷ codes "'A1'" ∷ codes "Jan:Dec" ∷ codes "'Dec:It''s'" ∷ codes "#REF" ∷ codes "#REF" ∷ codes "#REF" ∷ codes "#REF" ∷ []
known_here = refl

pub known_far : map through (entry 1 0 0 ∷ entry 1 0 1 ∷ entry 1 2 2 ∷ entry 2 0 0 ∷ entry 2 1 1 ∷ entry 2 0 2 ∷ entry 2 0xFFFF 0xFFFF ∷ [])
    ≡ codes "'C:\\d\\[b.xls]S'" ∷ codes "'C:\\d\\[b.xls]S:T 1'" ∷ codes "'C:\\d\\[b.xls]#REF'" ∷ codes "[b.xls]S" ∷ codes "'[b.xls]T 1'" ∷ codes "[b.xls]S:U" ∷ codes "[b.xls]#REF" ∷ []
known_far = refl

pub known_others : map through (entry 3 0xFFFE 0xFFFE ∷ entry 4 0xFFFE 0xFFFE ∷ entry 5 0 0 ∷ entry 6 0 0 ∷ [])
    ≡ codes "MTX|'DATA 1'" ∷ codes "#REF" ∷ codes "#REF" ∷ codes "#REF" ∷ []
known_others = refl

pub known_no_entry : prefix (here Biff8 sources (entry 0 0 0 ∷ []) 1) (Xti 1) ≡ codes "#REF"
known_no_entry = refl

-- ---- before BIFF8

-- the sheet of the formula; a sheet by its name, and by that of none; a workbook's sheet, and a path alone; a program; this workbook for its
-- names; added functions
abbrev references : List Source
references =
    bare kinds.Own
    ∷ with_sheets (codes "It's" ∷ []) (bare kinds.Sheet)
    ∷ with_sheets (codes "Feb" ∷ []) (bare kinds.Sheet)
    ∷ with_sheets (codes "S" ∷ []) (workbook [] (codes "b.xls"))
    ∷ workbook [] (codes "b.xls") ∷ workbook (codes "C:\\") (codes "b.xls")
    ∷ program (codes "MTX") (codes "DATA") ∷ bare kinds.This ∷ bare kinds.Functions ∷ bare kinds.Nothing ∷ []

abbrev numbered : ℕ → ℤ → List ℕ
numbered sheet reference = prefix (here Biff5 references [] sheet) (Early reference 0 3)

pub known_early : map (numbered 1) (pos 1 ∷ pos 2 ∷ pos 3 ∷ pos 4 ∷ pos 5 ∷ pos 6 ∷ pos 7 ∷ pos 8 ∷ pos 9 ∷ pos 10 ∷ pos 11 ∷ pos 0 ∷ [])
    ≡ codes "Jan" ∷ codes "'It''s'" ∷ codes "#REF" ∷ codes "[b.xls]S" ∷ codes "b.xls" ∷ codes "'C:\\b.xls'" ∷ codes "MTX|DATA" ∷ codes "#REF" ∷ codes "#REF" ∷ codes "#REF" ∷ codes "#REF" ∷ codes "#REF" ∷ []
known_early = refl

-- the formula's own sheet: the second, none in a name of the workbook, and one that isn't there
pub known_own : map (λ sheet. numbered sheet (pos 1)) (2 ∷ 0 ∷ 5 ∷ []) ≡ codes "'It''s'" ∷ codes "#REF" ∷ codes "#REF" ∷ []
known_own = refl

-- below 0 by the sheets' numbers
pub known_below : map (λ last. prefix (here Biff5 references [] 1) (Early (negsuc 0) 0 last)) (0 ∷ 3 ∷ 0xFFFF ∷ []) ≡ codes "Jan" ∷ codes "Jan:Dec" ∷ codes "#REF" ∷ []
known_below = refl

-- what cites cells, without apostrophes: one sheet, a range of sheets, and those of another workbook; not what is gone, a file alone, a program
pub known_cited : map cited_text (places.here (one (codes "It's")) ∷ places.here (range (codes "Jan") (codes "Dec"))
    ∷ places.book (codes "C:\\d\\") (codes "b.xls") (one (codes "T 1")) ∷ places.here gone ∷ places.book [] (codes "b.xls") gone
    ∷ places.path [] (codes "b.xls") ∷ places.link (codes "MTX") (codes "DATA 1") ∷ [])
    ≡ codes "It's" ∷ codes "Jan:Dec" ∷ codes "C:\\d\\[b.xls]T 1" ∷ [] ∷ [] ∷ [] ∷ [] ∷ []
known_cited = refl
