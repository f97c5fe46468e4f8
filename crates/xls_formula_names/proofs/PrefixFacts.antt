-- Known prefixes, so that a wrong rule does not check.
use Rattle.std.proofs.Common.{◌≡◌, ℕ, List, [], ◌∷◌, map, refl, codes}
use Rattle.std.specs.Str.{chars}
use Rattle.xls_formula_names.specs.Prefixes.{book_prefix, file_prefix, name_text, quoted, sheets_prefix, Named, gone, one, range}

pub known_quoted : map quoted ([] ∷ codes "a" ∷ codes "it's" ∷ codes "''" ∷ []) ≡ codes "''" ∷ codes "'a'" ∷ codes "'it''s'" ∷ codes "''''''" ∷ []
known_quoted = refl

pub known_names : map name_text ([] ∷ codes "Sheet1" ∷ codes "O'Brien" ∷ codes "A1" ∷ codes "#REF" ∷ codes "a b" ∷ [])
    ≡ codes "''" ∷ codes "Sheet1" ∷ codes "'O''Brien'" ∷ codes "'A1'" ∷ codes "'#REF'" ∷ codes "'a b'" ∷ []
known_names = refl

pub known_sheets : map sheets_prefix (
    gone ∷ one (codes "Sheet1") ∷ one (codes "My sheet") ∷ one (codes "#REF") ∷ one []
    ∷ range (codes "Jan") (codes "Dec") ∷ range (codes "It's") (codes "Dec") ∷ range (codes "Jan") (codes "R1C1")
    ∷ range (codes "true") (codes "it's") ∷ [])
    ≡ codes "#REF" ∷ codes "Sheet1" ∷ codes "'My sheet'" ∷ codes "'#REF'" ∷ codes "''" ∷ codes "Jan:Dec" ∷ codes "'It''s:Dec'" ∷ codes "'Jan:R1C1'" ∷ codes "'true:it''s'" ∷ []
unfolding chars
known_sheets = refl

pub known_files : map (λ (x : List ℕ × List ℕ). file_prefix x.0 x.1) (
    ([], codes "b.xls") ∷ ([], codes "my b.xls") ∷ (codes "C:\\d\\", codes "b.xls") ∷ (codes "C:\\it's\\", codes "b.xls") ∷ (codes "..\\", []) ∷ ([], []) ∷ ([], codes "A1") ∷ [])
    ≡ codes "b.xls" ∷ codes "'my b.xls'" ∷ codes "'C:\\d\\b.xls'" ∷ codes "'C:\\it''s\\b.xls'" ∷ codes "'..\\'" ∷ codes "''" ∷ codes "'A1'" ∷ []
known_files = refl

abbrev at_home : Named → List ℕ
at_home sheets = book_prefix [] (codes "b.xls") sheets

abbrev in_folder : Named → List ℕ
in_folder sheets = book_prefix (codes "C:\\") (codes "b's.xls") sheets

abbrev some_sheets : List Named
some_sheets =
    gone ∷ one (codes "S") ∷ one (codes "S 1") ∷ range (codes "S") (codes "T") ∷ range (codes "S") (codes "T's") ∷ []

pub known_books : map at_home some_sheets ≡ codes "[b.xls]#REF" ∷ codes "[b.xls]S" ∷ codes "'[b.xls]S 1'" ∷ codes "[b.xls]S:T" ∷ codes "'[b.xls]S:T''s'" ∷ []
unfolding chars
known_books = refl

pub known_far_books : map in_folder some_sheets
    ≡ codes "'C:\\[b''s.xls]#REF'" ∷ codes "'C:\\[b''s.xls]S'" ∷ codes "'C:\\[b''s.xls]S 1'" ∷ codes "'C:\\[b''s.xls]S:T'" ∷ codes "'C:\\[b''s.xls]S:T''s'" ∷ []
unfolding chars
known_far_books = refl

pub known_odd_file : book_prefix [] (codes "my b.xls") gone ≡ codes "'[my b.xls]#REF'"
known_odd_file = refl
