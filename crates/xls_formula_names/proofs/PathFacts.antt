-- Known paths, so that a wrong rule does not check.
use Rattle.std.proofs.Common.{◌≡◌, ℕ, zero, suc, ◌+◌, Bool, true, false, List, [], ◌∷◌, ◌++◌, map, refl, codes}
use Rattle.std.specs.List.{filter}
use Rattle.xls_formula_names.specs.declared.starts.Start.{Start}
use Rattle.xls_formula_names.specs.declared.starts.Start.TheVariants.{Drive}
use Rattle.xls_formula_names.specs.Paths.{decoded, path_of, start_of}

-- each sign, alone, with others and at the end; what `/` is where there is a `\`, and where there is none
pub known_paths : map path_of (
    [] ∷ ((codes "Book1.xls")) ∷
    ((codes "C:\\a\\Book1.xls")) ∷ ((codes "a/b.xls")) ∷
    ((codes "a\\b/c.xls")) ∷ ((0x00 ∷ [])) ∷
    ((0x00 ∷ []) ++ (codes "Book1.xls")) ∷ ((0x00 ∷ []) ++ (codes "a\\b.xls")) ∷
    ((0x01 ∷ []) ++ (codes "Book1.xls")) ∷ ((0x01 ∷ [])) ∷
    ((0x01 ∷ []) ++ (codes "dir") ++ (0x03 ∷ []) ++ (codes "Book1.xls")) ∷ ((0x01 ∷ []) ++ (0x04 ∷ []) ++ (codes "Book1.xls")) ∷
    ((0x01 ∷ []) ++ (0x04 ∷ []) ++ (0x04 ∷ []) ++ (codes "dir") ++ (0x03 ∷ []) ++ (codes "Book1.xls")) ∷ ((0x01 ∷ []) ++ (0x01 ∷ []) ++ (codes "Cdir") ++ (0x03 ∷ []) ++ (codes "a b") ++ (0x03 ∷ []) ++ (codes "Book1.xls")) ∷
    ((0x01 ∷ []) ++ (0x01 ∷ []) ++ (codes "zBook1.xls")) ∷ ((0x01 ∷ []) ++ (0x01 ∷ []) ++ (codes "@server") ++ (0x03 ∷ []) ++ (codes "share") ++ (0x03 ∷ []) ++ (codes "Book1.xls")) ∷
    ((0x01 ∷ []) ++ (0x02 ∷ []) ++ (codes "dir") ++ (0x03 ∷ []) ++ (codes "Book1.xls")) ∷ ((0x01 ∷ []) ++ (0x02 ∷ []) ++ (codes "Book1.xls")) ∷
    ((0x01 ∷ []) ++ (0x05 ∷ []) ++ (0x1C ∷ []) ++ (codes "http://a.b/c/Book1.xls")) ∷ ((0x01 ∷ []) ++ (0x05 ∷ []) ++ (0x03 ∷ []) ++ (codes "ftp://a/b\\c.xls")) ∷
    ((0x01 ∷ []) ++ (0x05 ∷ []) ++ (0x03 ∷ [])) ∷ ((0x01 ∷ []) ++ (0x05 ∷ [])) ∷
    ((0x01 ∷ []) ++ (0x06 ∷ []) ++ (codes "Book1.xls")) ∷ ((0x01 ∷ []) ++ (0x07 ∷ []) ++ (codes "dir") ++ (0x03 ∷ []) ++ (codes "Book1.xls")) ∷
    ((0x01 ∷ []) ++ (0x08 ∷ []) ++ (codes "Book1.xls")) ∷ ((0x01 ∷ []) ++ (codes "a/b.xls")) ∷
    ((0x01 ∷ []) ++ (codes "dir") ++ (0x03 ∷ []) ++ (codes "a/b.xls")) ∷ ((0x01 ∷ []) ++ (0x01 ∷ []) ++ (codes "Ca/b.xls")) ∷
    ((0x01 ∷ []) ++ (codes "dir") ++ (0x03 ∷ [])) ∷ []
    ) ≡ (
    ([], []) ∷ ([], codes "Book1.xls") ∷
    (codes "C:\\a\\", codes "Book1.xls") ∷ (codes "a/", codes "b.xls") ∷
    (codes "a\\b/", codes "c.xls") ∷ ([], []) ∷
    ([], codes "Book1.xls") ∷ (codes "a\\", codes "b.xls") ∷
    ([], codes "Book1.xls") ∷ ([], []) ∷
    (codes "dir\\", codes "Book1.xls") ∷ (codes "..\\", codes "Book1.xls") ∷
    (codes "..\\..\\dir\\", codes "Book1.xls") ∷ (codes "C:\\dir\\a b\\", codes "Book1.xls") ∷
    (codes "z:\\", codes "Book1.xls") ∷ (codes "\\\\server\\share\\", codes "Book1.xls") ∷
    (codes "\\dir\\", codes "Book1.xls") ∷ (codes "\\", codes "Book1.xls") ∷
    (codes "http://a.b/c/", codes "Book1.xls") ∷ (codes "ftp://a/b\\", codes "c.xls") ∷
    ([], []) ∷ ([], []) ∷
    ([], codes "Book1.xls") ∷ (codes "dir\\", codes "Book1.xls") ∷
    ([], codes "Book1.xls") ∷ (codes "a/", codes "b.xls") ∷
    (codes "dir\\", codes "a/b.xls") ∷ (codes "C:\\", codes "a/b.xls") ∷
    (codes "dir\\", []) ∷ []
    )
known_paths = refl

-- 01 before what is no letter, 02 and 09 elsewhere stand for themselves
pub known_others : map decoded (
    ((0x01 ∷ []) ++ (0x01 ∷ []) ++ (codes "1a")) ∷ ((0x01 ∷ []) ++ (0x01 ∷ [])) ∷ ((0x01 ∷ []) ++ (0x09 ∷ []) ++ (codes "a")) ∷ ((0x01 ∷ []) ++ (codes "a") ++ (0x02 ∷ []) ++ (codes "b")) ∷ ((0x01 ∷ []) ++ (0x01 ∷ []) ++ (0x01 ∷ []) ++ (codes "a")) ∷ ((0x01 ∷ []) ++ (0x01 ∷ []) ++ (codes "[a")) ∷ [])
    ≡ ((0x01 ∷ []) ++ (codes "1a")) ∷ ((0x01 ∷ [])) ∷ ((0x09 ∷ []) ++ (codes "a")) ∷ ((codes "a") ++ (0x02 ∷ []) ++ (codes "b")) ∷ ((0x01 ∷ []) ++ (0x01 ∷ []) ++ (codes "a")) ∷ ((0x01 ∷ []) ++ (codes "[a")) ∷ []
known_others = refl

-- each character below 0B behind 01, and `a` behind it
pub known_signs : map (λ c. decoded (1 ∷ c ∷ codes "a")) (0 ∷ 1 ∷ 2 ∷ 3 ∷ 4 ∷ 5 ∷ 6 ∷ 7 ∷ 8 ∷ 9 ∷ 10 ∷ [])
    ≡ (0 ∷ codes "a") ∷ codes "a:\\" ∷ codes "\\a" ∷ codes "\\a" ∷ codes "..\\a" ∷ [] ∷ codes "a" ∷ codes "a" ∷ codes "a" ∷ (9 ∷ codes "a") ∷ (10 ∷ codes "a") ∷ []
known_signs = refl

-- n characters from c on
abbrev characters : ℕ → ℕ → List ℕ
characters zero c = []
characters (suc n) c = c ∷ characters n (c + 1)

abbrev is_drive : Start → Bool
is_drive (Drive letter) = true
is_drive other = false

-- the letters of drives
pub known_drives : filter (λ c. is_drive (start_of (1 ∷ 1 ∷ c ∷ [])).0) (characters 256 0) ≡ codes "ABCDEFGHIJKLMNOPQRSTUVWXYZabcdefghijklmnopqrstuvwxyz"
known_drives = refl
