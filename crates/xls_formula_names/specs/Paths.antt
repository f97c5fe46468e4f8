-- The path of another workbook, as a SupBook or an ExternSheet record has it ([MS-XLS] VirtualPath), and the folder and the file that it
-- names. Without 01 in front it stands for itself. Where a letter is wanted and another character comes, 01 stands for itself too, which is
-- this project's rule. Texts are lists of characters.
use Rattle.std.specs.Prelude.{ℕ, Bool, true, false, not, ◌&&◌, ◌||◌, ◌==◌, List, [], ◌∷◌, ◌++◌, drop, if◌then◌else◌, codes}
use Rattle.std.specs.Char.{is_ascii_alphabetic}
use Rattle.std.specs.List.{flat_map, list_any}
use Rattle.xls_formula_names.specs.Quotes.{is_within}
use Rattle.xls_formula_names.specs.declared.starts.Start.{Start}
use Rattle.xls_formula_names.specs.declared.starts.Start.TheVariants.{Plain, Share, Drive, Root, Web, Relative}

-- ---- What a path begins with, and what follows it

-- behind 01 01: `@` or the letter of a drive
abbrev pub volume_of : List ℕ → Start × List ℕ
volume_of [] = (Relative, 1 ∷ [])
volume_of (c ∷ cs) =
    if c == 0x40 then (Share, cs) else if is_ascii_alphabetic c then (Drive c, cs) else (Relative, 1 ∷ c ∷ cs)

-- behind 01: a volume, 02 for the root of this one, 05 and a count before an address, 06 to 08 for folders of Excel
abbrev pub encoded_of : List ℕ → Start × List ℕ
encoded_of [] = (Relative, [])
encoded_of (c ∷ cs) =
    if c == 1 then volume_of cs else if c == 2 then (Root, cs) else if c == 5 then (Web, drop 1 cs)
    else if is_within 6 8 c then (Relative, cs) else (Relative, c ∷ cs)

-- a 00 in front is dropped
abbrev pub start_of : List ℕ → Start × List ℕ
start_of [] = (Plain, [])
start_of (c ∷ cs) = if c == 0 then (Plain, cs) else if c == 1 then encoded_of cs else (Plain, c ∷ cs)

-- ---- The text of a path

abbrev pub start_text : Start → List ℕ
start_text Share = codes "\\\\"
start_text (Drive letter) = letter ∷ codes ":\\"
start_text Root = codes "\\"
start_text other = []

-- behind these each character stands for itself, and `/` parts folders too
abbrev pub is_literal : Start → Bool
is_literal Plain = true
is_literal Web = true
is_literal other = false

-- elsewhere 03 parts folders, and 04 is the folder above
abbrev pub spelled_one : ℕ → List ℕ
spelled_one c = if c == 3 then codes "\\" else if c == 4 then codes "..\\" else c ∷ []

abbrev pub spelled : Bool → List ℕ → List ℕ
spelled literal cs = if literal then cs else flat_map spelled_one cs

abbrev pub text_after : Start × List ℕ → List ℕ
text_after (start, cs) = start_text start ++ spelled (is_literal start) cs

abbrev pub decoded : List ℕ → List ℕ
decoded path = text_after (start_of path)

-- ---- The folder, and the file behind its last separator

abbrev pub is_separator : Bool → ℕ → Bool
is_separator slashes c = (c == 0x5C) || (slashes && (c == 0x2F))

abbrev pub first_to : ℕ → List ℕ × List ℕ → List ℕ × List ℕ
first_to c (dir, file) = (c ∷ dir, file)

-- a text without a separator is a file, and before one all belongs to the folder
abbrev pub split : Bool → List ℕ → List ℕ × List ℕ
split slashes [] = ([], [])
split slashes (c ∷ cs) =
    if list_any (is_separator slashes) (c ∷ cs) then first_to c (split slashes cs) else ([], c ∷ cs)

-- `/` counts in a text that stands for itself, and where there is no `\`
abbrev pub has_slashes : Start → List ℕ → Bool
has_slashes start text = is_literal start || not (list_any (is_separator false) text)

abbrev pub split_after : Start × List ℕ → List ℕ × List ℕ
split_after s = split (has_slashes s.0 (text_after s)) (text_after s)

-- the folder and the file of a path
abbrev pub path_of : List ℕ → List ℕ × List ℕ
path_of path = split_after (start_of path)
