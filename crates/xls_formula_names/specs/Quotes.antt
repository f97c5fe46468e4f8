-- Which names of sheets and files stand between apostrophes in the text of a formula. ECMA-376 part 1, 18.17.2, has the grammar: a
-- name that could be read as something else is quoted. Which characters of Unicode count as signs, and that numbers may begin with
-- zeros, is this project's rule. Names are lists of characters.
use Rattle.std.specs.Prelude.{ℕ, ◌+◌, ◌-◌, ◌*◌, Bool, true, false, not, ◌&&◌, ◌||◌, ◌==◌, List, [], ◌∷◌, if◌then◌else◌, codes, nat_le, nat_lt}
use Rattle.std.specs.Char.{is_ascii_alphabetic, is_ascii_alphanumeric, is_ascii_digit, to_ascii_uppercase}
use Rattle.std.specs.List.{list_all, list_any}
use Rattle.xls_formula_names.specs.declared.signs.TheConstants.{SIGNS}

abbrev pub is_within : ℕ → ℕ → ℕ → Bool
is_within first last n = nat_le first n && nat_le n last

-- ---- 1. Nothing, or a digit or a point at the beginning

abbrev pub begins_badly : List ℕ → Bool
begins_badly [] = true
begins_badly (c ∷ cs) = is_ascii_digit c || (c == 0x2E)

-- ---- 2. Signs and blanks

-- one of the ranges has the character
abbrev pub is_in : List (ℕ × ℕ) → ℕ → Bool
is_in ranges c = list_any (λ range. is_within range.0 range.1 c) ranges

-- outside of ASCII: those of the table
abbrev pub is_listed : ℕ → Bool
is_listed c = is_in SIGNS c

-- in ASCII: any other than letters, digits, `_` and `.`
abbrev pub is_sign : ℕ → Bool
is_sign c = if nat_lt c 0x80 then not (is_ascii_alphanumeric c || (c == 0x5F) || (c == 0x2E)) else is_listed c

-- ---- 3. Cells such as A1: 256 columns and 65,536 rows

-- the number whose digits go on with those at the beginning of a text, up to the last one
abbrev pub number_at : ℕ → List ℕ → ℕ
number_at n [] = n
number_at n (c ∷ cs) = if is_ascii_digit c then number_at (10 * n + (c - 0x30)) cs else n

-- digits alone, and a row
abbrev pub is_row : List ℕ → Bool
is_row cs = list_all is_ascii_digit cs && is_within 1 65_536 (number_at 0 cs)

-- letters, where A counts 1 and Z 26, that go on from a number to one of a column, and then a row
abbrev pub is_cell : ℕ → List ℕ → Bool
is_cell n [] = false
is_cell n (c ∷ cs) =
    if is_ascii_alphabetic c then is_cell (26 * n + (to_ascii_uppercase c - 0x40)) cs
    else is_within 1 256 n && is_row (c ∷ cs)

-- ---- 4. Cells such as R1C1

-- nothing, or a number from 1 on at the beginning
abbrev pub is_place : ℕ → List ℕ → Bool
is_place last [] = true
is_place last (c ∷ cs) = is_within 1 last (number_at 0 (c ∷ cs))

-- C alone, or C and a column's number
abbrev pub begins_column : List ℕ → Bool
begins_column [] = false
begins_column (c ∷ cs) = (to_ascii_uppercase c == 0x43) && is_place 256 cs

-- R alone, R and a row's number, or R and a column
abbrev pub begins_row : List ℕ → Bool
begins_row [] = false
begins_row (c ∷ cs) = (to_ascii_uppercase c == 0x52) && (is_place 65_536 cs || begins_column cs)

abbrev pub is_r1c1 : List ℕ → Bool
is_r1c1 cs = begins_row cs || begins_column cs

-- ---- 5. TRUE and FALSE

-- a word in upper case, in any case of its letters
abbrev pub is_word : List ℕ → List ℕ → Bool
is_word [] [] = true
is_word [] (c ∷ cs) = false
is_word (letter ∷ letters) [] = false
is_word (letter ∷ letters) (c ∷ cs) = (to_ascii_uppercase c == letter) && is_word letters cs

abbrev pub is_truth : List ℕ → Bool
is_truth cs = is_word (codes "TRUE") cs || is_word (codes "FALSE") cs

-- ---- A name needs quotes by any of these

abbrev pub needs_quotes : List ℕ → Bool
needs_quotes cs = begins_badly cs || list_any is_sign cs || is_cell 0 cs || is_r1c1 cs || is_truth cs
