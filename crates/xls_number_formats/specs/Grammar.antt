-- The items of a number format's code. [MS-XLS] Format 2.4.126 has the code as a text, ECMA-376 part 1,
-- 18.8.31, what stands in it; what it leaves open is this project's rule. Texts are lists of characters.
--
--     section  = { item }                                             sections stand apart by ;
--     item     = '"' { any but '"' } ( '"' | end )                    literal
--              | "\" [ any ] | "_" [ any ] | "*" [ any ]              literal: any, one blank, nothing
--              | "[" { any but "]" } "]"                              bracket
--              | ( "E" | "e" ) ( "+" | "-" )                          exponent, behind a place
--              | "General" | "AM/PM" | "A/P"                          in any case of letters
--              | run of one letter of y m d h s e b g                 in any case, the longest run
--              | "0" | "#" | "?" | "." | "," | "%" | "/" | "@" | "1" .. "9"
--              | any                                                  literal: it stands for itself
--
-- Of alternatives that fit, the first counts.
use Rattle.std.specs.Prelude.{ℕ, zero, suc, ◌+◌, Bool, true, false, ◌&&◌, ◌||◌, List, [], ◌∷◌, length, take, drop, ◌==◌, nat_le, if◌then◌else◌, codes, Option, Some, None}
use Rattle.std.specs.Char.{to_ascii_lowercase}
use Rattle.std.specs.Float.{binary64, Float}
use Rattle.std.specs.Float.Parse.{begins_with, parse_float}
use Rattle.std.specs.List.{list_any, list_all, before_first, after_first}
use Rattle.std.specs.Option.{option_map}
use Rattle.xls_bytes.specs.Characters.{is}
use Rattle.xls_number_formats.specs.declared.items.Place.TheVariants as place
use Rattle.xls_number_formats.specs.declared.items.Letter.{Letter}
use Rattle.xls_number_formats.specs.declared.items.Letter.TheVariants as letter
use Rattle.xls_number_formats.specs.declared.items.Comparison.{Comparison}
use Rattle.xls_number_formats.specs.declared.items.Comparison.TheVariants as comparison
use Rattle.xls_number_formats.specs.declared.items.Condition.{Condition}
use Rattle.xls_number_formats.specs.declared.items.Item.{Item}
use Rattle.xls_number_formats.specs.declared.items.Item.TheVariants as item

-- an item, and the text that it shows where it stands for itself
abbrev pub Token : Type 0
Token = Item × List ℕ

-- ---- brackets

-- without the blanks at the beginning
abbrev pub after_blanks : List ℕ → List ℕ
after_blanks [] = []
after_blanks (c ∷ cs) = if c == 32 then after_blanks cs else c ∷ cs

-- a comparison at the beginning, and what follows it
abbrev pub comparison_at : List ℕ → Option (Comparison × List ℕ)
comparison_at cs =
    if begins_with cs (codes "<=") then Some (comparison.AtMost, drop 2 cs)
    else if begins_with cs (codes ">=") then Some (comparison.AtLeast, drop 2 cs)
    else if begins_with cs (codes "<>") then Some (comparison.Other, drop 2 cs)
    else if begins_with cs (codes "<") then Some (comparison.Below, drop 1 cs)
    else if begins_with cs (codes ">") then Some (comparison.Above, drop 1 cs)
    else if begins_with cs (codes "=") then Some (comparison.Same, drop 1 cs)
    else None

-- digits, a point, a sign, the letter of an exponent
abbrev pub is_number_char : ℕ → Bool
is_number_char c =
    (nat_le 48 c && nat_le c 57) || (c == 46) || (c == 43) || (c == 45) || (c == 69) || (c == 101)

-- the double nearest to a decimal number
abbrev pub number_of : List ℕ → Option Float
number_of cs = if list_all is_number_char cs then parse_float binary64 cs else None

-- that of a decimal number with blanks behind it
abbrev pub number_in : List ℕ → Option Float
number_in cs =
    if list_all (is 32) (after_first (is 32) cs) then number_of (before_first (is 32) cs) else None

-- a comparison, blanks, a decimal number, blanks
abbrev pub compared_with : Option (Comparison × List ℕ) → Option Condition
compared_with None = None
compared_with (Some (comparison, cs)) =
    option_map (λ bound. record { comparison = comparison; bound = bound }) (number_in (after_blanks cs))

abbrev pub condition_in : List ℕ → Option Condition
condition_in cs = compared_with (comparison_at cs)

-- the letters of hours, minutes and seconds
abbrev pub clock_letter_of : ℕ → Option Letter
clock_letter_of c =
    if c == 104 then Some letter.H else if c == 109 then Some letter.M
    else if c == 115 then Some letter.S else None

-- one of them, once or more, in any case
abbrev pub elapsed_in : List ℕ → Option Letter
elapsed_in [] = None
elapsed_in (c ∷ cs) =
    if list_all (λ d. to_ascii_lowercase d == to_ascii_lowercase c) cs
    then clock_letter_of (to_ascii_lowercase c) else None

-- a symbol, which ends before the first `-`
abbrev pub symbol_token : List ℕ → Token
symbol_token [] = (item.Hidden, [])
symbol_token (c ∷ cs) = (item.Literal, c ∷ cs)

abbrev pub condition_token : Option Condition → Token
condition_token (Some condition) = (item.Condition condition, [])
condition_token None = (item.Hidden, [])

abbrev pub elapsed_token : Option Letter → List ℕ → Token
elapsed_token (Some letter) cs = (item.Elapsed letter, cs)
elapsed_token None cs = condition_token (condition_in cs)

-- what stands in a bracket
abbrev pub bracket_token : List ℕ → Token
bracket_token [] = (item.Hidden, [])
bracket_token (c ∷ cs) =
    if c == 36 then symbol_token (before_first (is 45) cs)
    else elapsed_token (elapsed_in (c ∷ cs)) (c ∷ cs)

-- ---- items

-- the first item of a code, its text, and how many characters behind its first belong to it
pub record Head : Type 0 where
  pub item : Item
  pub text : List ℕ
  pub more : ℕ

abbrev pub head : Item → List ℕ → ℕ → Head
head item text more = record { item = item; text = text; more = more }

abbrev pub bracket_head : List ℕ → Head
bracket_head inside =
    head ((bracket_token inside).0) ((bracket_token inside).1) (length inside + 1)

-- a run of one letter, in any case
abbrev pub run_of : ℕ → List ℕ → List ℕ
run_of letter [] = []
run_of letter (c ∷ cs) = if to_ascii_lowercase c == letter then c ∷ run_of letter cs else []

-- the letters of dates, in lower case
abbrev pub letter_of : ℕ → Option Letter
letter_of c =
    if c == 121 then Some letter.Y else if c == 109 then Some letter.M
    else if c == 100 then Some letter.D else if c == 104 then Some letter.H
    else if c == 115 then Some letter.S else if c == 101 then Some letter.E
    else if c == 98 then Some letter.B else if c == 103 then Some letter.G else None

-- an item of one character
abbrev pub single_of : ℕ → Item
single_of c =
    if c == 48 then item.Place place.Zero else if c == 35 then item.Place place.Hash
    else if c == 63 then item.Place place.Question else if c == 46 then item.Point
    else if c == 44 then item.Comma else if c == 37 then item.Percent
    else if c == 47 then item.Slash else if c == 64 then item.Text
    else if nat_le 49 c && nat_le c 57 then item.Digit else item.Literal

abbrev pub lettered_head : Option Letter → ℕ → List ℕ → Head
lettered_head (Some letter) c cs =
    head (item.Letters letter) (c ∷ run_of (to_ascii_lowercase c) cs) (length (run_of (to_ascii_lowercase c) cs))
lettered_head None c cs = head (single_of c) (c ∷ []) 0

-- a word at the beginning, and how many characters it has behind the first
abbrev pub word_at : List ℕ → Option (Item × ℕ)
word_at cs =
    if begins_with cs (codes "general") then Some (item.General, 6)
    else if begins_with cs (codes "am/pm") then Some (item.AmPm, 4)
    else if begins_with cs (codes "a/p") then Some (item.AP, 2) else None

abbrev pub worded_head : Option (Item × ℕ) → ℕ → List ℕ → Head
worded_head (Some (item, more)) c cs = head item (c ∷ take more cs) more
worded_head None c cs = lettered_head (letter_of (to_ascii_lowercase c)) c cs

-- `E` or `e` and a sign
abbrev pub is_exponent : ℕ → List ℕ → Bool
is_exponent c cs =
    (to_ascii_lowercase c == 101) && (begins_with cs (codes "+") || begins_with cs (codes "-"))

abbrev pub exponent_head : ℕ → List ℕ → Head
exponent_head c cs = head (item.Exponent (begins_with cs (codes "+"))) (c ∷ take 1 cs) 1

-- quoted text, which the end of the code ends too
abbrev pub quoted_head : List ℕ → Head
quoted_head cs = head item.Literal (before_first (is 34) cs) (length (before_first (is 34) cs) + 1)

-- an item that is no bracket; whether the section has a place before it
abbrev pub unbracketed_head : Bool → ℕ → List ℕ → Head
unbracketed_head placed c cs =
    if c == 34 then quoted_head cs
    else if c == 92 then head item.Literal (take 1 cs) 1
    else if c == 95 then head item.Literal (codes " ") 1
    else if c == 42 then head item.Literal [] 1
    else if placed && is_exponent c cs then exponent_head c cs
    else worded_head (word_at (c ∷ cs)) c cs

abbrev pub head_of : Bool → ℕ → List ℕ → Head
head_of placed c cs =
    if (c == 91) && list_any (is 93) cs then bracket_head (before_first (is 93) cs)
    else unbracketed_head placed c cs

abbrev pub is_place : Item → Bool
is_place (item.Place place) = true
is_place other = false

-- the items of a section, which ends before a `;`: so many characters belong to an item before, and
-- whether the section has had a place
abbrev pub items_from : ℕ → Bool → List ℕ → List Token
items_from more placed [] = []
items_from (suc more) placed (c ∷ cs) = items_from more placed cs
items_from zero placed (c ∷ cs) =
    let first = head_of placed c cs in
    if c == 59 then []
    else (first.item, first.text) ∷ items_from first.more (placed || is_place first.item) cs

-- what follows the `;` behind it
abbrev pub after_from : ℕ → Bool → List ℕ → Option (List ℕ)
after_from more placed [] = None
after_from (suc more) placed (c ∷ cs) = after_from more placed cs
after_from zero placed (c ∷ cs) =
    let first = head_of placed c cs in
    if c == 59 then Some cs else after_from first.more (placed || is_place first.item) cs

-- the items of the first section of a code, and what follows it
abbrev pub items : List ℕ → List Token
items cs = items_from 0 false cs

abbrev pub after_section : List ℕ → Option (List ℕ)
after_section cs = after_from 0 false cs
