-- Known values of the grammar, so that a wrong rule in the definitions does not check.
use Rattle.std.proofs.Common.{◌≡◌, ℕ, true, false, List, [], ◌∷◌, ◌++◌, map, replicate, refl, codes, Some, None, pos, negsuc}
use Rattle.std.specs.Float.{fin}
use Rattle.std.proofs.lemmas.Float.Parse.{parse_float_on_literals}
use Rattle.xls_number_formats.specs.declared.items.Place.TheVariants.{Zero, Hash, Question}
use Rattle.xls_number_formats.specs.declared.items.Letter.TheVariants.{Y, M, D, H, S, E, B, G}
use Rattle.xls_number_formats.specs.declared.items.Comparison.TheVariants.{Below, Above, Same, AtMost, AtLeast, Other}
use Rattle.xls_number_formats.specs.declared.items.Item.{Item}
use Rattle.xls_number_formats.specs.declared.items.Item.TheVariants as item
use Rattle.xls_number_formats.specs.Grammar.{head_of, items, after_section, bracket_token, condition_in, elapsed_in, is_number_char}

-- each ASCII character from the space on
abbrev pub ascii : List ℕ
ascii = codes " !\"#$%&'()*+,-./0123456789:;<=>?@ABCDEFGHIJKLMNOPQRSTUVWXYZ[\\]^_`abcdefghijklmnopqrstuvwxyz{|}~"

-- the items of the 26 letters
abbrev pub letters_alone : List Item
letters_alone = item.Literal ∷ item.Letters B ∷ item.Literal ∷ item.Letters D ∷ item.Letters E ∷ item.Literal ∷ item.Letters G ∷ item.Letters H ∷ []
    ++ replicate 4 item.Literal ++ item.Letters M ∷ replicate 5 item.Literal ++ item.Letters S ∷ replicate 5 item.Literal ++ item.Letters Y ∷ item.Literal ∷ []

-- the item that each is, alone
pub known_singles : map (λ c. (head_of true c []).item) ascii
    ≡ replicate 3 item.Literal ++ item.Place Hash ∷ item.Literal ∷ item.Percent ∷ replicate 6 item.Literal ++ item.Comma ∷ item.Literal ∷ item.Point ∷ item.Slash
    ∷ item.Place Zero ∷ replicate 9 item.Digit ++ replicate 5 item.Literal ++ item.Place Question ∷ item.Text ∷ letters_alone ++ replicate 6 item.Literal ++ letters_alone ++ replicate 4 item.Literal
known_singles = refl

-- the text of each, alone: nothing of a quote, a backslash and a star, a blank of `_`
pub known_single_texts : map (λ c. (head_of true c []).text) ascii
    ≡ codes " " ∷ codes "!" ∷ [] ∷ map (λ c. c ∷ []) (codes "#$%&'()") ++ [] ∷ map (λ c. c ∷ []) (codes "+,-./0123456789:;<=>?@ABCDEFGHIJKLMNOPQRSTUVWXYZ[")
    ++ [] ∷ map (λ c. c ∷ []) (codes "]^") ++ codes " " ∷ map (λ c. c ∷ []) (codes "`abcdefghijklmnopqrstuvwxyz{|}~")
known_single_texts = refl

-- quotes, escapes, blanks, what is left out; each alternative before the later ones, at the end of the code too
pub known_literals : items (codes "\"a;b\"\\;_)*-x\"c") ≡ (item.Literal, codes "a;b") ∷ (item.Literal, codes ";") ∷ (item.Literal, codes " ") ∷ (item.Literal, []) ∷ (item.Literal, codes "x") ∷ (item.Literal, codes "c") ∷ []
known_literals = refl

pub known_cut_literals : map items (codes "\"" ∷ codes "\\" ∷ codes "_" ∷ codes "*" ∷ codes "[h" ∷ [])
    ≡ ((item.Literal, []) ∷ []) ∷ ((item.Literal, []) ∷ []) ∷ ((item.Literal, codes " ") ∷ []) ∷ ((item.Literal, []) ∷ []) ∷ ((item.Literal, codes "[") ∷ (item.Letters H, codes "h") ∷ []) ∷ []
known_cut_literals = refl

-- words in any case, before letters; a word that isn't whole
pub known_words : items (codes "gEnErAlAm/pMA/paM/p") ≡ (item.General, codes "gEnErAl") ∷ (item.AmPm, codes "Am/pM") ∷ (item.AP, codes "A/p")
    ∷ (item.Literal, codes "a") ∷ (item.Letters M, codes "M") ∷ (item.Slash, codes "/") ∷ (item.Literal, codes "p") ∷ []
known_words = refl

pub known_half_words : items (codes "Genera") ≡ (item.Letters G, codes "G") ∷ (item.Letters E, codes "e") ∷ (item.Literal, codes "n") ∷ (item.Letters E, codes "e") ∷ (item.Literal, codes "r") ∷ (item.Literal, codes "a") ∷ []
known_half_words = refl

-- the longest run of each letter
pub known_runs : items (codes "yYymMdDdhHssEebBBgG")
    ≡ (item.Letters Y, codes "yYy") ∷ (item.Letters M, codes "mM") ∷ (item.Letters D, codes "dDd") ∷ (item.Letters H, codes "hH") ∷ (item.Letters S, codes "ss") ∷ (item.Letters E, codes "Ee") ∷ (item.Letters B, codes "bBB") ∷ (item.Letters G, codes "gG") ∷ []
known_runs = refl

-- an exponent behind a place, in its own section; without one a letter and a literal
pub known_exponents : items (codes "0e+0E-e") ≡ (item.Place Zero, codes "0") ∷ (item.Exponent true, codes "e+") ∷ (item.Place Zero, codes "0") ∷ (item.Exponent false, codes "E-") ∷ (item.Letters E, codes "e") ∷ []
known_exponents = refl

pub known_no_exponents : items (codes "E+0") ≡ (item.Letters E, codes "E") ∷ (item.Literal, codes "+") ∷ (item.Place Zero, codes "0") ∷ []
known_no_exponents = refl

pub known_places : map items (codes "0e+" ∷ codes "#e+" ∷ codes "?e+" ∷ codes "1e+" ∷ [])
    ≡ ((item.Place Zero, codes "0") ∷ (item.Exponent true, codes "e+") ∷ []) ∷ ((item.Place Hash, codes "#") ∷ (item.Exponent true, codes "e+") ∷ [])
    ∷ ((item.Place Question, codes "?") ∷ (item.Exponent true, codes "e+") ∷ []) ∷ ((item.Digit, codes "1") ∷ (item.Letters E, codes "e") ∷ (item.Literal, codes "+") ∷ []) ∷ []
known_places = refl

-- a `;` ends a section where it is no part of an item
pub known_ends : map after_section (codes "0;1" ∷ codes "0" ∷ codes ";" ∷ codes "\";\";x" ∷ codes "\\;;_;;" ∷ codes "*;[;];y" ∷ codes "\"0;1" ∷ codes "[;0" ∷ codes "0E;" ∷ [])
    ≡ Some (codes "1") ∷ None ∷ Some [] ∷ Some (codes "x") ∷ Some (codes "_;;") ∷ Some (codes "y") ∷ None ∷ Some (codes "0") ∷ Some [] ∷ []
known_ends = refl

-- ---- brackets

pub known_brackets : map bracket_token (codes "h" ∷ codes "HH" ∷ codes "mM" ∷ codes "sss" ∷ codes "hm" ∷ codes "d" ∷ codes "" ∷ codes "Red" ∷ codes "DBNum1" ∷ codes "$-409" ∷ codes "$EUR-409" ∷ codes "$$" ∷ codes "$" ∷ codes "$-a-b" ∷ codes "$kr-x-y" ∷ [])
    ≡ (item.Elapsed H, codes "h") ∷ (item.Elapsed H, codes "HH") ∷ (item.Elapsed M, codes "mM") ∷ (item.Elapsed S, codes "sss") ∷ replicate 6 (item.Hidden, [])
    ++ (item.Literal, codes "EUR") ∷ (item.Literal, codes "$") ∷ (item.Hidden, []) ∷ (item.Hidden, []) ∷ (item.Literal, codes "kr") ∷ []
known_brackets = refl

-- each comparison, blanks, signs, points and exponents
pub known_comparisons : map condition_in (codes "<1" ∷ codes ">1" ∷ codes "=1" ∷ codes "<=1" ∷ codes ">=1" ∷ codes "<>1" ∷ [])
    ≡ map (λ c. Some (record { comparison = c; bound = fin false 1 (pos 0) })) (Below ∷ Above ∷ Same ∷ AtMost ∷ AtLeast ∷ Other ∷ [])
unfolding parse_float_on_literals
known_comparisons = refl

pub known_bounds : map condition_in (codes "<  1.5 " ∷ codes "<-.5" ∷ codes "<+5e-1" ∷ codes "<3." ∷ codes "<1E1" ∷ [])
    ≡ map (λ x. Some (record { comparison = Below; bound = x })) (fin false 3 (negsuc 0) ∷ fin true 1 (negsuc 0) ∷ fin false 1 (negsuc 0) ∷ fin false 3 (pos 0) ∷ fin false 5 (pos 1) ∷ [])
unfolding parse_float_on_literals
known_bounds = refl

-- no condition: no number, words, more than one, blanks before the comparison, comparisons that aren't there
pub known_no_conditions : map condition_in (codes "<" ∷ codes "<inf" ∷ codes "<nan" ∷ codes "<1 2" ∷ codes " <1" ∷ codes "==1" ∷ codes "=<1" ∷ codes "><1" ∷ codes "<1x" ∷ codes "<1e" ∷ codes "<." ∷ codes "<- 1" ∷ codes "1" ∷ codes "" ∷ [])
    ≡ replicate 14 None
unfolding parse_float_on_literals
known_no_conditions = refl

-- ---- the rest of the tables

-- control characters, the last one of ASCII and others stand for themselves
abbrev pub others : List ℕ
others = 0 ∷ 1 ∷ 2 ∷ 3 ∷ 4 ∷ 5 ∷ 6 ∷ 7 ∷ 8 ∷ 9 ∷ 10 ∷ 11 ∷ 12 ∷ 13 ∷ 14 ∷ 15 ∷ 16 ∷ 17 ∷ 18 ∷ 19 ∷ 20 ∷ 21 ∷ 22 ∷ 23 ∷ 24 ∷ 25 ∷ 26 ∷ 27 ∷ 28 ∷ 29 ∷ 30 ∷ 31 ∷ 127 ∷ 160 ∷ 0x20AC ∷ 0x1F600 ∷ []

pub known_other_characters : map (λ c. head_of true c []) others ≡ map (λ c. record { item = item.Literal; text = c ∷ []; more = 0 }) others
known_other_characters = refl

-- alone, none is another item where the section has had no place
pub known_unplaced : map (λ c. head_of false c []) ascii ≡ map (λ c. head_of true c []) ascii
known_unplaced = refl

-- the letters of elapsed time are those of hours, minutes and seconds, in both cases
pub known_elapsed_letters : map (λ c. elapsed_in (c ∷ [])) ascii
    ≡ replicate 40 None ++ Some H ∷ replicate 4 None ++ Some M ∷ replicate 5 None ++ Some S ∷ replicate 20 None ++ Some H ∷ replicate 4 None ++ Some M ∷ replicate 5 None ++ Some S ∷ replicate 11 None
known_elapsed_letters = refl

-- the characters of decimal numbers: + - . the digits E e
pub known_number_characters : map is_number_char ascii
    ≡ replicate 11 false ++ true ∷ false ∷ true ∷ true ∷ false ∷ replicate 10 true ++ replicate 11 false ++ true ∷ replicate 31 false ++ true ∷ replicate 25 false
known_number_characters = refl
