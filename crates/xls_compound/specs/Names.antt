-- How names are compared ([MS-CFB] 2.6.4): character by character, whatever their case, by the simple
-- case folding of Unicode. A name is the list of its bytes in UTF-8.
use Rattle.std.specs.Prelude.{ℕ, List, map, Bool}
use Rattle.std.specs.Str.{bytes_eq, chars}
use Rattle.ucd_case.specs.CaseFolding.{simple_fold}

abbrev pub folded : List ℕ → List ℕ
folded name = map simple_fold (chars name)

abbrev pub is_same_name : List ℕ → List ℕ → Bool
is_same_name one other = bytes_eq (folded one) (folded other)
