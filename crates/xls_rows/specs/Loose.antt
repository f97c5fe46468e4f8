-- A cell as a whole number, if it can be taken for one, or else as its text.
use Rattle.std.specs.Prelude.{◌≡◌, ℕ, ℤ, List, Option, Some, None, Result, Ok, Err, IsErrAnd, String}
use Rattle.std.specs.String.{string_bytes}
use Rattle.std.specs.declared.alloc.Global.{Global}
use Rattle.xls_data.specs.Content.{Content}
use Rattle.xls_data.specs.Kinds.{IsWholeOf}
use Rattle.xls_rows.specs.Refusals.{Refusal}
use Rattle.xls_rows.specs.Readers.{data_in}
use Rattle.xls_rows.specs.Texts.{printed}

-- o is the whole number that what was read is taken for; None for a refusal
abbrev pub IsWholeRead : Result Content Refusal → Option ℤ → Type 0
IsWholeRead (Ok c) o = IsWholeOf c o
IsWholeRead (Err r) o = o ≡ None

-- o is the whole number that a cell is taken for; None for an error cell
abbrev pub IsLooseWhole : Content → Option ℤ → Type 0
IsLooseWhole c o = IsWholeRead (data_in (0, 0) c) o

-- the whole number, or the text where there is none
abbrev pub IsWholeOrText : List ℕ → Option ℤ → Result ℤ (String Global) → Type 0
IsWholeOrText bytes (Some n) r = r ≡ Ok n
IsWholeOrText bytes None r = IsErrAnd r (λ s. string_bytes s ≡ bytes)

-- the whole number that a cell is taken for, or its printed text
pub record IsWholeElseText (c : Content) (r : Result ℤ (String Global)) : Type 0 where
  pub found : Option ℤ
  pub is : IsLooseWhole c found
  pub answer : IsWholeOrText (printed c) found r
