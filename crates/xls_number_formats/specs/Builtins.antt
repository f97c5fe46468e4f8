-- The codes of the built-in number formats, by their identifiers (ECMA-376 part 1, 18.8.30), as Excel
-- has them for the United States. Those that depend on the country are 5 to 8, 14, 22 and 41 to 44, by
-- its currency and its short date, and 27 to 36 and 50 to 58, which are dates and times of Chinese,
-- Japanese, Korean and Thai, shown as short ones.
use Rattle.std.specs.Prelude.{ℕ, nat_le, ◌==◌, ◌&&◌, ◌||◌, Bool, if◌then◌else◌, List, Option, Some, None, codes}

abbrev pub between : ℕ → ℕ → ℕ → Bool
between low high n = nat_le low n && nat_le n high

abbrev pub number_code : ℕ → Option (List ℕ)
number_code n =
    if n == 0 then Some (codes "General") else if n == 1 then Some (codes "0")
    else if n == 2 then Some (codes "0.00") else if n == 3 then Some (codes "#,##0")
    else if n == 4 then Some (codes "#,##0.00")
    else if n == 5 then Some (codes "\"$\"#,##0_);\\(\"$\"#,##0\\)")
    else if n == 6 then Some (codes "\"$\"#,##0_);[Red]\\(\"$\"#,##0\\)")
    else if n == 7 then Some (codes "\"$\"#,##0.00_);\\(\"$\"#,##0.00\\)")
    else if n == 8 then Some (codes "\"$\"#,##0.00_);[Red]\\(\"$\"#,##0.00\\)")
    else if n == 9 then Some (codes "0%") else if n == 10 then Some (codes "0.00%")
    else if n == 11 then Some (codes "0.00E+00") else if n == 12 then Some (codes "# ?/?")
    else if n == 13 then Some (codes "# ??/??") else None

abbrev pub date_code : ℕ → Option (List ℕ)
date_code n =
    if (n == 14) || between 27 31 n || (n == 36) || between 50 58 n then Some (codes "m/d/yyyy")
    else if n == 15 then Some (codes "d-mmm-yy") else if n == 16 then Some (codes "d-mmm")
    else if n == 17 then Some (codes "mmm-yy") else if n == 18 then Some (codes "h:mm AM/PM")
    else if n == 19 then Some (codes "h:mm:ss AM/PM") else if n == 20 then Some (codes "h:mm")
    else if (n == 21) || between 32 35 n then Some (codes "h:mm:ss")
    else if n == 22 then Some (codes "m/d/yyyy h:mm") else if n == 45 then Some (codes "mm:ss")
    else if n == 46 then Some (codes "[h]:mm:ss") else if n == 47 then Some (codes "mm:ss.0")
    else None

abbrev pub account_code : ℕ → Option (List ℕ)
account_code n =
    if n == 37 then Some (codes "#,##0_);\\(#,##0\\)")
    else if n == 38 then Some (codes "#,##0_);[Red]\\(#,##0\\)")
    else if n == 39 then Some (codes "#,##0.00_);\\(#,##0.00\\)")
    else if n == 40 then Some (codes "#,##0.00_);[Red]\\(#,##0.00\\)")
    else if n == 41 then Some (codes "_(* #,##0_);_(* \\(#,##0\\);_(* \"-\"_);_(@_)")
    else if n == 42 then Some (codes "_(\"$\"* #,##0_);_(\"$\"* \\(#,##0\\);_(\"$\"* \"-\"_);_(@_)")
    else if n == 43 then Some (codes "_(* #,##0.00_);_(* \\(#,##0.00\\);_(* \"-\"??_);_(@_)")
    else if n == 44 then Some (codes "_(\"$\"* #,##0.00_);_(\"$\"* \\(#,##0.00\\);_(\"$\"* \"-\"??_);_(@_)")
    else None

-- the code of an identifier
abbrev pub built_in_code : ℕ → Option (List ℕ)
built_in_code n =
    if nat_le n 13 then number_code n else if between 37 44 n then account_code n
    else if n == 48 then Some (codes "##0.0E+0") else if n == 49 then Some (codes "@")
    else date_code n
