-- The code of a cell's format ([MS-XLS] 2.4.353 XF, 2.4.126 Format).
use Rattle.std.specs.Prelude.{ℕ, List, unwrap_or, codes}
use Rattle.std.specs.Str.{chars}
use Rattle.xls_number_formats.specs.Builtins.{built_in_code}
use Rattle.xls_view.specs.Codes.{identifier_at, last_code}

-- the built-in code of a format identifier (ifmt), and General without one
abbrev pub built_in_or_general : ℕ → List ℕ
built_in_or_general ifmt = unwrap_or (built_in_code ifmt) (codes "General")

-- that of the last of these Format records which has the identifier, else the built-in one
abbrev pub code_of_identifier : List (ℕ × List ℕ) → ℕ → List ℕ
code_of_identifier formats ifmt = unwrap_or (last_code formats ifmt) (chars (built_in_or_general ifmt))

-- the code of an XF index, where these are the Format records and the identifiers of the XF records
abbrev pub code_of_xf : List (ℕ × List ℕ) → List ℕ → ℕ → List ℕ
code_of_xf formats identifiers xf = code_of_identifier formats (identifier_at identifiers xf)
