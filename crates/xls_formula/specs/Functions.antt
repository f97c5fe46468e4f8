-- Functions by their index ([MS-XLS] Ftab 2.5.198.17): the name, as a list of characters, and the
-- count of operands.
use Rattle.std.specs.Prelude.{ℕ, List, [], ◌∷◌, codes}
use Rattle.std.specs.Str.{chars}
use Rattle.std.specs.Borrow.{Bor}
use Rattle.xls_strings.specs.Texts.{text_of}
use Rattle.xls_formula.specs.declared.functions.FunctionEntry.{FunctionEntry}

abbrev pub Function : Type 0
Function = List ℕ × ℕ

abbrev pub function_of : FunctionEntry → Function
function_of entry = (text_of entry.name, entry.argc)

-- names and counts, side by side
abbrev pub functions_paired : List (Bor (List ℕ)) → List ℕ → List Function
functions_paired [] counts = []
functions_paired (name ∷ names) [] = []
functions_paired (name ∷ names) (count ∷ counts) = (chars name.now, count) ∷ functions_paired names counts

-- the functions whose names are shipped
abbrev pub shipped : List Function
shipped =
    (codes "COUNT", 255) ∷ (codes "IF", 3) ∷ (codes "ISNA", 1) ∷ (codes "ISERROR", 1) ∷
    (codes "SUM", 255) ∷ (codes "AVERAGE", 255) ∷ (codes "MIN", 255) ∷ (codes "MAX", 255) ∷
    (codes "ROW", 1) ∷ (codes "COLUMN", 1) ∷ (codes "NA", 0) ∷ (codes "NPV", 254) ∷
    (codes "STDEV", 255) ∷ (codes "DOLLAR", 2) ∷ (codes "FIXED", 3) ∷ (codes "SIN", 1) ∷
    (codes "COS", 1) ∷ (codes "TAN", 1) ∷ (codes "ATAN", 1) ∷ (codes "PI", 0) ∷
    (codes "SQRT", 1) ∷ (codes "EXP", 1) ∷ (codes "LN", 1) ∷ (codes "LOG10", 1) ∷
    (codes "ABS", 1) ∷ (codes "INT", 1) ∷ (codes "SIGN", 1) ∷ (codes "ROUND", 2) ∷
    (codes "LOOKUP", 3) ∷ (codes "INDEX", 4) ∷ (codes "REPT", 2) ∷ (codes "MID", 3) ∷
    (codes "LEN", 1) ∷ (codes "VALUE", 1) ∷ (codes "TRUE", 0) ∷ (codes "FALSE", 0) ∷
    (codes "AND", 255) ∷ (codes "OR", 255) ∷ (codes "NOT", 1) ∷ (codes "MOD", 2) ∷
    (codes "DCOUNT", 3) ∷ (codes "DSUM", 3) ∷ (codes "DAVERAGE", 3) ∷ (codes "DMIN", 3) ∷
    (codes "DMAX", 3) ∷ (codes "DSTDEV", 3) ∷ (codes "VAR", 255) ∷ (codes "DVAR", 3) ∷
    (codes "TEXT", 2) ∷ (codes "LINEST", 4) ∷ (codes "TREND", 4) ∷ (codes "LOGEST", 4) ∷
    (codes "GROWTH", 4) ∷ (codes "GOTO", 1) ∷ (codes "HALT", 1) ∷ (codes "RETURN", 1) ∷
    (codes "PV", 5) ∷ (codes "FV", 5) ∷ (codes "NPER", 5) ∷ (codes "PMT", 5) ∷
    (codes "RATE", 6) ∷ (codes "MIRR", 3) ∷ (codes "IRR", 2) ∷ (codes "RAND", 0) ∷
    (codes "MATCH", 3) ∷ (codes "DATE", 3) ∷ (codes "TIME", 3) ∷ (codes "DAY", 1) ∷
    (codes "MONTH", 1) ∷ (codes "YEAR", 1) ∷ (codes "WEEKDAY", 2) ∷ (codes "HOUR", 1) ∷ []
