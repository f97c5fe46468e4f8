-- Whether a formula can be spelled as Excel shows it ([MS-XLS] 2.5.198); where it can't, it cites nothing. Neither where it stands nor what
-- it names decides that (a law says so), so that a scope in which nothing is named will do.
use Rattle.std.specs.Prelude.{ℕ, List, [], ◌++◌, Bool, false, is_ok}
use Rattle.xls_text.specs.declared.encoding.XlsEncoding.TheVariants.{Windows1252}
use Rattle.xls_record.specs.declared.version.Biff.{Biff}
use Rattle.xls_formula.specs.Functions.{Function, shipped}
use Rattle.xls_formula.specs.Table.{from_index_72}
use Rattle.xls_formula_shown.specs.Scope.{Scope}
use Rattle.xls_formula_shown.specs.ShownFold.{shown_text}

-- the functions by index
abbrev pub functions : List Function
functions = shipped ++ from_index_72

abbrev pub nowhere : Biff → Scope
nowhere biff = record {
  biff = biff;
  page = Windows1252;
  place = record { row = 0; column = 0 };
  is_name = false;
  functions = functions;
  sheets = λ link. [];
  name = λ number. [];
  name_x = λ link. [];
}

abbrev pub is_spelled : Biff → List ℕ → List ℕ → Bool
is_spelled biff tokens extra = is_ok (shown_text (nowhere biff) tokens extra)
