-- What the tokens of a formula are read by, and what they name. Texts are lists of characters.
use Rattle.std.specs.Prelude.{ℕ, List, Bool}
use Rattle.xls_text.specs.declared.encoding.XlsEncoding.{XlsEncoding}
use Rattle.xls_record.specs.declared.version.Biff.{Biff}
use Rattle.xls_formula.specs.Functions.{Function}
use Rattle.xls_formula_leaves.specs.declared.places.Place.{Place}
use Rattle.xls_shown_ptg.specs.declared.tokens.NameLink.{NameLink}
use Rattle.xls_shown_ptg.specs.declared.tokens.SheetLink.{SheetLink}
use Rattle.xls_formula_books.specs.Names.{name, name_x}
use Rattle.xls_formula_books.specs.Prefixes.{prefix}
use Rattle.xls_formula_shown.specs.declared.scope.Scope.{Scope as Lent}

-- version and code page; the place from which offsets count, and whether those of other sheets do, as in a defined name; the
-- functions by index; what stands before the `!` of other sheets, `#REF` where there are none; names by number and by reference
pub record Scope : Type 0 where
  pub biff : Biff
  pub page : XlsEncoding
  pub place : Place
  pub is_name : Bool
  pub functions : List Function
  pub sheets : SheetLink → List ℕ
  pub name : ℕ → List ℕ
  pub name_x : NameLink → List ℕ

-- as the code holds it
abbrev pub scope_of : Lent → Scope
scope_of s = record {
  biff = s.biff;
  page = s.encoding;
  place = s.place;
  is_name = s.is_name;
  functions = s.functions.now;
  sheets = prefix s.here;
  name = name s.here;
  name_x = name_x s.here;
}
