-- Where the tokens of a formula stand, by which they cite cells.
use Rattle.std.specs.Prelude.{ℕ, List, Bool, true, false}
use Rattle.xls_record.specs.declared.version.Biff.{Biff}
use Rattle.xls_formula_leaves.specs.declared.places.Place.{Place}
use Rattle.xls_formula_books.specs.Books.{Books}
use Rattle.xls_formula_books.specs.Prefixes.{Here}

-- version; the cell from which offsets count, and whether those of cells on other sheets do, as in a defined name; what they may name, and
-- the number of the sheet in which they stand, from 1
pub record Origin : Type 0 where
  pub biff : Biff
  pub place : Place
  pub is_name : Bool
  pub here : Here

-- a formula of a cell: version and cell; the place from which its own offsets count, in an array the first cell; what it may name; the books
-- by which the formulas of names refer, those of the globals; and the stream in which the records of names stand
pub record Citing : Type 0 where
  pub biff : Biff
  pub cell : Place
  pub place : Place
  pub here : Here
  pub globals : Books
  pub stream : List ℕ

abbrev pub of_cell : Citing → Origin
of_cell c = record { biff = c.biff; place = c.place; is_name = false; here = c.here }

-- the formula of a name stands where the cell does that cites it, but refers by the books of the globals
abbrev pub of_name : Citing → Origin
of_name c = record {
  biff = c.biff;
  place = c.cell;
  is_name = true;
  here = record { books = c.globals; names = c.here.names; sheets = c.here.sheets; sheet = c.here.sheet };
}
