-- What a formula cites outside. Formula (2.4.127): the row at 0, the column at 2, the count of the bytes of its tokens
-- (cce) at 20, and these from 22 on.
use Rattle.std.specs.Prelude.{ℕ, List, [], map, take, drop, length, ◌||◌, not, nat_lt, ◌==◌, if◌then◌else◌, Option, Some, None}
use Rattle.std.specs.Option.{option_map}
use Rattle.xls_parts.specs.PartRecords.{Placed}
use Rattle.xls_ptg.specs.Fields.{word_at}
use Rattle.xls_record.specs.Version.{is_biff8}
use Rattle.xls_stream.specs.declared.types.TheConstants.{FORMULA}
use Rattle.xls_other_books.specs.declared.cites.Cite.{Cite}
use Rattle.xls_other_books.specs.declared.links.Formula.{Formula as FormulaFields}
use Rattle.xls_other_books.specs.declared.links.Outside.{Outside as OutsideFields}
use Rattle.xls_other_books.specs.Cites.{cites_in}
use Rattle.xls_other_books.specs.Links.{Links}
use Rattle.xls_other_books.specs.Outside.{Cited, cited_by, cited_before, cited_views, distinct}

-- ---- a formula

pub record Formula : Type 0 where
  pub row : ℕ
  pub column : ℕ
  pub tokens : List ℕ

abbrev pub first_bytes : List ℕ → ℕ → List ℕ
first_bytes bytes count = take count bytes

-- the tokens that are there, where the count passes the bytes
abbrev pub formula_at : Placed → Option Formula
formula_at r =
    if not (r.typ == FORMULA) || nat_lt (length r.body) 22 then None
    else Some (record {
      row = word_at 0 r.body;
      column = word_at 2 r.body;
      tokens = first_bytes (drop 22 r.body) (word_at 20 r.body);
    })

-- ---- what it cites

abbrev pub cited : Links → Cite → Option Cited
cited links cite = if is_biff8 links.version then cited_by links.books links.entries cite else cited_before links.refs cite

abbrev pub all_cited : Links → List Cite → List Cited
all_cited links cites = distinct [] (map (cited links) cites)

pub record Outside : Type 0 where
  pub row : ℕ
  pub column : ℕ
  pub cited : List Cited

abbrev pub outside_in : Links → Formula → Outside
outside_in links f = record { row = f.row; column = f.column; cited = all_cited links (cites_in links.version f.tokens) }

-- what the formula of a record cites, if it has one
abbrev pub outside_of : Links → Placed → Option Outside
outside_of links r = option_map (outside_in links) (formula_at r)

-- ---- for the contracts

abbrev pub formula_view : FormulaFields → Formula
formula_view f = record { row = f.row; column = f.column; tokens = f.tokens.now }

abbrev pub outside_view : OutsideFields → Outside
outside_view o = record { row = o.row; column = o.column; cited = cited_views o.cited.items }

abbrev pub outside_if : Option OutsideFields → Option Outside
outside_if found = option_map outside_view found
