-- What the tokens of a formula cite ([MS-XLS] 2.5.198), from left to right.
use Rattle.std.specs.Prelude.{ℕ, zero, suc, List, [], ◌∷◌, if◌then◌else◌, Option, Some, None, Result, Ok, Err}
use Rattle.std.specs.Option.{option_map}
use Rattle.xls_ptg.specs.Cites.{position_of}
use Rattle.xls_ptg.specs.declared.corner.Corner.{Corner}
use Rattle.xls_ptg.specs.declared.tokens.Ptg.{Ptg}
use Rattle.xls_ptg.specs.declared.tokens.Ptg.TheVariants as ptg
use Rattle.xls_shown_ptg.specs.Reading.{gives}
use Rattle.xls_shown_ptg.specs.ShownTokens.{shown_at}
use Rattle.xls_shown_ptg.specs.declared.fault.Fault.{Fault}
use Rattle.xls_shown_ptg.specs.declared.tokens.ShownPtg.{ShownPtg}
use Rattle.xls_shown_ptg.specs.declared.tokens.ShownPtg.TheVariants as shown
use Rattle.xls_formula_leaves.specs.Cells.{placed}
use Rattle.xls_formula_books.specs.Names.{name_number}
use Rattle.xls_formula_books.specs.Own.{own_name, own_place}
use Rattle.xls_formula_books.specs.Places.{Place, cited_text, is_cited}
use Rattle.xls_formula_books.specs.Prefixes.{place}
use Rattle.xls_shown_refs.specs.Origins.{Origin}
use Rattle.xls_shown_refs.specs.Spelled.{is_spelled}

-- cells that are cited: the text of their sheets, without apostrophes, and the first and the last by row and column, as the token has them
pub record Citation : Type 0 where
  pub sheet : List ℕ
  pub first : ℕ × ℕ
  pub last : ℕ × ℕ

-- cells, or a defined name of this workbook by its number
pub data Item : Type 0 where
  cells : (citation : Citation) → Item
  name : (number : ℕ) → Item

-- ---- tokens

abbrev pub cells_between : Place → Corner → Corner → Citation
cells_between sheets first last =
    record { sheet = cited_text sheets; first = position_of first; last = position_of last }

-- none on sheets that are gone, and none of a program
abbrev pub on_place : Place → Corner → Corner → Option Item
on_place sheets first last = if is_cited sheets then Some (cells (cells_between sheets first last)) else None

-- in the sheet of the formula
abbrev pub own_cells : Origin → Corner → Corner → Option Item
own_cells o first last = on_place (own_place o.here) first last

-- by offsets
abbrev pub offset_cells : Origin → Corner → Corner → Option Item
offset_cells o first last = own_cells o (placed o.biff o.place first) (placed o.biff o.place last)

-- on other sheets, in a defined name by offsets
abbrev pub moved : Origin → Corner → Corner
moved o corner = if o.is_name then placed o.biff o.place corner else corner

abbrev pub sheet_cells : Origin → Place → Corner → Corner → Option Item
sheet_cells o sheets first last = on_place sheets (moved o first) (moved o last)

abbrev pub known_item : Origin → Ptg (List ℕ) → Option Item
known_item o (ptg.Ref corner) = own_cells o corner corner
known_item o (ptg.Area first last) = own_cells o first last
known_item o (ptg.Name field) = Some (name (name_number field))
known_item o token = None

-- a token cites one thing or nothing
abbrev pub token_item : Origin → ShownPtg (List ℕ) → Option Item
token_item o (shown.Known token) = known_item o token
token_item o (shown.RefN corner) = offset_cells o corner corner
token_item o (shown.AreaN first last) = offset_cells o first last
token_item o (shown.NameX link) = option_map name (own_name o.here link)
token_item o (shown.Ref3d link corner) = sheet_cells o (place o.here link) corner corner
token_item o (shown.Area3d link first last) = sheet_cells o (place o.here link) first last
token_item o token = None

-- ---- formulas

abbrev pub before : {X : Type 0} → Option X → List X → List X
before (Some x) xs = x ∷ xs
before None xs = xs

abbrev pub or_none : {X : Type 0} → Result (List X) Fault → List X
or_none (Ok xs) = xs
or_none (Err e) = []

-- those of all tokens; so many bytes belong to the last one still
abbrev pub items : Origin → List ℕ → ℕ → List Item
items o [] more = []
items o (b ∷ bytes) (suc more) = items o bytes more
items o (b ∷ bytes) zero =
    or_none (gives (λ x. before (token_item o x.0) (items o bytes x.1)) (shown_at o.biff (b ∷ bytes)))

-- those of tokens with the extra bytes behind them
abbrev pub formula_items : Origin → List ℕ → List ℕ → List Item
formula_items o tokens extra = if is_spelled o.biff tokens extra then items o tokens zero else []
