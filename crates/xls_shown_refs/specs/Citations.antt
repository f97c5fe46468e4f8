-- The cells that a formula cites as Excel shows it: those of its tokens, and where they name defined names of the workbook those of the names'
-- formulas, each name once.
use Rattle.std.specs.Prelude.{ℕ, zero, suc, List, [], ◌∷◌, ◌++◌, length, Bool, ◌&&◌, ◌==◌, not, if◌then◌else◌, Option, Some, None}
use Rattle.std.specs.Prelude.{Result, Ok, Err}
use Rattle.std.specs.Cmp.Lexicographic.{pointwise}
use Rattle.std.specs.List.{filter, list_any, range_with_len}
use Rattle.xls_bodies.specs.Bodies.{body_of}
use Rattle.xls_shown_ptg.specs.declared.fault.Fault.{Fault}
use Rattle.xls_shared_formulas.specs.declared.contents.TableInput.{TableInput}
use Rattle.xls_shared_formulas.specs.declared.contents.TableInput.TheVariants.{Cell, Gone}
use Rattle.xls_shared_formulas.specs.declared.contents.TableInputs.{TableInputs}
use Rattle.xls_defined_names.specs.Fields.{formula_in}
use Rattle.xls_defined_names.specs.Names.{Name, numbered}
use Rattle.xls_formula_books.specs.Own.{own_place}
use Rattle.xls_formula_books.specs.Places.{cited_text, is_cited}
use Rattle.xls_formula_books.specs.Prefixes.{Here}
use Rattle.xls_shown_refs.specs.Origins.{Citing, of_cell, of_name}
use Rattle.xls_shown_refs.specs.Items.{Citation, Item, cells, name, formula_items}

-- ---- the formulas of names

-- one that is cut cites nothing
abbrev pub items_if : Citing → Result (List ℕ × List ℕ) Fault → List Item
items_if c (Ok x) = formula_items (of_name c) x.0 x.1
items_if c (Err e) = []

abbrev pub name_items : Citing → Option Name → List Item
name_items c (Some n) = items_if c (formula_in c.biff (body_of 0 c.stream n.offset))
name_items c None = []

-- of the name of a number
abbrev pub number_items : Citing → ℕ → List Item
number_items c number = name_items c (numbered number c.here.names)

-- ---- each name once

abbrev pub has : ℕ → List ℕ → Bool
has number numbers = list_any (λ m. m == number) numbers

abbrev pub without : ℕ → List ℕ → List ℕ
without number numbers = filter (λ m. not (m == number)) numbers

-- cells as they are; a name that is left to cite has its formula's items in its place, and the names but this one are left then
abbrev pub follow_with : Citing → (List ℕ → List Item → List Citation) → List ℕ → List Item → List Citation
follow_with c next left [] = []
follow_with c next left (cells d ∷ is) = d ∷ follow_with c next left is
follow_with c next left (name n ∷ is) =
    if has n left then next (without n left) (number_items c n ++ is) else follow_with c next left is

-- through so many names at most, of which none but these are left to cite
abbrev pub follow : Citing → ℕ → List ℕ → List Item → List Citation
follow c zero = follow_with c (λ left is. [])
follow c (suc n) = follow_with c (follow c n)

-- all names, by their numbers from 1
abbrev pub numbers : {X : Type 0} → List X → List ℕ
numbers names = range_with_len 1 (length names)

abbrev pub followed : Citing → List Item → List Citation
followed c is = follow c (length c.here.names) (numbers c.here.names) is

-- ---- without repeats

abbrev pub same_position : ℕ × ℕ → ℕ × ℕ → Bool
same_position p q = (p.0 == q.0) && (p.1 == q.1)

abbrev pub is_same : Citation → Citation → Bool
is_same c d = (pointwise ◌==◌ c.sheet d.sheet && same_position c.first d.first) && same_position c.last d.last

-- those of which none before is equal
abbrev pub distinct_behind : List Citation → List Citation → List Citation
distinct_behind before [] = []
distinct_behind before (c ∷ cs) =
    if list_any (λ b. is_same b c) before then distinct_behind before cs else c ∷ distinct_behind (before ++ c ∷ []) cs

-- citations, and others behind them
abbrev pub with_distinct : List Citation → List Citation → List Citation
with_distinct before cs = before ++ distinct_behind before cs

abbrev pub distinct : List Citation → List Citation
distinct cs = distinct_behind [] cs

-- ---- what is cited

-- by a formula's tokens with the extra bytes behind them
abbrev pub citations : Citing → List ℕ → List ℕ → List Citation
citations c tokens extra = distinct (followed c (formula_items (of_cell c) tokens extra))

-- by a data table in this sheet: its inputs
abbrev pub input_citations : Here → Option TableInput → List Citation
input_citations h (Some (Cell p)) =
    if is_cited (own_place h)
    then record { sheet = cited_text (own_place h); first = (p.row, p.column); last = (p.row, p.column) } ∷ []
    else []
input_citations h (Some Gone) = []
input_citations h None = []

abbrev pub table_citations : Here → TableInputs → List Citation
table_citations h inputs = distinct (input_citations h inputs.row ++ input_citations h inputs.column)
