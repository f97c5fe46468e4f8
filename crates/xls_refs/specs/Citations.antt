-- The cells that a formula cites, by its tree.
use Rattle.std.specs.Prelude.{ℕ, List, [], ◌∷◌, ◌++◌, Bool, ◌&&◌, ◌==◌, if◌then◌else◌, Option, Some, None, Result}
use Rattle.std.specs.Cmp.Lexicographic.{pointwise}
use Rattle.std.specs.List.{list_any}
use Rattle.std.specs.Option.{option_eq, option_map}
use Rattle.xls_range.specs.Positions.{Position}
use Rattle.xls_record.specs.Reading.{gives}
use Rattle.xls_strings.specs.Texts.{text_of}
use Rattle.xls_record.specs.declared.error.XlsError.{XlsError}
use Rattle.xls_ptg.specs.Cites.{position_of}
use Rattle.xls_ptg.specs.declared.corner.Corner.{Corner}
use Rattle.xls_formula.specs.Context.{Context}
use Rattle.xls_formula.specs.Fold.{fold}
use Rattle.xls_formula.specs.Tree.{Tree, Trees, word, ref, area, wrap, pair, call, no_trees, tree}
use Rattle.xls_meaning.specs.Order.{map_with_earlier, somes}
use Rattle.xls_refs.specs.declared.cite.Cite.{Cite}

-- cells that are cited: the name of their sheet, where the formula tells one, and the first and the
-- last of them by row and column, as the token has them
pub record Citation : Type 0 where
  pub sheet : Option (List ℕ)
  pub first : Position
  pub last : Position

-- a text of the code as the list of its characters
abbrev pub citation_of : Cite → Citation
citation_of c = record { sheet = option_map text_of c.sheet; first = c.first; last = c.last }

-- ---- the leaves of a tree

abbrev pub leaf : Option (List ℕ) → Corner → Corner → Citation
leaf sheet first last = record { sheet = sheet; first = position_of first; last = position_of last }

abbrev mutual
  -- the references and areas from left to right; words cite nothing, `#REF!` and names among them
  pub leaves : Tree → List Citation
  leaves (word text) = []
  leaves (ref sheet corner) = leaf sheet corner corner ∷ []
  leaves (area sheet first last) = leaf sheet first last ∷ []
  leaves (wrap before inner after) = leaves inner
  leaves (pair left operator right) = leaves left ++ leaves right
  leaves (call name operands) = leaves_each operands

  pub leaves_each : Trees → List Citation
  leaves_each no_trees = []
  leaves_each (tree first others) = leaves first ++ leaves_each others

-- ---- without repeats

abbrev pub same_position : Position → Position → Bool
same_position p q = (p.0 == q.0) && (p.1 == q.1)

abbrev pub same_cells : Citation → Citation → Bool
same_cells c d =
    (option_eq (pointwise ◌==◌) c.sheet d.sheet && same_position c.first d.first)
    && same_position c.last d.last

-- a citation, where none before it is equal
abbrev pub unless_before : List Citation → Citation → Option Citation
unless_before before c = if list_any (λ b. same_cells b c) before then None else Some c

-- every later repeat of an equal one left out
abbrev pub distinct : List Citation → List Citation
distinct cs = somes (map_with_earlier unless_before [] cs)

-- ---- the cells that a formula cites

abbrev pub cites : Tree → List Citation
cites t = distinct (leaves t)

-- by its tokens: those of their tree, or the refusal of the tokens
abbrev pub cites_at : Context → List ℕ → Result (List Citation) XlsError
cites_at context rgce = gives cites (fold context rgce)
