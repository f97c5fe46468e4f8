-- The cells that the formulas of a view cite, sheet by sheet and formula by formula.
use Rattle.std.specs.Prelude.{◌≡◌, ℕ, suc, List, [], ◌∷◌, map, Option, Some, None, Result, Ok, Err}
use Rattle.std.specs.List.{flat_map}
use Rattle.std.specs.Str.{chars}
use Rattle.std.specs.declared.alloc.AllocError.{AllocError}
use Rattle.xls_formula.specs.Context.{Context}
use Rattle.xls_view.specs.Formulas.{Formula}
use Rattle.xls_view.specs.Viewing.{Viewed}
use Rattle.xls_refs.specs.Cited.{BookCitation, BookCited, cited_by}
use Rattle.xls_refs.specs.declared.cite.CitedCells.{CitedCells}

-- ---- what is cited

-- what each formula cites, for each of the sheets of these names, of which the first has this index
abbrev pub sheets_from : Context → ℕ → List (List ℕ) → List (List Formula) → List (List (List BookCitation))
sheets_from context index [] displayed = []
sheets_from context index (name ∷ names) [] = []
sheets_from context index (name ∷ names) (formulas ∷ displayed) =
    map (cited_by context index name) formulas ∷ sheets_from context (suc index) names displayed

-- the same of all sheets of a view
abbrev pub sheets_cited : Viewed → List (List (List BookCitation))
sheets_cited v = sheets_from v.context 0 v.context.sheets v.formulas

-- what all formulas of a sheet cite
abbrev pub each_cited : List (List BookCitation) → List BookCitation
each_cited = flat_map (λ (cites : List BookCitation). cites)

-- likewise, if there is a sheet
abbrev pub cited_of : Option (List (List BookCitation)) → List BookCitation
cited_of None = []
cited_of (Some formulas) = each_cited formulas

-- the names of the sheets of a view, and what all formulas cite
abbrev pub cited_in : Viewed → BookCited
cited_in v = record { names = v.context.sheets; cites = flat_map each_cited (sheets_cited v) }

-- ---- one formula after the other

-- a call of next with these left gives the citations of the first formula, or out of memory, and leaves the others
abbrev pub CitedSteps : List (List BookCitation) → Option (Result (List BookCitation) AllocError) → List (List BookCitation) → Type 0
CitedSteps before None after = (before ≡ []) × (after ≡ [])
CitedSteps before (Some (Ok cites)) after = before ≡ cites ∷ after
CitedSteps before (Some (Err e)) after = (lost : List BookCitation) × (before ≡ lost ∷ after)

-- cells that are cited, with the names lent
abbrev pub lent_citation_of : CitedCells → BookCitation
lent_citation_of c =
    record {
      sheet = c.sheet;
      row = c.row;
      col = c.col;
      cite = record { sheet = Some (chars c.on.now); first = c.first; last = c.last };
    }
