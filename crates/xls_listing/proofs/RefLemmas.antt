-- The lines of the cells that are cited, sheet by sheet and formula by formula.
use Rattle.std.proofs.Common.{◌≡◌, ℕ, zero, suc, ◌+◌, ◌≤◌, List, [], ◌∷◌, ◌++◌, length, map, drop, add-one, refl, sym, ap, ◌∙◌, arith}
use Rattle.std.specs.Prelude.{slice_get}
use Rattle.std.specs.List.{flat_map}
use Rattle.xls_refs.specs.Cited.{BookCitation}
use Rattle.xls_refs.specs.Views.{each_cited, sheets_cited}
use Rattle.xls_refs.proofs.ViewLemmas.{length-sheets_from}
use Rattle.xls_view.specs.Viewing.{Viewed}
use Rattle.xls_listing.specs.Listing.{Line, ref_line, displayed_at}
use Rattle.xls_listing.proofs.DisplayedLemmas.{drop_all}

map_both : {X Y : Type 0} (line : X → Y) (xs ys : List X) → map line (xs ++ ys) ≡ map line xs ++ map line ys
map_both line [] ys = refl
map_both line (x ∷ xs) ys = ap (λ l. line x ∷ l) (map_both line xs ys)

-- ---- of one formula

cites_from : (line : BookCitation → Line) (xs : List BookCitation) (i : ℕ)
    → map line (drop i xs) ≡ displayed_at (λ x. line x ∷ []) (slice_get xs i) ++ map line (drop (suc i) xs)
cites_from line [] zero = refl
cites_from line [] (suc i) = refl
cites_from line (x ∷ xs) zero = refl
cites_from line (x ∷ xs) (suc i) = cites_from line xs i

-- those from an index on
pub cites_step : (line : BookCitation → Line) (xs : List BookCitation) (i : ℕ)
    → map line (drop i xs) ≡ displayed_at (λ x. line x ∷ []) (slice_get xs i) ++ map line (drop (i + 1) xs)
cites_step line xs i =
    cites_from line xs i ∙ ap (λ n. displayed_at (λ x. line x ∷ []) (slice_get xs i) ++ map line (drop n xs)) (sym (add-one i))

-- ---- of the formulas of a sheet

-- the lines of what each of them cites
abbrev pub cited_lines : List (List ℕ) → List (List BookCitation) → List Line
cited_lines names formulas = map (ref_line names) (each_cited formulas)

-- the first of those that are left, and the others
pub formulas_cited_step : (names : List (List ℕ)) (old left : List (List BookCitation)) (cites : List BookCitation) → old ≡ cites ∷ left
    → cited_lines names old ≡ map (ref_line names) cites ++ cited_lines names left
formulas_cited_step names old left cites e =
    ap (cited_lines names) e ∙ map_both (ref_line names) cites (each_cited left)

-- ---- of all sheets

-- the lines of what all sheets cite
abbrev pub all_cited_lines : List (List ℕ) → List (List (List BookCitation)) → List Line
all_cited_lines names sheets = map (ref_line names) (flat_map each_cited sheets)

sheets_from : (names : List (List ℕ)) (xs : List (List (List BookCitation))) (i : ℕ)
    → all_cited_lines names (drop i xs) ≡ displayed_at (cited_lines names) (slice_get xs i) ++ all_cited_lines names (drop (suc i) xs)
sheets_from names [] zero = refl
sheets_from names [] (suc i) = refl
sheets_from names (x ∷ xs) zero = map_both (ref_line names) (each_cited x) (flat_map each_cited xs)
sheets_from names (x ∷ xs) (suc i) = sheets_from names xs i

-- those from an index on
pub sheets_cited_step : (names : List (List ℕ)) (xs : List (List (List BookCitation))) (i : ℕ)
    → all_cited_lines names (drop i xs) ≡ displayed_at (cited_lines names) (slice_get xs i) ++ all_cited_lines names (drop (i + 1) xs)
sheets_cited_step names xs i =
    sheets_from names xs i
    ∙ ap (λ n. displayed_at (cited_lines names) (slice_get xs i) ++ all_cited_lines names (drop n xs)) (sym (add-one i))

-- no sheet is left
pub sheets_cited_end : (v : Viewed) (i : ℕ) → length v.context.sheets ≤ i
    → all_cited_lines v.context.sheets (drop i (sheets_cited v)) ≡ []
sheets_cited_end v i l =
    let within = length-sheets_from v.context 0 v.context.sheets v.formulas in
    ap (all_cited_lines v.context.sheets) (drop_all (sheets_cited v) i (omega (arith, within, l)))
