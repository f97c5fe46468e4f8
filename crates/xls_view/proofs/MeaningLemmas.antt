-- What the records of a sheet mean is its content.
use Rattle.std.proofs.Common.{◌≡◌, ℕ, List, [], ◌∷◌, ◌++◌, map, refl, sym, ap, subst, ◌∙◌, Option, Some, None, Result, Ok, Err}
use Rattle.std.specs.Option.{option_or, option_map}
use Rattle.std.specs.List.{AllByRecursion, flat_map}
use Rattle.std.proofs.lemmas.List.{map-append}
use Rattle.xls_stream.specs.Listing.{Kept}
use Rattle.xls_data.specs.declared.regions.Dimensions.{Dimensions}
use Rattle.xls_range.specs.Positions.{last_at, IsAscending}
use Rattle.xls_record.specs.declared.error.XlsError.{XlsError}
use Rattle.xls_record.specs.Reading.{gives}
use Rattle.xls_biff.specs.Cells.{CellEntry, Position}
use Rattle.xls_biff.specs.SheetTable.{CellContext, SheetRecord, empty_record, cells_record, shared_record, string_record, formula_record, regions_record}
use Rattle.xls_formula.specs.Context.{Context}
use Rattle.xls_formula.specs.Fold.{formula_text}
use Rattle.xls_meaning.specs.Order.{map_with_earlier, first_of, somes}
use Rattle.xls_meaning.specs.Settings.{Settings}
use Rattle.xls_meaning.specs.Rules.{Rules}
use Rattle.xls_meaning.specs.GlobalsTable.{fault_of}
use Rattle.xls_meaning.specs.Faults.{kept_fault, weight_fault}
use Rattle.xls_meaning.specs.SheetTable.{FormulaEntry, Yield, adds, kept_line, last_formula, yield_in, displayed_formula}
use Rattle.xls_meaning.specs.Reading.{IsContent, yield_of}
use Rattle.xls_meaning.proofs.OrderLemmas.{somes-append}
use Rattle.xls_open.proofs.PartLemmas.{place_push}
use Rattle.xls_view.specs.SheetContents.{IsReadable, cells_after, content_by, moved, regions_at, regions_of, settled}
use Rattle.xls_view.specs.Formulas.{Formula, formula_from, formula_of, formulas_kept, text_entry}
use Rattle.xls_view.proofs.SettledLemmas.{ascending_settled, last_settled, seen_positions, last_seen}
use Rattle.xls_view.proofs.TableLemmas.{formulas_by_the_table, regions_from, regions_by_the_table}

-- ---- what a record adds

formulas_added : (c : Context) (at : Position) (line : Result SheetRecord XlsError)
    → (yield_of (gives (adds c at) line)).formulas ≡ map (text_entry c) (somes (formula_from line ∷ []))
formulas_added c at (Err e) = refl
formulas_added c at (Ok empty_record) = refl
formulas_added c at (Ok (cells_record cs)) = refl
formulas_added c at (Ok (shared_record o)) = refl
formulas_added c at (Ok (string_record cs)) = refl
formulas_added c at (Ok (formula_record p value tokens)) = refl
formulas_added c at (Ok (regions_record rs)) = refl

regions_added : (c : Context) (at : Position) (line : Result SheetRecord XlsError)
    → (yield_of (gives (adds c at) line)).regions ≡ regions_from line
regions_added c at (Err e) = refl
regions_added c at (Ok empty_record) = refl
regions_added c at (Ok (cells_record cs)) = refl
regions_added c at (Ok (shared_record o)) = refl
regions_added c at (Ok (string_record cs)) = refl
regions_added c at (Ok (formula_record p value tokens)) = refl
regions_added c at (Ok (regions_record rs)) = refl

-- ---- all records

module _ (s : Settings) where
  pub cells_over : (before ks : List Kept)
      → cells_after s (last_formula s.cells before) ks ≡ flat_map (λ (g : Yield). g.cells) (map yield_of (map_with_earlier (yield_in s) before ks))
  cells_over before [] = refl
  cells_over before (k ∷ ks) =
      let here = (yield_of (yield_in s before k)).cells in
      ap (λ (p : Position). here ++ cells_after s p ks) (place_push s before k (last_formula s.cells before) (moved s.cells (last_formula s.cells before) k) refl refl)
      ∙ ap (λ (l : List CellEntry). here ++ l) (cells_over (before ++ k ∷ []) ks)

  formulas_more : (k : Kept) (ks : List Kept) → formulas_kept (k ∷ ks) ≡ somes (formula_of k ∷ []) ++ formulas_kept ks
  formulas_more k ks = somes-append (formula_of k ∷ []) (map formula_of ks)

  pub formulas_over : (before ks : List Kept)
      → flat_map (λ (g : Yield). g.formulas) (map yield_of (map_with_earlier (yield_in s) before ks)) ≡ map (text_entry s.formulas) (formulas_kept ks)
  formulas_over before [] = refl
  formulas_over before (k ∷ ks) =
      let here = map (text_entry s.formulas) (somes (formula_of k ∷ [])) in
      ap (λ (l : List FormulaEntry). l ++ flat_map (λ (g : Yield). g.formulas) (map yield_of (map_with_earlier (yield_in s) (before ++ k ∷ []) ks)))
      (formulas_added s.formulas (last_formula s.cells before) (kept_line s.cells k)
      ∙ ap (λ (o : Option Formula). map (text_entry s.formulas) (somes (o ∷ []))) (sym (formulas_by_the_table s.cells k)))
      ∙ ap (λ (l : List FormulaEntry). here ++ l) (formulas_over (before ++ k ∷ []) ks)
      ∙ sym (map-append (text_entry s.formulas) (somes (formula_of k ∷ [])) (formulas_kept ks))
      ∙ ap (map (text_entry s.formulas)) (sym (formulas_more k ks))

  pub merges_over : (before ks : List Kept)
      → flat_map (λ (g : Yield). g.regions) (map yield_of (map_with_earlier (yield_in s) before ks)) ≡ regions_of ks
  merges_over before [] = refl
  merges_over before (k ∷ ks) =
      ap (λ (l : List Dimensions). l ++ flat_map (λ (g : Yield). g.regions) (map yield_of (map_with_earlier (yield_in s) (before ++ k ∷ []) ks)))
      (regions_added s.formulas (last_formula s.cells before) (kept_line s.cells k) ∙ sym (regions_by_the_table s.cells k))
      ∙ ap (λ (l : List Dimensions). regions_at k ++ l) (merges_over (before ++ k ∷ []) ks)

  -- the text of a formula at its position
  abbrev text_at : Position → List ℕ → List ℕ
  text_at p tokens = displayed_formula p (formula_text s.formulas tokens)

  pub is_content : (kept : List Kept) → IsContent s kept (content_by s kept)
  is_content kept = record {
    ascending = ascending_settled (cells_after s (0, 0) kept);
    last = λ p. last_settled (cells_after s (0, 0) kept) p ∙ ap (λ (l : List CellEntry). last_at l p) (cells_over [] kept);
    formulas_ascending = subst IsAscending (sym (seen_positions text_at (settled (formulas_kept kept)))) (ascending_settled (formulas_kept kept));
    last_formulas = λ p.
        last_seen text_at (settled (formulas_kept kept)) p
        ∙ ap (option_map (text_at p)) (last_settled (formulas_kept kept) p)
        ∙ sym (last_seen text_at (formulas_kept kept) p)
        ∙ ap (λ (l : List FormulaEntry). last_at l p) (sym (formulas_over [] kept));
    merges = sym (merges_over [] kept);
  }

-- ---- records without a fault

none_of : {E : Type 0} (o p : Option E) → option_or o p ≡ None → (o ≡ None) × (p ≡ None)
none_of None p h = (refl, h)
none_of (Some e) p h = absurd cc

pub are_readable : (rules : Rules) (s : CellContext) (before ks : List Kept) → first_of (map_with_earlier (kept_fault rules s) before ks) ≡ None
    → AllByRecursion (IsReadable s) ks
are_readable rules s before [] h = tt
are_readable rules s before (k ∷ ks) h =
    let both = none_of (kept_fault rules s before k) (first_of (map_with_earlier (kept_fault rules s) (before ++ k ∷ []) ks)) h in
    let own = none_of (fault_of (kept_line s k)) (weight_fault rules s (before ++ k ∷ [])) both.0 in
    (by_line (kept_line s k) refl own.0, are_readable rules s (before ++ k ∷ []) ks both.1)
  where
    by_line : (r : Result SheetRecord XlsError) → kept_line s k ≡ r → fault_of r ≡ None → IsReadable s k
    by_line (Ok g) e f = (g, e)
    by_line (Err x) e f = absurd cc
