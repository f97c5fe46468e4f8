-- Cells with their XF indices, and without.
use Rattle.std.proofs.Common.{◌≡◌, ℕ, zero, suc, ◌+◌, List, [], ◌∷◌, ◌++◌, map, refl, sym, ap, ◌∙◌, Option, Some, None}
use Rattle.std.specs.Prelude.{unwrap_or}
use Rattle.std.specs.Option.{option_map}
use Rattle.std.specs.List.{range_with_len}
use Rattle.std.proofs.lemmas.List.{map-append}
use Rattle.xls_stream.specs.Listing.{Kept}
use Rattle.xls_stream.specs.declared.types.TheConstants as types
use Rattle.xls_data.specs.Content.{Content}
use Rattle.xls_data.specs.declared.regions.Dimensions.{Dimensions}
use Rattle.xls_range.specs.Positions.{Position}
use Rattle.xls_range.specs.Bounds.{bounds_of}
use Rattle.xls_biff.specs.Cells.{CellEntry}
use Rattle.xls_biff.specs.SheetTable.{position_in}
use Rattle.xls_meaning.specs.Settings.{Settings}
use Rattle.xls_meaning.specs.SheetTable.{kept_line, yield_at}
use Rattle.xls_meaning.specs.Reading.{yield_of}
use Rattle.xls_view.specs.Formats.{FormattedCell, FormulaPlace, formatted_after, formatted_in, formula_after, no_formula, plain, with_format, with_formats, xf_at, xf_in}
use Rattle.xls_view.specs.Formatting.{place_of}
use Rattle.xls_view.specs.Placed.{FormattedPlace}
use Rattle.xls_view.specs.SheetContents.{cells_after, formatted_by, settled}
use Rattle.xls_view.proofs.BoundsLemmas.{bounds_first}
use Rattle.xls_view.proofs.SettledLemmas.{settled_seen}
use Rattle.xls_view.specs.Surveying.{widened}

-- ---- without the XF indices

pub plain_formats : (xf : ℕ → ℕ) (i : ℕ) (cs : List CellEntry) → map plain (with_formats xf i cs) ≡ cs
plain_formats xf i [] = refl
plain_formats xf i (c ∷ cs) = ap (λ (l : List CellEntry). c ∷ l) (plain_formats xf (i + 1) cs)

-- the last Formula stands where it stood
moved_same : (last : FormulaPlace) (body : List ℕ) (o : Option Position)
    → (unwrap_or (option_map (λ (p : Position). (p, xf_at body 0)) o) last).0 ≡ unwrap_or o last.0
moved_same last body None = refl
moved_same last body (Some p) = refl

module _ (s : Settings) where
  pub plain_after : (last : FormulaPlace) (ks : List Kept) → map plain (formatted_after s last ks) ≡ cells_after s last.0 ks
  plain_after last [] = refl
  plain_after last (k ∷ ks) =
      let here = (yield_of (yield_at s last.0 k)).cells in
      map-append plain (formatted_in s last k) (formatted_after s (formula_after s.cells last k) ks)
      ∙ ap (λ (l : List CellEntry). l ++ map plain (formatted_after s (formula_after s.cells last k) ks)) (plain_formats (xf_in last.1 k) 0 here)
      ∙ ap (λ (l : List CellEntry). here ++ l) (plain_after (formula_after s.cells last k) ks)
      ∙ ap (λ (p : Position). here ++ cells_after s p ks) (moved_same last k.body (position_in (kept_line s.cells k)))

  -- and in order
  pub plain_by : (ks : List Kept) → map plain (formatted_by s ks) ≡ settled (cells_after s (0, 0) ks)
  plain_by ks =
      settled_seen (λ (p : Position) (x : Content × ℕ). x.0) (formatted_after s no_formula ks)
      ∙ ap settled (plain_after no_formula ks)

-- ---- positions

pub plain_positions : (cs : List FormattedCell) → map (λ (c : CellEntry). c.0) (map plain cs) ≡ map (λ (c : FormattedCell). c.0) cs
plain_positions [] = refl
plain_positions (c ∷ cs) = ap (λ (l : List Position). c.0 ∷ l) (plain_positions cs)

-- the box of the same positions
pub bounds_plain : (cs : List FormattedCell) → bounds_of cs ≡ bounds_of (map plain cs)
bounds_plain [] = refl
bounds_plain (c ∷ cs) =
    bounds_first c cs
    ∙ ap (λ (b : Option Dimensions). Some (widened b c.0)) (bounds_plain cs)
    ∙ sym (bounds_first (plain c) (map plain cs))

-- ---- the cells of a MulRk

-- each has its own XF index
pub own_formats : (k : Kept) (last i : ℕ) (cs : List CellEntry) → k.typ ≡ types.MUL_RK
    → with_formats (xf_in last k) i cs ≡ with_formats (xf_at k.body) i cs
own_formats k last i [] typ = refl
own_formats k last i (c ∷ cs) typ =
    let own : xf_in last k i ≡ xf_at k.body i = rw typ refl in
    ap (λ (xf : ℕ). with_format c xf ∷ with_formats (xf_in last k) (i + 1) cs) own
    ∙ ap (λ (l : List FormattedCell). with_format c (xf_at k.body i) ∷ l) (own_formats k last (i + 1) cs typ)

pub run_formats : (f : ℕ → CellEntry) (xf : ℕ → ℕ) (a n : ℕ)
    → with_formats xf a (map f (range_with_len a n)) ≡ map (λ (i : ℕ). with_format (f i) (xf i)) (range_with_len a n)
run_formats f xf a zero = refl
run_formats f xf a (suc n) = ap (λ (l : List FormattedCell). with_format (f a) (xf a) ∷ l) (run_formats f xf (a + 1) n)

-- and its place
pub run_places : (f : ℕ → CellEntry) (xf : ℕ → ℕ) (offset a n : ℕ)
    → map (place_of offset) (with_formats xf a (map f (range_with_len a n)))
    ≡ map (λ (i : ℕ). place_of offset (with_format (f i) (xf i))) (range_with_len a n)
run_places f xf offset a zero = refl
run_places f xf offset a (suc n) =
    ap (λ (l : List FormattedPlace). place_of offset (with_format (f a) (xf a)) ∷ l) (run_places f xf offset (a + 1) n)
