-- What is found of a record, by its line of the table.
use Rattle.std.proofs.Common.{◌≡◌, ◌<◌, List, [], ◌∷◌, ◌++◌, map, refl, sym, ap, subst, ◌∙◌, append_assoc, arith, false, Option, Some, None, Ok}
use Rattle.std.specs.Prelude.{◌==◌}
use Rattle.std.proofs.lemmas.List.{append-nil, map-append}
use Rattle.xls_stream.specs.Listing.{Kept}
use Rattle.xls_stream.specs.declared.types.TheConstants as types
use Rattle.xls_data.specs.Content.{Content}
use Rattle.xls_data.specs.declared.regions.Dimensions.{Dimensions}
use Rattle.xls_range.specs.Bounds.{bounds_of}
use Rattle.xls_biff.specs.Cells.{CellEntry, Position}
use Rattle.xls_biff.specs.SheetTable.{CellContext, SheetRecord, empty_record, cells_record, shared_record, string_record, formula_record, regions_record, formula_position}
use Rattle.xls_meaning.specs.SheetTable.{kept_line}
use Rattle.xls_meaning.specs.Order.{somes}
use Rattle.xls_meaning.specs.Settings.{Settings}
use Rattle.xls_view.specs.SheetContents.{cells_after, regions_at, regions_of}
use Rattle.xls_view.specs.Formulas.{Formula, formula_from, formulas_kept}
use Rattle.xls_view.specs.SheetPlacing.{IsAscent}
use Rattle.xls_view.specs.declared.ascent.Ascent.{Ascent}
use Rattle.xls_view.proofs.TableLemmas.{formulas_by_the_table}
use Rattle.xls_view.specs.Surveying.{IsCellAt, IsFound, IsSurvey, box_found, formula_listed, widened}
use Rattle.xls_view.specs.declared.survey.FoundCells.{FoundCells}
use Rattle.xls_view.specs.declared.survey.Survey.{Survey}
use Rattle.xls_view.proofs.BoundsLemmas.{bounds_last}

-- ---- what was found

pub found_none : (found : FoundCells) (cells more : List CellEntry) → more ≡ [] → IsFound found cells → IsFound found (cells ++ more)
found_none found cells more e h = rw (e, append-nil cells) h

pub found_one : (found : FoundCells) (cells more : List CellEntry) (p : Position) (v : Content) → more ≡ (p, v) ∷ []
    → IsFound found (cells ++ (p, v) ∷ []) → IsFound found (cells ++ more)
found_one found cells more p v e h = rw e h

pub found_with : (found : FoundCells) (cells : List CellEntry) (p : Position) (v : Content) (b : Option Dimensions)
    → IsAscent found.ascent (map (λ (c : CellEntry). c.0) cells ++ p ∷ []) → box_found found ≡ Some (widened b p) → b ≡ bounds_of cells
    → 0 < found.ascent.count → IsFound found (cells ++ (p, v) ∷ [])
found_with found cells p v b a w e some =
    record {
      unbounded = λ z. absurd (omega (arith, z, some));
      ascent = subst (IsAscent found.ascent) (sym (map-append (λ (c : CellEntry). c.0) cells ((p, v) ∷ []))) a;
      bounds = w ∙ ap (λ (x : Option Dimensions). Some (widened x p)) e ∙ sym (bounds_last cells (p, v));
    }

-- ---- no elements, and one

pub no_more : {X : Type 0} (at : X → Position) (xs : List X) → map at xs ≡ [] → xs ≡ []
no_more at [] e = refl
no_more at (x ∷ xs) e = absurd cc

pub at_position : (cells : List CellEntry) (p : Position) (c : CellEntry) → p ≡ c.0 → c ∷ [] ≡ cells → IsCellAt (Some p) cells
at_position cells p c e h = rw e (c.1, sym h)

-- ---- formulas

-- that of a record by its line
listed_by : (s : CellContext) (k : Kept) (g : SheetRecord) → kept_line s k ≡ Ok g → formula_listed k ≡ somes (formula_from (Ok g) ∷ [])
listed_by s k g h =
    ap (λ (o : Option Formula). somes (o ∷ [])) (formulas_by_the_table s k ∙ ap formula_from h)

place_from : (g : SheetRecord) → map (λ (f : Formula). f.0) (somes (formula_from (Ok g) ∷ [])) ≡ somes (formula_position g ∷ [])
place_from empty_record = refl
place_from (cells_record cs) = refl
place_from (shared_record c) = refl
place_from (string_record cs) = refl
place_from (formula_record p value tokens) = refl
place_from (regions_record rs) = refl

all_places : (s : CellContext) (k : Kept) (g : SheetRecord) (formulas : List Formula) → kept_line s k ≡ Ok g
    → map (λ (f : Formula). f.0) (formulas ++ formula_listed k) ≡ map (λ (f : Formula). f.0) formulas ++ somes (formula_position g ∷ [])
all_places s k g formulas h =
    map-append (λ (f : Formula). f.0) formulas (formula_listed k)
    ∙ ap (λ (fs : List Formula). map (λ (f : Formula). f.0) formulas ++ map (λ (f : Formula). f.0) fs) (listed_by s k g h)
    ∙ ap (λ (ps : List Position). map (λ (f : Formula). f.0) formulas ++ ps) (place_from g)

pub formula_found : (s : CellContext) (k : Kept) (g : SheetRecord) (found : Ascent) (formulas : List Formula) (p : Position) → Some p ≡ formula_position g
    → kept_line s k ≡ Ok g → IsAscent found (map (λ (f : Formula). f.0) formulas ++ p ∷ [])
    → IsAscent found (map (λ (f : Formula). f.0) (formulas ++ formula_listed k))
formula_found s k g found formulas p e h a =
    let here : somes (Some p ∷ []) ≡ somes (formula_position g ∷ []) = ap (λ (o : Option Position). somes (o ∷ [])) e in
    subst (IsAscent found) (ap (λ (ps : List Position). map (λ (f : Formula). f.0) formulas ++ ps) here ∙ sym (all_places s k g formulas h)) a

pub formula_not_found : (s : CellContext) (k : Kept) (g : SheetRecord) (found : Ascent) (formulas : List Formula) → None ≡ formula_position g
    → kept_line s k ≡ Ok g → IsAscent found (map (λ (f : Formula). f.0) formulas)
    → IsAscent found (map (λ (f : Formula). f.0) (formulas ++ formula_listed k))
formula_not_found s k g found formulas e h a =
    let here : ◌≡◌ {A = List Position} [] (somes (formula_position g ∷ [])) = ap (λ (o : Option Position). somes (o ∷ [])) e in
    let places = map (λ (f : Formula). f.0) formulas in
    subst (IsAscent found) (sym (append-nil places) ∙ ap (λ (ps : List Position). places ++ ps) here ∙ sym (all_places s k g formulas h)) a

-- ---- regions

pub no_regions_yet : (k : Kept) (rs : List Dimensions) → rs ≡ [] → (k.typ ≡ types.MERGE_CELLS → ⊥) → rs ++ regions_at k ≡ []
no_regions_yet k rs e apart =
    let typ : (k.typ == types.MERGE_CELLS) ≡ false = grind arith in
    rw (e, typ) refl

-- ---- all records

-- one more of what is gone through, and the others
pub more_done : {X : Type 0} (done here left before all : List X) → done ++ before ≡ all → before ≡ here ++ left → (done ++ here) ++ left ≡ all
more_done {X} done here left before all e f = append_assoc done here left ∙ ap (λ (l : List X). done ++ l) (sym f) ∙ e

all_done : {X : Type 0} (done left all : List X) → done ++ left ≡ all → left ≡ [] → done ≡ all
all_done {X} done left all e f = sym (append-nil done) ∙ ap (λ (l : List X). done ++ l) (sym f) ∙ e

pub survey_done : (survey : Survey) (s : Settings) (last : Position) (ks : List Kept) (es all : List CellEntry) (fs all_fs : List Formula) (rs all_rs : List Dimensions)
    → IsSurvey survey es fs rs → es ++ cells_after s last ks ≡ all → fs ++ formulas_kept ks ≡ all_fs → rs ++ regions_of ks ≡ all_rs → ks ≡ []
    → IsSurvey survey all all_fs all_rs
survey_done survey s last ks es all fs all_fs rs all_rs h e f g none =
    rw (
      sym (all_done es (cells_after s last ks) all e (ap (cells_after s last) none)),
      sym (all_done fs (formulas_kept ks) all_fs f (ap formulas_kept none)),
      sym (all_done rs (regions_of ks) all_rs g (ap regions_of none)),
    ) h
