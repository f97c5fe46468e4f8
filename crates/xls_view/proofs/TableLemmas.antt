-- Formulas and regions by the table of a sheet's records.
use Rattle.std.proofs.Common.{◌≡◌, ℕ, List, [], take, drop, refl, sym, ◌∙◌, Bool, true, false, Option, Some, None, Result, Ok, Err, arith}
use Rattle.std.specs.Prelude.{◌==◌, if◌then◌else◌, slice_index}
use Rattle.xls_bytes.specs.Numbers.{le}
use Rattle.xls_stream.specs.Listing.{Kept}
use Rattle.xls_stream.specs.declared.part.Part.TheVariants as parts
use Rattle.xls_stream.specs.declared.types.TheConstants as types
use Rattle.xls_data.specs.Content.{Content}
use Rattle.xls_dates.specs.declared.formats.CellFormat.{CellFormat}
use Rattle.xls_record.specs.Reading.{◌>>=◌, ◌>>◌, at_least, gives}
use Rattle.xls_record.specs.declared.error.XlsError.{XlsError}
use Rattle.xls_biff.specs.Cells.{Position, class_at, position_at}
use Rattle.xls_biff.specs.Records.Formula.{formula_value_at, formula_at, special_value}
use Rattle.xls_biff.specs.Records.MergeCells.{merges_at}
use Rattle.xls_biff.specs.SheetTable.{CellContext, SheetRecord, formula_record, regions_record, sheet_record_at}
use Rattle.xls_biff.proofs.TableLemmas.{each_kind}
use Rattle.xls_view.specs.Formulas.{formula_in, formula_of, formula_from}
use Rattle.xls_view.specs.SheetContents.{regions_in, regions_at}
use Rattle.xls_data.specs.declared.regions.Dimensions.{Dimensions}

-- ---- no class and no date system changes where a formula stands, and its tokens

abbrev Read : Type 0
Read = Result (Option Content) XlsError

same_value : (c d : Option CellFormat) (x y : Bool) (bytes tokens : List ℕ) (p : Position)
    → formula_in (formula_value_at c x bytes >>= (λ v. Ok (p, v, tokens))) ≡ formula_in (formula_value_at d y bytes >>= (λ v. Ok (p, v, tokens)))
same_value c d x y bytes tokens p = by_test (le (take 2 (drop 6 bytes)) == 0xFFFF) (special_value (slice_index bytes 0) (slice_index bytes 2)) _ _
  where
    by_test : (t : Bool) (special : Read) (a b : Content)
        → formula_in ((if t then special else Ok (Some a)) >>= (λ v. Ok (p, v, tokens))) ≡ formula_in ((if t then special else Ok (Some b)) >>= (λ v. Ok (p, v, tokens)))
    by_test true special a b = refl
    by_test false special a b = refl

same_formula : (classes : List CellFormat) (is_1904 : Bool) (body : List ℕ) → formula_in (formula_at [] false body) ≡ formula_in (formula_at classes is_1904 body)
same_formula classes is_1904 body = long (at_least 20 parts.Formula body)
  where
    long : (r : Result (Unit {0}) XlsError)
        → formula_in (r >> (formula_value_at (class_at [] body) false (take 8 (drop 6 body)) >>= (λ v. Ok (position_at body, v, drop 20 body))))
        ≡ formula_in (r >> (formula_value_at (class_at classes body) is_1904 (take 8 (drop 6 body)) >>= (λ v. Ok (position_at body, v, drop 20 body))))
    long (Err e) = refl
    long (Ok u) = same_value (class_at [] body) (class_at classes body) false is_1904 (take 8 (drop 6 body)) (drop 20 body) (position_at body)

-- ---- the table

in_input : (r : Result (Position × Option Content × List ℕ) XlsError) → formula_in r ≡ formula_from (gives (λ f. formula_record f.0 f.1 f.2) r)
in_input (Ok f) = refl
in_input (Err e) = refl

-- a record of another type is no formula
other : (s : CellContext) (typ : ℕ) (body : List ℕ) → (typ == types.FORMULA) ≡ false → formula_from (sheet_record_at s typ body) ≡ None
other s typ body f =
    each_kind (λ r. formula_from r ≡ None) (λ e. refl) refl (λ cs. refl) (λ c. refl) (λ cs. refl) typ
    (λ is at value tokens. absurd (let same : (types.FORMULA == types.FORMULA) ≡ false = rw is at f in cc)) (λ is rs. refl) s body

by_type : (s : CellContext) (typ : ℕ) (body : List ℕ) (t : Bool) → (typ == 0x0006) ≡ t
    → (if t then formula_in (formula_at [] false body) else None) ≡ formula_from (sheet_record_at s typ body)
by_type s typ body true e =
    let six : typ ≡ 6 = grind arith in
    rw six (same_formula s.classes s.is_1904 body ∙ in_input (formula_at s.classes s.is_1904 body))
by_type s typ body false e = sym (other s typ body e)

pub formulas_by_the_table : (s : CellContext) (k : Kept) → formula_of k ≡ formula_from (sheet_record_at s k.typ k.body)
formulas_by_the_table s k = by_type s k.typ k.body (k.typ == 6) refl

-- ---- regions

abbrev pub regions_from : Result SheetRecord XlsError → List Dimensions
regions_from (Ok (regions_record rs)) = rs
regions_from line = []

in_regions : (r : Result (List Dimensions) XlsError) → regions_in r ≡ regions_from (gives regions_record r)
in_regions (Ok rs) = refl
in_regions (Err e) = refl

-- a record of another type has no region
no_merge : (s : CellContext) (typ : ℕ) (body : List ℕ) → (typ == types.MERGE_CELLS) ≡ false → regions_from (sheet_record_at s typ body) ≡ []
no_merge s typ body f =
    each_kind (λ r. regions_from r ≡ []) (λ e. refl) refl (λ cs. refl) (λ c. refl) (λ cs. refl) typ (λ is at value tokens. refl)
    (λ is rs. absurd (let same : (types.MERGE_CELLS == types.MERGE_CELLS) ≡ false = rw is at f in cc)) s body

by_merge : (s : CellContext) (typ : ℕ) (body : List ℕ) (t : Bool) → (typ == 0x00E5) ≡ t
    → (if t then regions_in (merges_at body) else []) ≡ regions_from (sheet_record_at s typ body)
by_merge s typ body true e = let is : typ ≡ 0x00E5 = grind arith in rw is (in_regions (merges_at body))
by_merge s typ body false e = sym (no_merge s typ body e)

pub regions_by_the_table : (s : CellContext) (k : Kept) → regions_at k ≡ regions_from (sheet_record_at s k.typ k.body)
regions_by_the_table s k = by_merge s k.typ k.body (k.typ == 0x00E5) refl
