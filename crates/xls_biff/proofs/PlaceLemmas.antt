-- Where Formulas stand.
use Rattle.std.proofs.Common.{◌≡◌, ◌≢◌, ℕ, ◌≤◌, List, length, take, drop, refl, sym, ap, ◌∙◌, arith, Bool, true, false, Option, Some, None, Result, Ok, Err}
use Rattle.std.specs.Prelude.{◌==◌, nat_lt}
use Rattle.xls_stream.specs.declared.part.Part.TheVariants as parts
use Rattle.xls_data.specs.Content.{Content}
use Rattle.xls_dates.specs.declared.formats.CellFormat.{CellFormat}
use Rattle.xls_record.specs.declared.error.XlsError.{XlsError}
use Rattle.xls_record.specs.declared.error.XlsError.TheVariants.{Len}
use Rattle.xls_record.specs.Reading.{◌>>=◌}
use Rattle.xls_record.proofs.ReadingLemmas.{gives-ok}
use Rattle.xls_biff.specs.Cells.{Position, position_at, class_at}
use Rattle.xls_biff.specs.Records.Formula.{formula_value_at, formula_at}
use Rattle.xls_biff.specs.SheetTable.{CellContext, SheetRecord, formula_record, sheet_record_at, formula_position, position_in}
use Rattle.xls_biff.proofs.TableLemmas.{each_kind}
use Rattle.xls_stream.specs.declared.types.TheConstants as types

-- ---- a Formula

-- what a Formula without a fault is
record Stands (body : List ℕ) (f : Position × Option Content × List ℕ) : Type 0 where
  pub long : 20 ≤ length body
  pub place : f.0 ≡ position_at body

stands : (cs : List CellFormat) (b : Bool) (body : List ℕ) (f : Position × Option Content × List ℕ)
    → formula_at cs b body ≡ Ok f → Stands body f
stands cs b body f h = by_test (nat_lt (length body) 20) refl
  where
    long : nat_lt (length body) 20 ≡ false → 20 ≤ length body
    long t = grind arith

    found : 20 ≤ length body → (r : Result (Option Content) XlsError)
        → (r >>= (λ v. Ok (position_at body, v, drop 20 body))) ≡ Ok f → Stands body f
    found l (Ok v) e =
        let same : (position_at body, v, drop 20 body) ≡ f = cc in
        record { long = l; place = ap (λ (x : Position × Option Content × List ℕ). x.0) (sym same) }
    found l (Err e) h = absurd cc

    by_test : (t : Bool) → nat_lt (length body) 20 ≡ t → Stands body f
    by_test true t = absurd (let e : ◌≡◌ {A = Result (Position × Option Content × List ℕ) XlsError} (Err (Len 20 (length body) parts.Formula)) (Ok f) = rw t at h in cc)
    by_test false t = found (long t) (formula_value_at (class_at cs body) b (take 8 (drop 6 body))) (rw t at h)

pub at_formula : (settings : CellContext) (body : List ℕ) (place : Option Position)
    → (4 ≤ length body → place ≡ Some (position_at body)) → (g : SheetRecord)
    → sheet_record_at settings 6 body ≡ Ok g → place ≡ formula_position g
at_formula settings body place is g h =
    let f = gives-ok (λ f. formula_record f.0 f.1 f.2) (formula_at settings.classes settings.is_1904 body) g h in
    let s = stands settings.classes settings.is_1904 body f.0 f.1 in
    let long = s.long in
    is (omega (arith, long)) ∙ ap (λ (p : Position). Some p) (sym s.place) ∙ ap formula_position f.2

-- ---- another record

no_place : (settings : CellContext) (typ : ℕ) (body : List ℕ) → (typ == types.FORMULA) ≡ false
    → position_in (sheet_record_at settings typ body) ≡ None
no_place settings typ body other =
    each_kind (λ r. position_in r ≡ None) (λ e. refl) refl (λ cs. refl) (λ c. refl) (λ cs. refl) typ
    (λ is at value tokens. absurd (let same : (types.FORMULA == types.FORMULA) ≡ false = rw is at other in cc)) (λ is rs. refl) settings body

pub elsewhere : (settings : CellContext) (typ : ℕ) (body : List ℕ) (g : SheetRecord) → (typ == 0x0006) ≡ false
    → sheet_record_at settings typ body ≡ Ok g → None ≡ formula_position g
elsewhere settings typ body g other h = sym (no_place settings typ body other) ∙ ap position_in h

pub apart : (typ : ℕ) → typ ≢ 6 → (typ == 0x0006) ≡ false
apart typ other = grind arith
