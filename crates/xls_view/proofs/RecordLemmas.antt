-- The cells of a record that was read.
use Rattle.std.proofs.Common.{◌≡◌, ◌≢◌, ℕ, List, [], ◌∷◌, map, refl, sym, ap, ◌∙◌, Option, Some, None, Result, Ok, Err}
use Rattle.std.specs.Option.{option_map}
use Rattle.std.specs.List.{range_with_len}
use Rattle.xls_stream.specs.declared.types.TheConstants as types
use Rattle.xls_record.specs.declared.error.XlsError.{XlsError}
use Rattle.xls_biff.specs.SheetTable.{SheetRecord, HasItems, stands_for}
use Rattle.xls_biff.specs.declared.sheet_record.SheetRecord as read
use Rattle.xls_biff.specs.declared.sheet_record.SheetRecord.TheVariants as variant
use Rattle.xls_range.specs.Positions.{Position}
use Rattle.xls_biff.specs.Records.Rk.{rk_cell}
use Rattle.xls_meaning.specs.Settings.{Settings}
use Rattle.xls_meaning.specs.SheetTable.{adds}
use Rattle.xls_view.specs.Formats.{FormattedCell}
use Rattle.xls_view.specs.Formatting.{listed_formatted}
use Rattle.xls_view.specs.Values.{formatted_entry}
use Rattle.xls_view.specs.Walking.{FormattedSteps, run_of}
use Rattle.xls_view.specs.declared.value.SheetCell.{SheetCell}

-- ---- what was read of a record

-- it stands for what the line gives
pub read_as : (r : Result SheetRecord XlsError) (a g : SheetRecord) → r ≡ Ok a → r ≡ Ok g → a ≡ g
read_as r a g e h = let both : ◌≡◌ {A = Result SheetRecord XlsError} (Ok a) (Ok g) = sym e ∙ h in cc

-- no record without a fault has one
pub not_refused : {P : Type 0} (r : Result SheetRecord XlsError) (e : XlsError) (g : SheetRecord) → r ≡ Err e → r ≡ Ok g → P
not_refused r e g h k = absurd (let both : ◌≡◌ {A = Result SheetRecord XlsError} (Err e) (Ok g) = sym h ∙ k in cc)

-- ---- a MulRk

same_run : (a b : List ℕ × ℕ) → Some a ≡ Some b → a ≡ b
same_run a b e = cc

no_such : (a : List ℕ × ℕ) → ◌≡◌ {A = Option (List ℕ × ℕ)} None (Some a) → ⊥
no_such a e = absurd cc

pub no_run : (typ : ℕ) (body : List ℕ) (x : read.SheetRecord) → HasItems typ body x → typ ≢ types.MUL_RK → run_of x ≡ None
no_run typ body (variant.MulRk kept count) h apart = absurd (apart h.0)
no_run typ body _ h apart = refl

-- its cells are those of its record
pub run_cells : (s : Settings) (at : Position) (x : read.SheetRecord) (body : List ℕ) (count : ℕ) → run_of x ≡ Some (body, count)
    → (adds s.formulas at (stands_for s.cells x)).cells ≡ map (rk_cell s.cells.classes s.cells.is_1904 body) (range_with_len 0 count)
run_cells s at (variant.MulRk kept n) body count e =
    ap (λ (r : List ℕ × ℕ). map (rk_cell s.cells.classes s.cells.is_1904 r.0) (range_with_len 0 r.1)) (same_run (kept.now, n) (body, count) e)
run_cells s at _ body count e = absurd (no_such (body, count) e)

pub run_typ : (typ : ℕ) (bytes : List ℕ) (x : read.SheetRecord) (body : List ℕ) (count : ℕ) → HasItems typ bytes x → run_of x ≡ Some (body, count)
    → (typ ≡ types.MUL_RK) × (body ≡ bytes)
run_typ typ bytes (variant.MulRk kept n) body count h e = (h.0, sym (ap (λ (r : List ℕ × ℕ). r.0) (same_run (kept.now, n) (body, count) e)) ∙ h.1)
run_typ typ bytes _ body count h e = absurd (no_such (body, count) e)

-- ---- the first cell of a record

-- one cell, or none, and none after it
pub only_cell : (found : Option SheetCell) (cells after : List FormattedCell) → listed_formatted (option_map formatted_entry found) ≡ cells → after ≡ []
    → FormattedSteps cells found after
only_cell None cells after e f = (sym e, f)
only_cell (Some c) cells after e f = sym e ∙ ap (λ (l : List FormattedCell). formatted_entry c ∷ l) (sym f)

-- the first of a run, and those after it
pub run_steps : (cells run : List FormattedCell) (found : Option SheetCell) (after : List FormattedCell) → cells ≡ run → FormattedSteps run found after → FormattedSteps cells found after
run_steps cells run found after e h = rw e h
