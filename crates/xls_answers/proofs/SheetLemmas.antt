-- A sheet that isn't there.
use Rattle.std.proofs.Common.{◌≡◌, ℕ, List, Option, Some, false, Result, Ok, Err, inl, inr, refl, sym, subst}
use Rattle.std.specs.Result.{IsErrAnd}
use Rattle.std.proofs.KnownBytes.{Keeps-refl}
use Rattle.xls_record.specs.declared.error.XlsError.{XlsError}
use Rattle.xls_record.specs.declared.error.XlsError.TheVariants as errors
use Rattle.xls_hidden_cells.specs.declared.sight.Sight.{Sight}
use Rattle.xls_open.specs.declared.options.XlsOptions.{XlsOptions}
use Rattle.xls_answers.specs.Failures.{failure_of_stream}
use Rattle.xls_answers.specs.HiddenParts.{SkipsBy}
use Rattle.xls_answers.specs.Sheets.{BeginsTableOf, HasNoSheet, IsTableOf, MissesSheet, WritesCells, WritesSheetAt, chosen_index}
use Rattle.xls_answers.specs.Views.{OfView}
use Rattle.xls_answers.specs.declared.failure.Failure.{Failure}
use Rattle.xls_answers.specs.declared.failure.Failure.TheVariants as failures
use Rattle.xls_hidden.specs.Hidden.{Hidden}
use Rattle.xls_output.specs.SinkState.{SinkState}
use Rattle.xls_meaning.specs.Rules.{Rules}
use Rattle.xls_biff.specs.Cells.{CellEntry}
use Rattle.xls_output.specs.declared.stop.Stop.{Stop}
use Rattle.xls_tables.specs.Rows.{form_fields}
use Rattle.xls_tables.specs.Tables.{DeliversTable, seen_table}
use Rattle.xls_view.specs.Formats.{FormattedCell}
use Rattle.xls_view.specs.Viewing.{IsViewed, ViewCause, Viewed}
use Rattle.xls_readable.specs.declared.choices.SheetChoice.{SheetChoice}
use Rattle.xls_readable.specs.declared.choices.Table.{Table}

module _ (rules : Rules) (bytes : List ℕ) (choice : SheetChoice) (IsWhole IsPart : Viewed → List ℕ → Type 0) (view : Viewed) (w : SinkState) where
  refused : (f : Failure) → IsViewed rules bytes view → HasNoSheet choice view.book f
      → OfView rules bytes IsWhole IsPart (MissesSheet choice) w w (Err f)
  refused (failures.Missing m) is h = (view, is, h, (Keeps-refl w.written, refl))
  refused (failures.Stopped s) is h = inl (h, (Keeps-refl w.written, refl))
  refused (failures.File fault) is h = absurd h
  refused failures.Obfuscated is h = absurd h
  refused (failures.Stream e) is h = absurd h
  refused (failures.Canonical e) is h = absurd h

  -- nothing is written
  pub no-sheet : (f : Failure) (r : Result (Unit {0}) Failure) → IsErrAnd r (λ d. d ≡ f) → IsViewed rules bytes view
      → HasNoSheet choice view.book f
      → OfView rules bytes IsWhole IsPart (MissesSheet choice) w w r
  no-sheet f (Ok x) none is h = absurd none
  no-sheet f (Err d) e is h =
      subst (λ (x : Failure). OfView rules bytes IsWhole IsPart (MissesSheet choice) w w (Err x))
      (sym e) (refused f is h)

  unread : (e : XlsError) → ViewCause rules bytes e → OfView rules bytes IsWhole IsPart (MissesSheet choice) w w (Err (failure_of_stream e))
  unread errors.Memory cause = inl (refl, (Keeps-refl w.written, refl))
  unread errors.Io cause = (cause, (Keeps-refl w.written, refl))
  unread (errors.TooLarge n) cause = (cause, (Keeps-refl w.written, refl))
  unread (errors.TooManyCells n) cause = (cause, (Keeps-refl w.written, refl))
  unread (errors.Cfb e) cause = (cause, (Keeps-refl w.written, refl))
  unread errors.Password cause = (cause, (Keeps-refl w.written, refl))
  unread (errors.Len expected found part) cause = (cause, (Keeps-refl w.written, refl))
  unread (errors.Unrecognized part n) cause = (cause, (Keeps-refl w.written, refl))
  unread (errors.EoStream part) cause = (cause, (Keeps-refl w.written, refl))
  unread errors.ContinueRecordTooShort cause = (cause, (Keeps-refl w.written, refl))
  unread errors.StackLen cause = (cause, (Keeps-refl w.written, refl))
  unread (errors.InvalidFormula n) cause = (cause, (Keeps-refl w.written, refl))
  unread (errors.IfTab n) cause = (cause, (Keeps-refl w.written, refl))
  unread (errors.Etpg n) cause = (cause, (Keeps-refl w.written, refl))
  unread (errors.InvalidFormat n) cause = (cause, (Keeps-refl w.written, refl))
  unread (errors.WorksheetNotFound name) cause = (cause, (Keeps-refl w.written, refl))

  -- the bytes aren't read
  pub not-read : (e : XlsError) (r : Result (Unit {0}) Failure) → IsErrAnd r (λ d. d ≡ failure_of_stream e) → ViewCause rules bytes e
      → OfView rules bytes IsWhole IsPart (MissesSheet choice) w w r
  not-read e (Ok x) none cause = absurd none
  not-read e (Err d) is cause =
      subst (λ (x : Failure). OfView rules bytes IsWhole IsPart (MissesSheet choice) w w (Err x)) (sym is) (unread e cause)

-- writing of the sheet that is chosen stops
stopped : (rules : Rules) (options : XlsOptions) (bytes : List ℕ) (choice : SheetChoice) (table : Table) (sight : Sight) (view : Viewed) (n : ℕ)
    (hidden : Option Hidden) (a b : SinkState) (s : Stop) → IsViewed rules bytes view → Some n ≡ chosen_index choice view.book.sheets
    → SkipsBy sight options bytes view n hidden → WritesSheetAt table hidden view n a b (Err s)
    → OfView rules bytes (IsTableOf choice table sight options bytes) (BeginsTableOf choice table sight options bytes) (MissesSheet choice) a b
    (Err (failures.Stopped s))
stopped rules options bytes choice table sight view n hidden a b s is here skips (inl memory) = inl memory
stopped rules options bytes choice table sight view n hidden a b s is here skips (inr (text, part, stops)) =
    inr (view, is, text, (n, here, hidden, skips, part), stops)

pub sheet-stopped : (rules : Rules) (options : XlsOptions) (bytes : List ℕ) (choice : SheetChoice) (table : Table) (sight : Sight) (view : Viewed) (n : ℕ)
    (hidden : Option Hidden) (a b : SinkState) (s : Stop) (r : Result (Unit {0}) Failure) → IsErrAnd r (λ d. d ≡ failures.Stopped s)
    → IsViewed rules bytes view → Some n ≡ chosen_index choice view.book.sheets
    → SkipsBy sight options bytes view n hidden → WritesSheetAt table hidden view n a b (Err s)
    → OfView rules bytes (IsTableOf choice table sight options bytes) (BeginsTableOf choice table sight options bytes) (MissesSheet choice) a b r
sheet-stopped rules options bytes choice table sight view n hidden a b s (Ok x) none is here skips writes = absurd none
sheet-stopped rules options bytes choice table sight view n hidden a b s (Err d) e is here skips writes =
    subst (λ (x : Failure). OfView rules bytes (IsTableOf choice table sight options bytes) (BeginsTableOf choice table sight options bytes)
    (MissesSheet choice) a b (Err x)) (sym e) (stopped rules options bytes choice table sight view n hidden a b s is here skips writes)

-- ---- its text

-- the table of its cells
pub cells-written : (table : Table) (hidden : Option Hidden) (view : Viewed) (entries : List CellEntry) (cells : List FormattedCell) (a b : SinkState) (r : Result (Unit {0}) Stop)
    → table.is_exact ≡ false
    → DeliversTable (form_fields table.style table.delimiter view) table.begins_with_mark (seen_table hidden table.origin cells) a b r
    → WritesCells table hidden view entries cells a b r
cells-written table hidden view entries cells a b (Ok x) readable p = rw readable (p.text, p.table, p.wrote)
cells-written table hidden view entries cells a b (Err s) readable p = rw readable (inr (p.text, p.part, p.stops))
