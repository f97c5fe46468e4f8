-- The workbook of a view, and why there is none.
use Rattle.std.proofs.Common.{◌≡◌, ℕ, suc, ◌≤◌, List, [], ◌∷◌, length, refl, sym, ap, subst, ◌∙◌, Option, Some, None, Result, Ok, Err}
use Rattle.std.specs.Prelude.{IfErr, IfOk, IfSome}
use Rattle.std.specs.List.{AllByRecursion, AllZip}
use Rattle.std.proofs.lemmas.List.{length-map}
use Rattle.xls_record.specs.declared.error.XlsError.{XlsError}
use Rattle.xls_record.specs.declared.error.XlsError.TheVariants as errors
use Rattle.xls_meaning.specs.Settings.{Settings, SheetRecords, settings_of, sheets_of}
use Rattle.xls_meaning.specs.Reading.{IsReading, IsDisplayed, SheetView}
use Rattle.std.specs.Io.KnownBytes.{IsAtEnd}
use Rattle.xls_record.specs.Bounded.{ReadCause}
use Rattle.xls_record.specs.SourceState.{SourceState, TakesWithin}
use Rattle.xls_open.specs.Opening.{IsOfOpening, IsOpened, OpenCause, Opens}
use Rattle.xls_open.specs.Workbook.{IsOrdered, Workbook, rules_of}
use Rattle.xls_open.specs.declared.options.XlsOptions.{XlsOptions}
use Rattle.xls_open.proofs.OpeningLemmas.{checked_cause, checked_named, checked_sound, complete, read_cause, read_named}
use Rattle.xls_view.specs.Viewing.{IsViewed, ViewCause, Viewed}
use Rattle.xls_book.specs.Steps.{OpensBytes}

-- ---- what a view shows

module _ (s : Settings) (all : List SheetRecords) where
  displayed_many : (vs : List SheetView) (qs : List SheetRecords) → AllZip (IsDisplayed s all) vs qs → length vs ≡ length qs
  displayed_many [] [] a = refl
  displayed_many [] (q ∷ qs) a = absurd a
  displayed_many (v ∷ vs) [] a = absurd a
  displayed_many (v ∷ vs) (q ∷ qs) a = ap suc (displayed_many vs qs a.1)

  displayed_ordered : (vs : List SheetView) (qs : List SheetRecords) → AllZip (IsDisplayed s all) vs qs → AllByRecursion IsOrdered vs
  displayed_ordered [] qs a = tt
  displayed_ordered (v ∷ vs) [] a = absurd a
  displayed_ordered (v ∷ vs) (q ∷ qs) a = ((a.0.ascending, a.0.formulas_ascending), displayed_ordered vs qs a.1)

module _ (options : XlsOptions) (bytes : List ℕ) (v : Viewed) (is : IsViewed (rules_of options) bytes v) where
  reading : IsReading (rules_of options) is.entries v.book
  reading = is.every is.entries is.carries

  -- each sheet has its content
  pub as_many : length v.book.contents ≡ length v.book.sheets
  as_many =
      let qs = sheets_of (rules_of options) is.entries in
      displayed_many (settings_of (rules_of options) is.entries) qs v.book.contents qs reading.contents
      ∙ sym (length-map qs (λ (q : SheetRecords). q.0)) ∙ ap length (sym reading.sheets)

  -- in order
  pub all_ordered : AllByRecursion IsOrdered v.book.contents
  all_ordered =
      let qs = sheets_of (rules_of options) is.entries in
      displayed_ordered (settings_of (rules_of options) is.entries) qs v.book.contents qs reading.contents

-- ---- what opening answers

opened : (options : XlsOptions) (bytes : List ℕ) (book : Workbook) → length bytes ≤ options.max_bytes
    → OpensBytes options bytes (Ok book) → IsOpened options book bytes
opened options bytes book within o =
    let is = o.2 in
    record {
      sound = checked_sound options bytes within is.sound;
      within = within;
      entries = is.entries;
      carries = is.carries;
      kept = o.0;
      every = λ others c. subst (IsReading (rules_of options) others) (sym o.3) (is.every others c);
    }

open_ok : (options : XlsOptions) (bytes : List ℕ) (left : Option (List ℕ)) (r : Result Workbook XlsError) → IfSome left (λ all. all ≡ bytes)
    → length bytes ≤ options.max_bytes → OpensBytes options bytes r → IfOk r (λ book. IfSome left (IsOpened options book))
open_ok options bytes None (Ok book) same within o = tt
open_ok options bytes (Some all) (Ok book) same within o = subst (IsOpened options book) (sym same) (opened options bytes book within o)
open_ok options bytes left (Err e) same within o = tt

view_cause : (options : XlsOptions) (bytes : List ℕ) (was now : SourceState) (e : XlsError) → IfSome was.left (λ all. all ≡ bytes)
    → length bytes ≤ options.max_bytes → ViewCause (rules_of options) bytes e → OpenCause options was now e
view_cause options bytes was now errors.Memory same within c = tt
view_cause options bytes was now e same within c = checked_cause options bytes was now e same within c

view_named : (options : XlsOptions) (bytes : List ℕ) (e : XlsError) → ViewCause (rules_of options) bytes e → IsOfOpening e
view_named options bytes errors.Memory c = tt
view_named options bytes e c = checked_named options bytes e c

open_cause : (options : XlsOptions) (bytes : List ℕ) (was now : SourceState) (r : Result Workbook XlsError) → IfSome was.left (λ all. all ≡ bytes)
    → length bytes ≤ options.max_bytes → OpensBytes options bytes r → IfErr r (OpenCause options was now)
open_cause options bytes was now (Ok book) same within o = tt
open_cause options bytes was now (Err e) same within o = view_cause options bytes was now e same within o

open_named : (options : XlsOptions) (bytes : List ℕ) (r : Result Workbook XlsError) → OpensBytes options bytes r → IfErr r IsOfOpening
open_named options bytes (Ok book) o = tt
open_named options bytes (Err e) o = view_named options bytes e o

-- the read was refused
pub refused_open : (options : XlsOptions) (was now : SourceState) (e : XlsError) → ReadCause options.max_bytes was now e
    → TakesWithin options.max_bytes was now → was.faults ≤ now.faults → Opens options was now (Err e)
refused_open options was now e c prefix count =
    let cause = read_cause options was now e c in
    record {
      ok = tt;
      end = tt;
      cause = cause;
      named = read_named options.max_bytes was now e c;
      complete = λ quiet. complete {B = Workbook} options was now (Err e) cause quiet;
      prefix = prefix;
      count = count;
      faultless = tt;
    }

-- all was read, and these are the bytes
pub bytes_open : (options : XlsOptions) (bytes : List ℕ) (was now : SourceState) (r : Result Workbook XlsError)
    → IfSome was.left (λ all. all ≡ bytes) → length bytes ≤ options.max_bytes → OpensBytes options bytes r → IsAtEnd now.left
    → TakesWithin options.max_bytes was now → was.faults ≤ now.faults → now.faults ≡ was.faults → Opens options was now r
bytes_open options bytes was now (Ok book) same within o end prefix count faultless = record {
  ok = open_ok options bytes was.left (Ok book) same within o;
  end = end;
  cause = tt;
  named = tt;
  complete = λ quiet. complete {B = Workbook} options was now (Ok book) tt quiet;
  prefix = prefix;
  count = count;
  faultless = faultless;
}
bytes_open options bytes was now (Err e) same within o end prefix count faultless =
    let cause = open_cause options bytes was now (Err e) same within o in
    record {
      ok = tt;
      end = tt;
      cause = cause;
      named = open_named options bytes (Err e) o;
      complete = λ quiet. complete {B = Workbook} options was now (Err e) cause quiet;
      prefix = prefix;
      count = count;
      faultless = tt;
    }
