-- The workbook that bytes open to, by a view of them.
use Rattle.std.proofs.Common.{◌≡◌, ℕ, ◌≤◌, List, length, refl, subst, None, Result, Ok, Err}
use Rattle.std.specs.Prelude.{IfOk, IfErr}
use Rattle.xls_record.specs.declared.error.XlsError.{XlsError}
use Rattle.xls_record.specs.declared.error.XlsError.TheVariants as errors
use Rattle.xls_open.specs.Checking.{FirstChecked}
use Rattle.xls_open.specs.Opening.{default_options, default_rules}
use Rattle.xls_open.specs.Workbook.{rules_of}
use Rattle.xls_open.specs.declared.options.XlsOptions.{XlsOptions}
use Rattle.xls_refs.specs.Citing.{IsBookCited}
use Rattle.xls_refs.specs.Views.{cited_in}
use Rattle.xls_refs.proofs.ViewLemmas.{viewed_is_cited}
use Rattle.xls_view.specs.Viewing.{IsViewed, ViewCause, Viewed}
use Rattle.xls_report.proofs.CheckLemmas.{first_checked, none_checked}
use Rattle.xls_command.specs.Endings.{IsViewRefusal, OpensTo}

-- within the limit, the workbook that shows what a view shows is opened from its bytes
opened_by : (bytes : List ℕ) (view : Viewed) → length bytes ≤ default_options.max_bytes
    → IsViewed default_rules bytes view → OpensTo bytes view.book
opened_by bytes view within h = (
  record {
    options = default_options;
    sheets = view.book.sheets;
    names = view.book.names;
    contents = view.book.contents;
    is_1904 = view.book.is_1904;
    classes = view.book.classes;
  },
  record {
    sound = none_checked bytes within h.sound;
    within = within;
    entries = h.entries;
    carries = h.carries;
    kept = refl;
    every = h.every;
  },
  refl,
)

pub opens : (options : XlsOptions) (bytes : List ℕ) (r : Result Viewed XlsError) → options ≡ default_options
    → length bytes ≤ default_options.max_bytes → IfOk r (IsViewed (rules_of options) bytes) → IfOk r (λ view. OpensTo bytes view.book)
opens options bytes (Ok view) same within h =
    opened_by bytes view within (subst (λ (o : XlsOptions). IsViewed (rules_of o) bytes view) same h)
opens options bytes (Err e) same within h = tt

-- and what its formulas cite is told by the view
pub cites : (options : XlsOptions) (bytes : List ℕ) (r : Result Viewed XlsError) → options ≡ default_options
    → IfOk r (IsViewed (rules_of options) bytes) → IfOk r (λ view. IsBookCited default_rules bytes (cited_in view))
cites options bytes (Ok view) same h =
    subst (λ (o : XlsOptions). IsBookCited (rules_of o) bytes (cited_in view)) same (viewed_is_cited (rules_of options) bytes view h)
cites options bytes (Err e) same h = tt

-- and another refusal than out of memory is the first fault
checked : (options : XlsOptions) (bytes : List ℕ) (e : XlsError) → options ≡ default_options
    → (e ≡ errors.Memory → ⊥) → ViewCause (rules_of options) bytes e → FirstChecked None 33_554_432 bytes e
checked options bytes errors.Memory same other cause = absurd (other refl)
checked options bytes e same other cause = rw same at cause

pub refused : (options : XlsOptions) (bytes : List ℕ) (r : Result Viewed XlsError) → options ≡ default_options
    → length bytes ≤ default_options.max_bytes → IfErr r (ViewCause (rules_of options) bytes) → IfErr r (IsViewRefusal bytes)
refused options bytes (Ok view) same within cause = tt
refused options bytes (Err e) same within cause =
    λ other. first_checked bytes e within (checked options bytes e same other cause)
