-- What opening answers, by what its bytes hold.
use Rattle.std.proofs.Common.{◌≡◌, ℕ, ◌<◌, ◌≤◌, List, ◌++◌, length, refl, sym, ap, subst, ◌∙◌, Option, Some, None, Result, Ok, Err}
use Rattle.std.specs.Prelude.{IfErr, IfSome}
use Rattle.std.specs.Option.{option_or}
use Rattle.std.specs.Io.KnownBytes.{Consumes, IsAtEnd}
use Rattle.std.proofs.lemmas.List.{append-nil}
use Rattle.xls_record.specs.declared.error.XlsError.{XlsError}
use Rattle.xls_record.specs.declared.error.XlsError.TheVariants as errors
use Rattle.xls_meaning.specs.GlobalsTable.{forced_fault}
use Rattle.xls_open.specs.Workbook.{rules_of}
use Rattle.xls_meaning.specs.Faults.{outer_fault, FirstAfter, FirstFault, IsSound}
use Rattle.xls_output.specs.Causes.{Rose}
use Rattle.xls_record.specs.SourceState.{SourceState}
use Rattle.xls_open.specs.Opening.{IsOfOpening, OpenCause}
use Rattle.xls_record.specs.Bounded.{ReadCause}
use Rattle.xls_meaning.specs.Rules.{Rules}
use Rattle.xls_open.specs.declared.options.XlsOptions.{XlsOptions}
use Rattle.xls_open.specs.Checking.{FirstChecked, checked}
use Rattle.xls_open.proofs.AlikeLemmas.{checked_alike}
use Rattle.xls_open.proofs.ClearLemmas.{IsClear, forced_clear, of_stream, is_of_opening}
use Rattle.xls_meaning.proofs.LawLemmas.{limit_some}

-- ---- opening

-- and of one past the limit
pub limit_first : (rules : Rules) (bytes : List ℕ) → rules.max_bytes < length bytes
    → FirstFault rules bytes (errors.TooLarge rules.max_bytes)
limit_first rules bytes past =
    let same : outer_fault rules bytes ≡ Some (errors.TooLarge rules.max_bytes) =
    ap (λ (o : Option XlsError). option_or o (forced_fault rules.force_codepage)) (limit_some rules bytes past) in
    subst (λ (o : Option XlsError). FirstAfter o rules bytes (errors.TooLarge rules.max_bytes)) (sym same) refl

-- a refusal of the read is one of the open; of bytes past the limit that is their first fault
past_limit : (options : XlsOptions) (left : Option (List ℕ)) → IfSome left (λ bytes. options.max_bytes < length bytes)
    → IfSome left (λ bytes. FirstFault (rules_of options) bytes (errors.TooLarge options.max_bytes))
past_limit options None past = tt
past_limit options (Some bytes) past = limit_first (rules_of options) bytes past

pub read_cause : (options : XlsOptions) (was now : SourceState) (e : XlsError)
    → ReadCause options.max_bytes was now e → OpenCause options was now e
read_cause options was now errors.Io c = c
read_cause options was now errors.Memory c = tt
read_cause options was now (errors.TooLarge n) c =
    subst (λ (m : ℕ). OpenCause options was now (errors.TooLarge m)) (sym c.0) (past_limit options was.left c.1)
read_cause options was now e c = absurd c

-- what a source had left and has read to its end are these bytes
pub all_read : (left after : Option (List ℕ)) (bytes : List ℕ) → Consumes left after bytes
    → IsAtEnd after → IfSome left (λ all. all ≡ bytes)
all_read None after bytes c e = tt
all_read (Some all) None bytes c e = absurd c
all_read (Some all) (Some rest) bytes c e = c ∙ ap (λ (x : List ℕ). bytes ++ x) e ∙ append-nil bytes

-- each refusal is one of opening
pub read_named : (limit : ℕ) (was now : SourceState) (e : XlsError) → ReadCause limit was now e → IsOfOpening e
read_named limit was now errors.Io c = tt
read_named limit was now errors.Memory c = tt
read_named limit was now (errors.TooLarge n) c = tt
read_named limit was now e c = absurd c

-- ---- bytes that were checked

first_clear : (o : Option XlsError) (rules : Rules) (bytes : List ℕ) (e : XlsError) → IsClear o → FirstAfter o rules bytes e → IsClear (Some e)
first_clear None rules bytes e c h = of_stream rules bytes e h
first_clear (Some f) rules bytes e c h = subst (λ (x : XlsError). IsClear (Some x)) (sym h) c

checked_clear : (options : XlsOptions) (bytes : List ℕ) (e : XlsError) → FirstChecked options.force_codepage options.max_cells bytes e → IsClear (Some e)
checked_clear options bytes e h =
    first_clear (forced_fault options.force_codepage) (checked options.force_codepage options.max_cells) bytes e (forced_clear options.force_codepage) h

-- the first fault that a check finds of bytes within the limit is one of opening
first_of_left : (options : XlsOptions) (bytes : List ℕ) (left : Option (List ℕ)) (e : XlsError) → IfSome left (λ all. all ≡ bytes)
    → FirstFault (rules_of options) bytes e → IfSome left (λ all. FirstFault (rules_of options) all e)
first_of_left options bytes None e same first = tt
first_of_left options bytes (Some all) e same first = subst (λ (x : List ℕ). FirstFault (rules_of options) x e) (sym same) first

pub checked_cause : (options : XlsOptions) (bytes : List ℕ) (was now : SourceState) (e : XlsError) → IfSome was.left (λ all. all ≡ bytes)
    → length bytes ≤ options.max_bytes → FirstChecked options.force_codepage options.max_cells bytes e → OpenCause options was now e
checked_cause options bytes was now errors.Memory same within h = tt
checked_cause options bytes was now errors.Io same within h = absurd (checked_clear options bytes errors.Io h)
checked_cause options bytes was now e same within h =
    first_of_left options bytes was.left e same ((checked_alike (rules_of options) bytes within e).1 h)

pub checked_named : (options : XlsOptions) (bytes : List ℕ) (e : XlsError) → FirstChecked options.force_codepage options.max_cells bytes e → IsOfOpening e
checked_named options bytes e h = is_of_opening e (checked_clear options bytes e h)

-- bytes within the limit in which a check finds no fault have none
pub checked_sound : (options : XlsOptions) (bytes : List ℕ) → length bytes ≤ options.max_bytes
    → ((e : XlsError) → FirstChecked options.force_codepage options.max_cells bytes e → ⊥) → IsSound (rules_of options) bytes
checked_sound options bytes within none = λ e h. none e ((checked_alike (rules_of options) bytes within e).0 h)

-- ---- completeness

-- what holds of all bytes holds of those that a source has left
of_each : (P : List ℕ → Type 0) (left : Option (List ℕ)) → ((bytes : List ℕ) → P bytes) → IfSome left P
of_each P None each = tt
of_each P (Some bytes) each = each bytes

unsound : (options : XlsOptions) (left : Option (List ℕ)) (e : XlsError) → IfSome left (λ bytes. FirstFault (rules_of options) bytes e)
    → IfSome left (λ bytes. IsSound (rules_of options) bytes → e ≡ errors.Memory)
unsound options None e first = tt
unsound options (Some bytes) e first = λ sound. absurd (sound e first)

complete_error : (options : XlsOptions) (was now : SourceState) (e : XlsError)
    → OpenCause options was now e → (Rose was.faults now.faults → ⊥)
    → IfSome was.left (λ bytes. IsSound (rules_of options) bytes → e ≡ errors.Memory)
complete_error options was now errors.Io cause quiet = absurd (quiet cause)
complete_error options was now errors.Memory cause quiet =
    of_each (λ bytes. IsSound (rules_of options) bytes → errors.Memory ≡ errors.Memory) was.left (λ bytes sound. refl)
complete_error options was now e cause quiet = unsound options was.left e cause

-- a source that doesn't fail, and bytes without a fault, leave only running out of memory
pub complete : {B : Type 0} (options : XlsOptions) (was now : SourceState) (r : Result B XlsError)
    → IfErr r (OpenCause options was now) → (Rose was.faults now.faults → ⊥)
    → IfSome was.left (λ bytes. IsSound (rules_of options) bytes → IfErr r (λ e. e ≡ errors.Memory))
complete options was now (Ok b) cause quiet =
    of_each (λ bytes. IsSound (rules_of options) bytes → Unit {0}) was.left (λ bytes sound. tt)
complete options was now (Err e) cause quiet = complete_error options was now e cause quiet
