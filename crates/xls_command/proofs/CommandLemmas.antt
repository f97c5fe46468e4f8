-- How each command ends, by what opening, reading and writing answer.
use Rattle.std.proofs.Common.{◌≡◌, ◌↔◌, IsTrue, true, false, ℕ, ◌<◌, ◌≤◌, List, length, Option, Some, None, IfSome, Result, inl, inr, refl, sym, subst, arith}
use Rattle.std.specs.Str.{chars}
use Rattle.std.specs.Io.KnownBytes.{Consumes, IsAtEnd}
use Rattle.std.proofs.KnownBytes.{Consumes-whole}
use Rattle.xls_record.specs.declared.error.XlsError.{XlsError}
use Rattle.xls_record.specs.declared.error.XlsError.TheVariants as errors
use Rattle.xls_open.specs.Workbook.{Workbook, view_named}
use Rattle.xls_open.proofs.SameLemmas.{same_list_same_book}
use Rattle.xls_meaning.specs.Faults.{IsSound}
use Rattle.xls_open.specs.Opening.{IsOpened, default_options, default_rules}
use Rattle.xls_record.specs.Bounded.{ReadCause}
use Rattle.xls_record.specs.SourceState.{SourceState}
use Rattle.xls_output.specs.SinkState.{SinkState, TakesEach}
use Rattle.xls_report.specs.Faults.{fault_line}
use Rattle.xls_command.specs.Outputs.{IsOutput, IsRefusalText, MayWrite, ReadsNothing, EndsBy, Spec, reading, accepting_sound, spec_of, IsNameLine, HasSheet, HasCanonical}
use Rattle.xls_report.specs.Texts.{IsFirstLine, IsUnremadeLine}
use Rattle.xls_report.specs.Endings.{IsStreamFault, EndsWithError, EndsWithEither}
use Rattle.xls_command.specs.Endings.{Ends}
use Rattle.xls_command.specs.declared.command.Command.{Command}
use Rattle.xls_command.specs.declared.command.Command.TheVariants.{Dump, Sheets, Props, Check, Refs, Remake, Csv, Generate}
use Rattle.xls_report.specs.declared.ending.Ending.{Ending}
use Rattle.xls_output.specs.declared.stop.Stop.{Stop}
use Rattle.xls_report.proofs.CheckLemmas.{too_large, none_checked}
use Rattle.xls_command.proofs.EndingLemmas.{ends-either, ends-error, steady-either, steady-error}

-- ---- a command that reads all of the source

-- what its output, its refusal and its end say of each other
pub record IsReading (c : Spec) : Type 0 where
  pub unseen_output : (bytes text : List ℕ) → c.output (Some bytes) text → c.output None text
  pub unseen_refusal : (text : List ℕ) → c.refusal None text
  pub done : (left : Option (List ℕ)) (text : List ℕ) → IfSome left (λ bytes. length bytes ≤ default_options.max_bytes)
      → c.output left text → c.ends_well left 0
  pub refused : (left : Option (List ℕ)) (text : List ℕ) → c.refusal left text → c.ends_well left 1
  pub left_out : (left : Option (List ℕ)) → c.ends_well left 5
  pub too_long : (left : Option (List ℕ)) → IfSome left (λ bytes. default_options.max_bytes < length bytes)
      → c.refusal left (fault_line (errors.TooLarge default_options.max_bytes))

module _ (IsText : Option (List ℕ) → List ℕ → Type 0) (IsLine : List ℕ → List ℕ → Type 0) (IsAccepted IsRefused : List ℕ → Type 0) where
  reading_done : ((bytes text : List ℕ) → length bytes ≤ default_options.max_bytes → IsText (Some bytes) text → IsAccepted bytes)
      → (left : Option (List ℕ)) (text : List ℕ) → IfSome left (λ bytes. length bytes ≤ default_options.max_bytes)
      → IsText left text → EndsBy IsAccepted IsRefused left 0
  reading_done accepted None text le is = (inl refl, λ e. absurd (omega arith), λ _. tt)
  reading_done accepted (Some bytes) text le is =
      (inl refl, λ e. absurd (omega arith), λ _. accepted bytes text le is)

  reading_refused : ((bytes text : List ℕ) → IsLine bytes text → IsRefused bytes)
      → (left : Option (List ℕ)) (text : List ℕ) → IfSome left (λ bytes. IsLine bytes text)
      → EndsBy IsAccepted IsRefused left 1
  reading_refused refused None text is = (inr (inl refl), λ _. tt, λ e. absurd (omega arith))
  reading_refused refused (Some bytes) text is =
      (inr (inl refl), λ _. refused bytes text is, λ e. absurd (omega arith))

  reading_long : ((bytes : List ℕ) → default_options.max_bytes < length bytes → IsLine bytes (fault_line (errors.TooLarge default_options.max_bytes)))
      → (left : Option (List ℕ)) → IfSome left (λ bytes. default_options.max_bytes < length bytes)
      → IfSome left (λ bytes. IsLine bytes (fault_line (errors.TooLarge default_options.max_bytes)))
  reading_long long None more = tt
  reading_long long (Some bytes) more = long bytes more

  -- by what its texts say of the bytes
  is_reading : ((bytes text : List ℕ) → IsText (Some bytes) text → IsText None text)
      → ((bytes text : List ℕ) → length bytes ≤ default_options.max_bytes → IsText (Some bytes) text → IsAccepted bytes)
      → ((bytes text : List ℕ) → IsLine bytes text → IsRefused bytes)
      → ((bytes : List ℕ) → default_options.max_bytes < length bytes → IsLine bytes (fault_line (errors.TooLarge default_options.max_bytes)))
      → IsReading (reading IsText IsLine IsAccepted IsRefused)
  is_reading unseen accepted refused long = record {
    unseen_output = unseen;
    unseen_refusal = λ text. tt;
    done = reading_done accepted;
    refused = reading_refused refused;
    left_out = λ left. (inr (inr refl), λ e. absurd (omega arith), λ e. absurd (omega arith));
    too_long = reading_long long;
  }

-- ---- the commands that do

-- too many bytes are the first fault
first_long : (bytes : List ℕ) → default_options.max_bytes < length bytes → IsFirstLine bytes (fault_line (errors.TooLarge default_options.max_bytes))
first_long bytes more = (errors.TooLarge default_options.max_bytes, too_large bytes default_options.max_bytes refl more, refl)

-- one that refuses exactly bytes with a fault
is_sound : (IsText : Option (List ℕ) → List ℕ → Type 0)
    → ((bytes text : List ℕ) → IsText (Some bytes) text → IsText None text)
    → ((bytes text : List ℕ) → length bytes ≤ default_options.max_bytes → IsText (Some bytes) text → IsSound default_rules bytes)
    → IsReading (accepting_sound IsText)
is_sound IsText unseen sound =
    is_reading IsText IsFirstLine (IsSound default_rules) (λ bytes. IsSound default_rules bytes → ⊥) unseen sound
    (λ bytes text line sound. sound line.0 line.1) first_long

-- where the workbook of the bytes has no sheet of this name, none of them has
no_sheet : (name bytes : List ℕ) (book : Workbook) → IsOpened default_options book bytes
    → view_named book (chars name) ≡ None → HasSheet name bytes → ⊥
no_sheet name bytes book opened none (other, opened', some) =
    let same = same_list_same_book default_options bytes bytes opened.entries opened.carries opened.carries book other opened opened' in
    some (subst (λ (b : Workbook). view_named b (chars name) ≡ None) same none)

unnamed : (name bytes text : List ℕ) → IsNameLine name bytes text → HasSheet name bytes → ⊥
unnamed name bytes text (inl first) has = has.1.sound first.0 first.1
unnamed name bytes text (inr missing) has = no_sheet name bytes missing.0 missing.1 missing.2.0 has

unremade : (bytes text : List ℕ) → IsUnremadeLine bytes text → HasCanonical bytes → ⊥
unremade bytes text (inl first) has = has.0 first.0 first.1
unremade bytes text (inr long) has = omega (arith, (long.every has.1 has.2).0, has.3)

-- each command but those of which the test `reads_nothing` holds
pub reads_source : (c : Command) → (IsTrue false ↔ ReadsNothing c) → IsReading (spec_of c)
reads_source Dump reads = is_sound _ (λ bytes text is. tt) (λ bytes text le is. is.1.sound)
reads_source Sheets reads = is_sound _ (λ bytes text is. tt) (λ bytes text le is. is.1.sound)
reads_source Props reads =
    is_reading _ _ _ _ (λ bytes text is. tt) (λ bytes text le is. is.0) (λ bytes text line. line.0) (λ bytes more. (more, refl))
reads_source Check reads = is_sound _ (λ bytes text is. (tt, is.1)) (λ bytes text le is. is.0)
reads_source Refs reads = is_sound _ (λ bytes text is. tt) (λ bytes text le is. none_checked bytes le is.1.sound)
reads_source Remake reads =
    is_reading _ _ _ _ (λ bytes text is. tt)
    (λ bytes text le is. (is.sound, is.list, is.carries, (is.every is.list is.carries).0))
    unremade (λ bytes more. inl (first_long bytes more))
reads_source (Csv name) reads =
    is_reading _ _ _ _ (λ bytes text is. tt)
    (λ bytes text le is. (is.0, is.1, λ none. let found = is.2.1 in cc))
    (unnamed name.now) (λ bytes more. inl (first_long bytes more))
reads_source (Generate n) reads = absurd (let e : false ≡ true = reads.1 tt in cc e)

-- ---- all of the source was read

-- what is of the bytes that were taken is of those that the source had left
of_left : (Of : Option (List ℕ) → Type 0) (left left' : Option (List ℕ)) (bytes : List ℕ)
    → Consumes left left' bytes → IsAtEnd left' → (Of (Some bytes) → Of None) → Of (Some bytes) → Of left
of_left Of None left' bytes all end unseen is = unseen is
of_left Of (Some before) left' bytes all end unseen is =
    Consumes-whole (Some before) left' bytes (λ b. Of (Some b)) all end is

module _ (c : Command) (command : IsReading (spec_of c)) (left left' : Option (List ℕ)) (before after : SinkState) (r : Result Ending Stop) where
  output_left : (bytes text : List ℕ) → Consumes left left' bytes → IsAtEnd left' → IsOutput c (Some bytes) text → IsOutput c left text
  output_left bytes text all end =
      of_left (λ l. IsOutput c l text) left left' bytes all end (command.unseen_output bytes text)

  refusal_left : (bytes text : List ℕ) → Consumes left left' bytes → IsAtEnd left' → IsRefusalText c (Some bytes) text → IsRefusalText c left text
  refusal_left bytes text all end =
      of_left (λ l. IsRefusalText c l text) left left' bytes all end (λ _. command.unseen_refusal text)

  pub ends-of_bytes : (bytes : List ℕ) → Consumes left left' bytes → IsAtEnd left' → length bytes ≤ default_options.max_bytes
      → EndsWithEither (IsOutput c (Some bytes)) (IsRefusalText c (Some bytes)) before after r → Ends c left before after r
  ends-of_bytes bytes all end le =
      let within = Consumes-whole left left' bytes (λ b. length b ≤ default_options.max_bytes) all end le in
      ends-either c left before after r (command.left_out left)
      (λ text is. let o = output_left bytes text all end is in (command.done left text within o, o))
      (λ text is. let l = refusal_left bytes text all end is in (command.refused left text l, l))

  pub steady-of_bytes : (bytes : List ℕ) → Consumes left left' bytes → IsAtEnd left'
      → EndsWithEither (IsOutput c (Some bytes)) (IsRefusalText c (Some bytes)) before after r
      → TakesEach before (MayWrite c left) → after.faults ≡ before.faults
  steady-of_bytes bytes all end =
      steady-either c left before after r
      (λ text. output_left bytes text all end) (λ text. refusal_left bytes text all end)

-- ---- the source was refused

-- by the line of too many bytes
line_of_cause : (c : Spec) → IsReading c → (was now : SourceState) (e : XlsError)
    → ReadCause default_options.max_bytes was now e → IsStreamFault e → c.refusal was.left (fault_line e)
line_of_cause c command was now errors.Io cause fault = absurd (fault.0 refl)
line_of_cause c command was now errors.Memory cause fault = absurd (fault.1 refl)
line_of_cause c command was now (errors.TooLarge n) cause fault =
    subst (λ (k : ℕ). c.refusal was.left (fault_line (errors.TooLarge k))) (sym cause.0) (command.too_long was.left cause.1)
line_of_cause c command was now e cause fault = absurd cause

module _ (c : Command) (command : IsReading (spec_of c)) (was now : SourceState) (before after : SinkState) (r : Result Ending Stop) (e : XlsError) where
  pub ends-of_cause : ReadCause default_options.max_bytes was now e → EndsWithError e before after r → Ends c was.left before after r
  ends-of_cause cause =
      let line = line_of_cause (spec_of c) command was now e cause in
      ends-error c was.left before after r e (command.left_out was.left) (λ fault. command.refused was.left (fault_line e) (line fault)) line

  pub steady-of_cause : ReadCause default_options.max_bytes was now e → EndsWithError e before after r
      → TakesEach before (MayWrite c was.left) → after.faults ≡ before.faults
  steady-of_cause cause = steady-error c was.left before after r e (line_of_cause (spec_of c) command was now e cause)
