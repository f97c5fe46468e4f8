-- A stream and its list; layouts of a full list are opened and checked without a fault.
use Rattle.std.proofs.Common.{◌≡◌, ℕ, ◌≤◌, List, length, Option, Some, Result, Ok, Err, refl, subst, arith}
use Rattle.std.specs.Prelude.{IfSome}
use Rattle.xls_stream.specs.Walks.{IsBytes}
use Rattle.xls_stream.proofs.HoldingLemmas.{one_list}
use Rattle.xls_record.specs.declared.error.XlsError.{XlsError}
use Rattle.xls_record.specs.declared.error.XlsError.TheVariants as errors
use Rattle.xls_layouts.specs.Layout.{Layout, lay, list_of, IsLayout}
use Rattle.xls_layouts.proofs.LaidStreamLemmas.{laid_stream}
use Rattle.xls_meaning.specs.Rules.{Rules}
use Rattle.xls_meaning.specs.Faults.{FirstFault, IsSound, IsFull}
use Rattle.xls_meaning.proofs.LawLemmas.{sound_where_full}
use Rattle.xls_open.specs.Workbook.{Workbook, rules_of}
use Rattle.xls_record.specs.SourceState.{SourceState}
use Rattle.xls_open.specs.Opening.{IsOpened, OpenCause, Opens}
use Rattle.xls_open.specs.Checking.{Checks}
use Rattle.xls_open.specs.Laws.{HasOneList, OpensAs}
use Rattle.xls_open.specs.declared.options.XlsOptions.{XlsOptions}
use Rattle.xls_open.proofs.AlikeLemmas.{checked_alike}

pub one_list_per_stream : (rules : Rules) (bytes : List ℕ) → IsBytes bytes → HasOneList rules bytes
one_list_per_stream rules bytes fits =
    let both = sound_where_full rules bytes fits in
    record {
      one = one_list bytes fits;
      full = λ within. (
        λ sound. let f = both.0 sound in let full = f.3 in (full.forced, f.1, f.2, full),
        λ f. both.1 (within, f.1, f.2, f.3),
      );
    }

pub laid_sound : (rules : Rules) (d : Layout) → IsLayout d → IsFull rules (list_of d)
    → length (lay d) ≤ rules.max_bytes → IsSound rules (lay d)
laid_sound rules d h full within =
    (sound_where_full rules (lay d) h.bytes).1 (within, list_of d, laid_stream d h, full)

-- ---- opening

refused_as : (options : XlsOptions) (d : Layout) → IsSound (rules_of options) (lay d)
    → (was now : SourceState) → was.left ≡ Some (lay d) → (e : XlsError) → OpenCause options was now e
    → OpensAs options (list_of d) was now (Err e)
refused_as options d sound was now left errors.Memory c = tt
refused_as options d sound was now left errors.Io c = c
refused_as options d sound was now left e c =
    sound e (subst (λ (l : Option (List ℕ)). IfSome l (λ bytes. FirstFault (rules_of options) bytes e)) left c)

pub laid_opens : (options : XlsOptions) (d : Layout) → IsLayout d → IsFull (rules_of options) (list_of d)
    → length (lay d) ≤ options.max_bytes
    → (was now : SourceState) → was.left ≡ Some (lay d) → (result : Result Workbook XlsError)
    → Opens options was now result → OpensAs options (list_of d) was now result
laid_opens options d h full within was now left (Ok book) o =
    let ok = subst (λ (l : Option (List ℕ)). IfSome l (IsOpened options book)) left o.ok in
    (ok.kept, ok.every (list_of d) (laid_stream d h), o.end)
laid_opens options d h full within was now left (Err e) o =
    refused_as options d (laid_sound (rules_of options) d h full within) was now left e o.cause

-- ---- a check

-- the same rules with a limit that the bytes don't pass
abbrev wide_rules : Rules → List ℕ → Rules
wide_rules rules bytes = record {
  force_codepage = rules.force_codepage;
  max_bytes = length bytes;
  max_cells = rules.max_cells;
  functions = rules.functions;
  numbers = rules.numbers;
}

pub laid_checks : (rules : Rules) (d : Layout) → IsLayout d → IsFull rules (list_of d)
    → (result : Result (Unit {0}) XlsError)
    → Checks rules.force_codepage rules.max_cells (lay d) result → result ≡ Ok tt
laid_checks rules d h full (Ok u) c = refl
laid_checks rules d h full (Err e) c =
    let wide = wide_rules rules (lay d) in
    let full_there : IsFull wide (list_of d) = record { forced = full.forced; globals = full.globals; sheets = full.sheets } in
    let sound = laid_sound wide d h full_there (omega arith) in
    absurd (sound e ((checked_alike wide (lay d) (omega arith) e).1 c))
