-- Canonical bytes carry their list, and are equal where the lists are.
use Rattle.std.proofs.Common.{◌≡◌, ◌↔◌, ℕ, ◌^◌, ◌<◌, ◌≤◌, List, length, Some, Result, ap, subst, sym, ◌∙◌}
use Rattle.xls_stream.specs.Listing.{ListEntry, Carries}
use Rattle.xls_stream.specs.Walks.{IsBytes}
use Rattle.xls_stream.proofs.HoldingLemmas.{one_list}
use Rattle.xls_record.specs.declared.error.XlsError.{XlsError}
use Rattle.xls_layouts.specs.Layout.{lay}
use Rattle.xls_layouts.specs.Canonical.{canonical, Fits}
use Rattle.xls_layouts.proofs.LaidStreamLemmas.{laid_stream, laid_alone}
use Rattle.xls_layouts.proofs.CanonicalListLemmas.{canonical_layout}
use Rattle.xls_meaning.proofs.LawLemmas.{sound_where_full}
use Rattle.xls_meaning.specs.Faults.{IsFull}
use Rattle.xls_meaning.specs.Reading.{IsReading}
use Rattle.xls_record.specs.SourceState.{SourceState}
use Rattle.xls_open.specs.declared.options.XlsOptions.{XlsOptions}
use Rattle.xls_open.specs.Workbook.{Workbook, rules_of, view_of}
use Rattle.xls_open.specs.Opening.{IsOpened, Opens}
use Rattle.xls_open.specs.Laws.{OpensAs}
use Rattle.xls_open.proofs.LaidLemmas.{laid_opens, laid_sound}

pub canonical_carries : (list : List ListEntry) → Fits list → length (lay (canonical list)) < 2 ^ 32
    → Carries (lay (canonical list)) list
canonical_carries list h fits =
    let laid = canonical_layout list h fits in
    subst (λ (x : List ListEntry). Carries (lay (canonical list)) x) laid.1 (laid_stream (canonical list) laid.0)

-- and no other
pub carried_alone : (list other : List ListEntry) → Fits list → length (lay (canonical list)) < 2 ^ 32
    → Carries (lay (canonical list)) other → other ≡ list
carried_alone list other h fits c =
    let laid = canonical_layout list h fits in
    laid_alone (canonical list) laid.0 other c ∙ laid.1

pub same_lists : (list other : List ListEntry) → Fits list → Fits other
    → length (lay (canonical list)) < 2 ^ 32 → length (lay (canonical other)) < 2 ^ 32
    → (list ≡ other) ↔ (lay (canonical list) ≡ lay (canonical other))
same_lists list other h k f g = (
  λ e. ap (λ (x : List ListEntry). lay (canonical x)) e,
  λ e. carried_alone other list k g (subst (λ (x : List ℕ). Carries x list) e (canonical_carries list h f)),
)

pub written_again : (list other : List ListEntry) → Fits list → length (lay (canonical list)) < 2 ^ 32
    → Carries (lay (canonical list)) other → lay (canonical other) ≡ lay (canonical list)
written_again list other h fits c = ap (λ (x : List ListEntry). lay (canonical x)) (carried_alone list other h fits c)

pub canonical_opens : (options : XlsOptions) (list : List ListEntry) → Fits list → IsFull (rules_of options) list
    → length (lay (canonical list)) < 2 ^ 32 → length (lay (canonical list)) ≤ options.max_bytes
    → (was now : SourceState) → was.left ≡ Some (lay (canonical list)) → (result : Result Workbook XlsError)
    → Opens options was now result → OpensAs options list was now result
canonical_opens options list h full fits within was now left result opens =
    let laid = canonical_layout list h fits in
    subst (λ (x : List ListEntry). OpensAs options x was now result) laid.1
    (laid_opens options (canonical list) laid.0 (subst (IsFull (rules_of options)) (sym laid.1) full) within was now left result opens)

pub opens_again : (options : XlsOptions) (book : Workbook) (bytes : List ℕ) (list : List ListEntry)
    → IsBytes bytes → Carries bytes list → Fits list
    → length (lay (canonical list)) < 2 ^ 32 → length (lay (canonical list)) ≤ options.max_bytes
    → IsOpened options book bytes → IsOpened options book (lay (canonical list))
opens_again options book bytes list are carries h fits within opened =
    let rules = rules_of options in
    let laid = canonical_layout list h fits in
    let f = (sound_where_full rules bytes are).0 opened.sound in
    let full : IsFull rules list = subst (IsFull rules) (one_list bytes are f.1 list f.2 carries) f.3 in
    record {
      sound = laid_sound rules (canonical list) laid.0 (subst (IsFull rules) (sym laid.1) full) within;
      within = within;
      entries = list;
      carries = canonical_carries list h fits;
      kept = opened.kept;
      every = λ others c.
          subst (λ (x : List ListEntry). IsReading rules x (view_of book)) (sym (carried_alone list others h fits c)) (opened.every list carries);
    }
