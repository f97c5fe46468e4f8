use Rattle.std.proofs.Common.{◌≡◌, ℕ, List, inl, inr, refl, subst, Err}
use Rattle.xls_stream.specs.Listing.{ListEntry}
use Rattle.xls_record.specs.declared.error.XlsError.{XlsError}
use Rattle.xls_record.specs.declared.error.XlsError.TheVariants as errors
use Rattle.xls_report.specs.Faults.{fault_line}
use Rattle.xls_report.specs.Texts.{IsOfList, IsUnremadeLine}
use Rattle.xls_report.specs.Remaking.{IsListOf, TellsList}
use Rattle.xls_report.proofs.EndingLemmas.{either-as}
use Rattle.xls_report.proofs.remake.write_remake.Goals as goal

-- a text of the one list that bytes carry
of_list : {IsOf : List ListEntry → List ℕ → Type 0} (bytes : List ℕ) (list : List ListEntry) → IsListOf bytes list
    → (text : List ℕ) → IsOf list text → IsOfList IsOf bytes text
of_list {IsOf} bytes list h text is = record {
  sound = h.sound;
  list = list;
  carries = h.carries;
  every = λ other c. subst (λ (l : List ListEntry). IsOf l text) (h.one other c) is;
}

-- another refusal than out of memory is the first fault
first : (bytes : List ℕ) (e : XlsError) → TellsList bytes (Err e) → (e ≡ errors.Memory → ⊥)
    → (text : List ℕ) → text ≡ fault_line e → IsUnremadeLine bytes text
first bytes errors.Memory h other text is = absurd (other refl)
first bytes e h other text is = inl (e, h, is)

pub returns-in-Ok : goal.returns-in-Ok
returns-in-Ok g c =
    let bytes = c.as_slice.result.now in
    rw (← c.as_slice.ensures)
    (either-as _ _ c.write_list.result (of_list bytes c.in-Ok.list c.in-Ok.ensures)
    (λ text is. inr (of_list bytes c.in-Ok.list c.in-Ok.ensures text is)) c.write_list.ensures)

pub returns-in-Err : goal.returns-in-Err
returns-in-Err g c =
    rw (← c.as_slice.ensures)
    (either-as _ _ c.write_refusal.result (λ text x. absurd x)
    (λ text x. first c.as_slice.result.now c.in-Err.error c.in-Err.ensures x.0 text x.1) c.write_refusal.ensures)
