-- What the citations of a stream answer.
use Rattle.std.specs.Prelude.{ℕ, List}
use Rattle.xls_stream.specs.Listing.{ListEntry, Carries}
use Rattle.xls_record.specs.declared.error.XlsError.{XlsError}
use Rattle.xls_meaning.specs.Rules.{Rules}
use Rattle.xls_meaning.specs.Faults.{IsFull}
use Rattle.xls_view.specs.Viewing.{IsViewFault, ViewCause}
use Rattle.xls_refs.specs.Cited.{BookCited, IsCited}

-- no place of the bytes has a fault; they carry a full list, and this is what the formulas of every
-- list that they carry cite
pub record IsBookCited (rules : Rules) (bytes : List ℕ) (book : BookCited) : Type 0 where
  pub sound : (e : XlsError) → IsViewFault rules bytes e → ⊥
  pub entries : List ListEntry
  pub carries : Carries bytes entries
  pub full : IsFull rules entries
  pub every : (others : List ListEntry) → Carries bytes others → IsCited rules others book

-- why there is no answer: why there is no view of the bytes
abbrev pub CitingCause : Rules → List ℕ → XlsError → Type 0
CitingCause = ViewCause
