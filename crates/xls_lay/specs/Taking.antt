-- For the proofs: how a list grows as a stream is read that has no fault.
use Rattle.std.specs.Prelude.{◌≡◌, ℕ, List, [], ◌∷◌, ◌++◌, Result, Ok, Err}
use Rattle.xls_stream.specs.Listing.{Kept, ListEntry, sheet_entry}
use Rattle.xls_record.specs.declared.error.XlsError.{XlsError}
use Rattle.xls_record.specs.declared.error.XlsError.TheVariants as errors

-- this entry was appended, or memory ran out
abbrev pub TakesEntry : List ListEntry → ListEntry → Result (Unit {0}) XlsError → List ListEntry → Type 0
TakesEntry old e (Ok u) new = new ≡ old ++ e ∷ []
TakesEntry old e (Err x) new = x ≡ errors.Memory

abbrev pub TakesNothing : List ListEntry → Result (Unit {0}) XlsError → List ListEntry → Type 0
TakesNothing old (Ok u) new = new ≡ old
TakesNothing old (Err x) new = ⊥

-- the sheet that the list ends in has these records after those that it had, or memory ran out
abbrev pub TakesPart : List ListEntry → List Kept → Result (Unit {0}) XlsError → List ListEntry → Type 0
TakesPart old more (Ok u) new =
    (prefix : List ListEntry) (state kind : ℕ) (name : List ℕ) (kept : List Kept)
    → old ≡ prefix ++ sheet_entry state kind name kept ∷ []
    → new ≡ prefix ++ sheet_entry state kind name (kept ++ more) ∷ []
TakesPart old more (Err x) new = x ≡ errors.Memory
