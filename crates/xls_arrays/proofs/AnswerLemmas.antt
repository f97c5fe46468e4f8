-- How calls end.
use Rattle.std.proofs.Common.{◌≡◌, ℕ, Bool, List, Result, Ok, Err, OnOk, IfErr, inl, inr, refl, subst}
use Rattle.xls_arrays.specs.declared.faults.Fault.{Fault}
use Rattle.xls_arrays.specs.declared.refusal.Refusal.{Refusal}
use Rattle.xls_arrays.specs.Answers.{AreFilled, Answers, IsAnswer, ReadsAs, RefusesToFill}
use Rattle.xls_arrays.specs.Arrays.{Arrays}
use Rattle.xls_arrays.specs.Filled.{in_rooms}
use Rattle.xls_arrays.specs.declared.items.Sizes.{Sizes}
use Rattle.xls_arrays.specs.declared.options.Options.{Options}
use Rattle.xls_arrays.specs.declared.rooms.Rooms.{Rooms}

-- what was done, or refused, inside ends the call
pub ends-as : {Done : Type 0} {Refuses : Refusal → Type 0} (done : Result (Unit {0}) Refusal) {fault : Fault} {code : ℕ}
    → OnOk done Done → IfErr done Refuses → IsAnswer done fault code → Answers Done Refuses fault code
ends-as (Ok x) ok err is = record { reported = is.1; ends = inl (ok, is.0) }
ends-as (Err r) ok err is = record { reported = is.1; ends = inr (r, err, is.0) }

-- what was filled, or not, inside, by the arrays of the caller
pub read-ends : (Held : Options → List ℕ → Bool → Arrays → Type 0) {options : Options} {stream : List ℕ} {after : Arrays} {sizes : Sizes} (rooms : Rooms) (done : Result (Unit {0}) Refusal) {fault : Fault} {code : ℕ}
    → OnOk done (AreFilled Held options stream (in_rooms rooms) sizes) → IfErr done (RefusesToFill Held options stream (in_rooms rooms) sizes)
    → IsAnswer done fault code → rooms.sheets.now ≡ after.sheets → rooms.names.now ≡ after.names → rooms.cells.now ≡ after.cells
    → rooms.formulas.now ≡ after.formulas → rooms.regions.now ≡ after.regions → rooms.texts.now ≡ after.texts
    → ReadsAs Held options stream after sizes fault code
read-ends Held {options} {stream} {after} {sizes} rooms done {fault} {code} ok err is sheets names cells formulas regions texts =
    let same : in_rooms rooms ≡ after = rw (sheets, names, cells, formulas, regions, texts) refl in
    subst (λ a. ReadsAs Held options stream a sizes fault code) same (ends-as done ok err is)
