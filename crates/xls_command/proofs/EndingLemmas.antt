-- How any command ends, by what was written.
use Rattle.std.proofs.Common.{◌≡◌, ℕ, List, [], Option, Result, Ok, Err, inl, inr, sym, subst, arith}
use Rattle.xls_record.specs.declared.error.XlsError.{XlsError}
use Rattle.xls_output.specs.SinkState.{SinkState, TakesEach}
use Rattle.xls_output.specs.Gathering.{Stops, Wrote}
use Rattle.xls_report.specs.Faults.{fault_line}
use Rattle.xls_command.specs.Outputs.{IsOutput, IsRefusalText, MayWrite, EndsWell}
use Rattle.xls_report.specs.Endings.{IsStreamFault, EndsWithError, EndsWithEither}
use Rattle.xls_command.specs.Endings.{Ends}
use Rattle.xls_command.specs.declared.command.Command.{Command}
use Rattle.xls_report.specs.declared.ending.Ending.{Ending}
use Rattle.xls_report.specs.declared.ending.Ending.TheVariants.{Done, Refused}
use Rattle.xls_output.specs.declared.stop.Stop.{Stop}
use Rattle.xls_output.specs.declared.stop.Stop.TheVariants.{Read, Write, Memory}

-- ---- any command

-- a text that the command may write was given up
ends-stopped : (c : Command) (left : Option (List ℕ)) {before after : SinkState} {text : List ℕ} (e : Stop)
    → EndsWell c left 5 → MayWrite c left text → Stops before [] after text e → Ends c left before after (Err e)
ends-stopped c left {before} {after} {text} Read well may p = absurd p.cause
ends-stopped c left {before} {after} {text} Write well may p = (p.cause, inr (text, may, p.start))
ends-stopped c left {before} {after} {text} Memory well may p = (well, inr (text, may, p.start))

-- a text of one of two kinds was written, or a prefix of it
pub ends-either : (c : Command) (left : Option (List ℕ)) (before after : SinkState) (r : Result Ending Stop) {IsDone IsRefused : List ℕ → Type 0}
    → EndsWell c left 5 → ((text : List ℕ) → IsDone text → EndsWell c left 0 × IsOutput c left text)
    → ((text : List ℕ) → IsRefused text → EndsWell c left 1 × IsRefusalText c left text)
    → EndsWithEither IsDone IsRefused before after r → Ends c left before after r
ends-either c left before after (Ok Done) up output line p =
    let o = output p.0 p.1 in (o.0, (p.0, o.1, p.2.appends))
ends-either c left before after (Ok Refused) up output line p =
    let l = line p.0 p.1 in (l.0, (p.0, l.1, p.2.appends))
ends-either c left before after (Err e) up output line (inl p) =
    subst (λ d. Ends c left before after (Err d)) (sym p.0) (up, inl p.1.0)
ends-either c left before after (Err e) up output line (inr (text, inl done, p)) =
    ends-stopped c left e up (inl (output text done).1) p
ends-either c left before after (Err e) up output line (inr (text, inr refused, p)) =
    ends-stopped c left e up (inr (line text refused).1) p

-- an error of reading or opening, where a fault of the bytes is refused
pub ends-error : (c : Command) (left : Option (List ℕ)) (before after : SinkState) (r : Result Ending Stop) (e : XlsError)
    → EndsWell c left 5 → (IsStreamFault e → EndsWell c left 1) → (IsStreamFault e → IsRefusalText c left (fault_line e))
    → EndsWithError e before after r → Ends c left before after r
ends-error c left before after (Ok Done) e up refused line p = absurd p
ends-error c left before after (Ok Refused) e up refused line p =
    (refused p.0, (fault_line e, line p.0, p.1.appends))
ends-error c left before after (Err Read) e up refused line p = p.1.0
ends-error c left before after (Err Write) e up refused line p = ends-stopped c left Write up (inr (line p.0)) p.1
ends-error c left before after (Err Memory) e up refused line (inl p) = (up, inl p.0)
ends-error c left before after (Err Memory) e up refused line (inr p) = ends-stopped c left Memory up (inr (line p.0)) p.1

-- ---- a sink that takes each text that the command may write

pub steady-stopped : (c : Command) (left : Option (List ℕ)) {before after : SinkState} {text : List ℕ} {e : Stop}
    → MayWrite c left text → Stops before [] after text e → TakesEach before (MayWrite c left) → after.faults ≡ before.faults
steady-stopped c left {before} {after} {text} may p takes = p.steady takes.0 (omega (arith, takes.2 text may)) takes.1

pub steady-wrote : (c : Command) (left : Option (List ℕ)) {before after : SinkState} {text : List ℕ}
    → MayWrite c left text → Wrote before after text → TakesEach before (MayWrite c left) → after.faults ≡ before.faults
steady-wrote c left {before} {after} {text} may p takes = p.steady takes.0 (takes.2 text may) takes.1

pub steady-either : (c : Command) (left : Option (List ℕ)) (before after : SinkState) (r : Result Ending Stop) {IsDone IsRefused : List ℕ → Type 0}
    → ((text : List ℕ) → IsDone text → IsOutput c left text) → ((text : List ℕ) → IsRefused text → IsRefusalText c left text)
    → EndsWithEither IsDone IsRefused before after r → TakesEach before (MayWrite c left) → after.faults ≡ before.faults
steady-either c left before after (Ok Done) output line p takes = steady-wrote c left (inl (output p.0 p.1)) p.2 takes
steady-either c left before after (Ok Refused) output line p takes = steady-wrote c left (inr (line p.0 p.1)) p.2 takes
steady-either c left before after (Err e) output line (inl p) takes = p.1.1
steady-either c left before after (Err e) output line (inr (text, inl done, p)) takes = steady-stopped c left (inl (output text done)) p takes
steady-either c left before after (Err e) output line (inr (text, inr refused, p)) takes = steady-stopped c left (inr (line text refused)) p takes

pub steady-error : (c : Command) (left : Option (List ℕ)) (before after : SinkState) (r : Result Ending Stop) (e : XlsError)
    → (IsStreamFault e → IsRefusalText c left (fault_line e)) → EndsWithError e before after r
    → TakesEach before (MayWrite c left) → after.faults ≡ before.faults
steady-error c left before after (Ok Done) e line p takes = absurd p
steady-error c left before after (Ok Refused) e line p takes = steady-wrote c left (inr (line p.0)) p.1 takes
steady-error c left before after (Err Read) e line p takes = p.1.1
steady-error c left before after (Err Write) e line p takes = steady-stopped c left (inr (line p.0)) p.1 takes
steady-error c left before after (Err Memory) e line (inl p) takes = p.1
steady-error c left before after (Err Memory) e line (inr p) takes = steady-stopped c left (inr (line p.0)) p.1 takes
