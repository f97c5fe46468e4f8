-- Why nothing is written of a file, or not all.
use Rattle.std.specs.Prelude.{ℕ}
use Rattle.xls_record.specs.declared.error.XlsError.{XlsError}
use Rattle.xls_record.specs.declared.error.XlsError.TheVariants as stream
use Rattle.xls_container.specs.declared.fault.FileFault.{FileFault}
use Rattle.xls_container.specs.declared.fault.FileFault.TheVariants as file
use Rattle.xls_lay.specs.declared.error.LayError.{LayError}
use Rattle.xls_lay.specs.declared.error.LayError.TheVariants as lay
use Rattle.xls_output.specs.declared.stop.Stop.TheVariants.{Read, Write, Memory}
use Rattle.xls_answers.specs.declared.failure.Failure.{Failure}
use Rattle.xls_answers.specs.declared.failure.Failure.TheVariants as failures

-- the exit status of each
abbrev pub status_of : Failure → ℕ
status_of (failures.File file.NoWorkbook) = 12
status_of (failures.File file.Memory) = 5
status_of (failures.File (file.Kind k)) = 11
status_of (failures.File (file.Compound e)) = 11
status_of failures.Obfuscated = 17
status_of (failures.Stream e) = 1
status_of (failures.Missing m) = 1
status_of (failures.Canonical e) = 1
status_of (failures.Stopped Read) = 10
status_of (failures.Stopped Write) = 4
status_of (failures.Stopped Memory) = 5

-- out of memory is told alike, wherever it was
abbrev pub failure_of_fault : FileFault → Failure
failure_of_fault file.Memory = failures.Stopped Memory
failure_of_fault (file.Kind k) = failures.File (file.Kind k)
failure_of_fault (file.Compound e) = failures.File (file.Compound e)
failure_of_fault file.NoWorkbook = failures.File file.NoWorkbook

abbrev pub failure_of_stream : XlsError → Failure
failure_of_stream stream.Memory = failures.Stopped Memory
failure_of_stream e = failures.Stream e

abbrev pub failure_of_lay : LayError → Failure
failure_of_lay lay.Memory = failures.Stopped Memory
failure_of_lay (lay.TooLong n) = failures.Canonical (lay.TooLong n)
