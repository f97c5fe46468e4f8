-- Refusals as numbers.
use Rattle.xls_arrays.specs.Codes.{chain_number, directory_fault, file_kind_number, numbered, numbers, plain, sector_fault, stream_fault}
use Rattle.xls_arrays.specs.declared.refusal.Refusal.{Refusal}
use Rattle.xls_arrays.specs.declared.refusal.Refusal.TheVariants as refusals
use Rattle.xls_arrays.specs.declared.faults.Fault.{Fault}

abbrev pub fault_numbered : Refusal → Fault
fault_numbered refusals.Memory = plain 1
fault_numbered refusals.TooShort = plain 2
fault_numbered (refusals.NoSheet index) = numbered 3 index
fault_numbered refusals.Obfuscated = plain 4
fault_numbered (refusals.Stream error) = stream_fault error
fault_numbered (refusals.Kind kind) = numbers 48 (file_kind_number kind) 0 0 0 0
fault_numbered refusals.NoWorkbook = plain 49
fault_numbered (refusals.Chain chain fault) = record (sector_fault fault) { part = chain_number chain }
fault_numbered (refusals.Directory fault) = directory_fault fault
