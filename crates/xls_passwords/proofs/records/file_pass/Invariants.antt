use Rattle.std.proofs.Common.{◌≡◌, ◌≤◌, ◌-◌, length, drop, true}
use Rattle.xls_passwords.specs.Records.{file_pass_in, records_from, records_of}
use Rattle.xls_passwords.proofs.records.file_pass.Given as goal

-- the FilePass of the records from here on is that of all
abbrev pub invariant-records : goal.invariant-records
invariant-records l = record {
  within : l.offset ≤ length l.stream;
  same : file_pass_in l.is_biff8 (records_from l.offset (drop l.offset l.stream)) ≡ file_pass_in true (records_of l.stream);
}

abbrev pub decreases-records : goal.decreases-records
decreases-records l = length l.stream - l.offset
