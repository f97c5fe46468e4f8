use Rattle.std.proofs.Common.{◌≡◌, ℕ, ◌<◌, false}
use Rattle.xls_container.specs.Kinds.{begins_with}
use Rattle.xls_container.specs.Obfuscation.{OBFUSCATION, after_records}
use Rattle.xls_container.proofs.obfuscation.is_obfuscated.Given as goal

-- none of the records that were looked at
abbrev pub invariant-records : goal.invariant-records
invariant-records l = record {
  rest : l.rest ≡ after_records l._before l.stream;
  none_before : (n : ℕ) → n < l._before → begins_with OBFUSCATION (after_records n l.stream) ≡ false;
}
