use Rattle.std.proofs.Common.{◌≡◌, ◌≤◌, ◌-◌, ◌++◌, length, take, drop}
use Rattle.xls_passwords.specs.Records.{records_from}
use Rattle.xls_passwords.specs.Plain.{decrypted}
use Rattle.xls_passwords.specs.Streams.{IsReady, cipher_key, cipher_offset}
use Rattle.xls_passwords.proofs.plain.decrypt_from.Given as goal

-- what is decrypted, with what the records from here on decrypt to, is all
abbrev pub invariant-records : goal.invariant-records
invariant-records l = record {
  within : l.offset ≤ length l.stream;
  ready : IsReady l.cipher;
  key : cipher_key l.cipher ≡ l.fn.key;
  offset : cipher_offset l.cipher ≡ l.offset;
  same : take l.offset l.stream ++ decrypted l.fn.key (records_from l.offset (drop l.offset l.stream))
      ≡ take l.from l.fn.stream ++ decrypted l.fn.key (records_from l.from (drop l.from l.fn.stream));
}

abbrev pub decreases-records : goal.decreases-records
decreases-records l = length l.stream - l.offset
