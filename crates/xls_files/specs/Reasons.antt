-- What is printed of the reason why something can't be read or written.
use Rattle.std.specs.Prelude.{ℕ, List, codes}
use Rattle.std.specs.String.{string_bytes}
use Rattle.xls_files.specs.declared.host.Reason.{Reason}
use Rattle.xls_files.specs.declared.host.Reason.TheVariants.{Memory, Exists, Reported}

abbrev pub reason_text : Reason → List ℕ
reason_text Memory = codes "out of memory"
reason_text Exists = codes "File exists"
reason_text (Reported text) = string_bytes text
