-- Streams that aren't read.
use Rattle.std.proofs.Common.{ℕ, List}
use Rattle.xls_arrays.specs.Held.{RefusesBytes}
use Rattle.xls_arrays.specs.declared.options.Options.{Options}
use Rattle.xls_arrays.specs.declared.refusal.Refusal.{Refusal}
use Rattle.xls_arrays.specs.declared.refusal.Refusal.TheVariants as refusals
use Rattle.xls_arrays.proofs.HeldLemmas.{bytes-refused}
use Rattle.xls_beside_arrays.specs.Opened.{RefusesBook}

-- what its bytes alone refuse is refused, and no sheet is
pub bytes-refused-book : (options : Options) (stream : List ℕ) (r : Refusal) → RefusesBytes options stream r → RefusesBook options stream r
bytes-refused-book options stream refusals.Memory p = bytes-refused options stream refusals.Memory p
bytes-refused-book options stream refusals.TooShort p = p
bytes-refused-book options stream (refusals.NoSheet index) p = p
bytes-refused-book options stream refusals.Obfuscated p = p
bytes-refused-book options stream (refusals.Stream e) p = bytes-refused options stream (refusals.Stream e) p
bytes-refused-book options stream (refusals.Kind k) p = p
bytes-refused-book options stream refusals.NoWorkbook p = p
bytes-refused-book options stream (refusals.Chain chain fault) p = p
bytes-refused-book options stream (refusals.Directory fault) p = p
