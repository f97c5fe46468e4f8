-- A number that differs, and what a libid says.
use Rattle.std.proofs.Common.{◌≡◌, ℕ, List, Some, Ok, Err, false, arith}
use Rattle.std.proofs.lemmas.Grind.{common_steps}
use Rattle.std.specs.Prelude.{◌==◌}
use Rattle.xls_text.specs.declared.encoding.XlsEncoding.{XlsEncoding}
use Rattle.xls_vba.specs.declared.error.VbaError.TheVariants as errors
use Rattle.xls_vba.specs.Fields.{u16_from, id_from}
use Rattle.xls_vba.specs.Libids.{says_nothing, at_last_hash, after_last_hash, text_of, libid_of}

-- another number than the one that has to stand there
pub id_differs : (x n : ℕ) (bytes rest : List ℕ) → u16_from bytes ≡ Ok (n, rest) → ¬ (n ≡ x) → id_from x bytes ≡ Err (errors.InvalidRecordId x n)
unfolding id_from
id_differs x n bytes rest read other =
    let test : (n == x) ≡ false = grind (arith, common_steps) in
    rw (read, test)

-- a libid with a #
pub says_path : (page : XlsEncoding) (libid before following : List ℕ) → says_nothing libid ≡ false → at_last_hash (text_of page libid) ≡ Some (before, following)
    → libid_of page libid ≡ Ok (Some (after_last_hash before, following))
says_path page libid before following says parts = rw (says, parts)
