use Rattle.std.proofs.Common.{subst, sym, ◌∙◌, append-nil}
use Rattle.std.specs.Str.{IsAscii}
use Rattle.xls_decimals.specs.Decimals.{decimal_of_bits}
use Rattle.xls_decimals.proofs.AsciiLemmas.{bits_ascii}
use Rattle.xls_decimals.proofs.decimals.push_bits.Goals as goal

pub push_ascii-requires : goal.push_ascii-requires
push_ascii-requires c =
    subst IsAscii (sym (c.as_slice.ensures ∙ c.hexadecimal.ensures ∙ append-nil (decimal_of_bits c.args.bits)))
    (bits_ascii c.args.bits)
