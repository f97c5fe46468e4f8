use Rattle.std.proofs.Common.{subst, sym, ◌∙◌}
use Rattle.std.specs.Str.{IsAscii}
use Rattle.xls_decimals.proofs.AsciiLemmas.{bits_over_100_ascii}
use Rattle.xls_decimals.proofs.decimals.push_bits_over_100.Goals as goal

pub push_ascii-requires : goal.push_ascii-requires
push_ascii-requires c = subst IsAscii (sym (c.as_slice.ensures ∙ c.hexadecimal.ensures)) (bits_over_100_ascii c.args.bits)
