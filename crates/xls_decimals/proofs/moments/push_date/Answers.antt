use Rattle.std.proofs.Common.{subst, sym, ◌∙◌}
use Rattle.std.specs.Str.{IsAscii}
use Rattle.xls_decimals.proofs.AsciiLemmas.{moment_ascii}
use Rattle.xls_decimals.proofs.moments.push_date.Goals as goal

pub push_ascii-requires : goal.push_ascii-requires
push_ascii-requires c =
    subst IsAscii (sym (c.as_slice.ensures ∙ c.moment_text.ensures)) (moment_ascii c.args.is_1904 c.in-Some.ms)
