use Rattle.std.proofs.Common.{rules, ◌<◌, ◌^◌, unsigned_abs, subst, sym, ◌∙◌, FitsSigned}
use Rattle.std.specs.Int.{w64}
use Rattle.std.specs.Str.{IsAscii}
use Rattle.std.proofs.lemmas.Int.{to_z-of_z}
use Rattle.xls_decimals.proofs.AsciiLemmas.{hundredths_ascii}
use Rattle.xls_decimals.proofs.decimals.push_hundredths.Goals as goal

pub push_ascii-requires : goal.push_ascii-requires
push_ascii-requires c =
    let small : unsigned_abs c.args.n < 2 ^ 64 = search rules in
    let fits : FitsSigned w64 c.args.n = c.ranges.n in
    let only = simp to_z-of_z at c.hundredths.ensures in
    subst IsAscii (sym (c.as_slice.ensures ∙ only)) (hundredths_ascii c.args.n small)
