use Rattle.std.proofs.Common.{◌<◌, ◌^◌, sym, subst}
use Rattle.xls_bytes.proofs.GrownLemmas.{IsGrown-trans}
use Rattle.xls_shown_numbers.proofs.ExponentLemmas.{few_whole}
use Rattle.xls_shown_numbers.proofs.exponent.append_number.Goals as goal

pub exponent_of-exponent-requires : goal.exponent_of-exponent-requires
exponent_of-exponent-requires c =
    subst (λ e. e.mantissa.seen.whole < 2 ^ 63) (sym c.requires) (few_whole c.args.section.now c.iter-items.ensures.few)

pub returns-clause-grown : goal.returns-clause-grown
returns-clause-grown c = IsGrown-trans _ _ _ c.append_mantissa.ensures.grown c.append_exponent.ensures.grown
