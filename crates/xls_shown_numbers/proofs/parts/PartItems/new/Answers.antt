use Rattle.std.proofs.Common.{length, ◌<◌, ◌^◌, arith, sym, subst}
use Rattle.xls_shown_numbers.specs.Parts.{part_of}
use Rattle.xls_shown_numbers.proofs.ExponentLemmas.{part_len}
use Rattle.xls_shown_numbers.proofs.parts.PartItems.new.Goals as goal

pub returns-clause-few : goal.returns-clause-few
returns-clause-few c =
    let less = part_len c.args.part c.args.section.now in
    subst (λ ts. length (part_of c.args.part ts) < 2 ^ 63) (sym c.iter.ensures.items) (omega (arith, c.iter.ensures.few, less))
