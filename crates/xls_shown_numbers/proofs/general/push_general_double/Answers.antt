use Rattle.xls_shown_numbers.proofs.GeneralLemmas.{double_15}
use Rattle.xls_shown_numbers.proofs.general.push_general_double.Goals as goal

pub push_general-requires : goal.push_general-requires
push_general-requires c =
    let e = c.to_15_digits.ensures in
    double_15 c.args.bits c.to_15_digits.result e.exact e.least e.most e.exponent.0 e.exponent.1
