use Rattle.std.proofs.Common.{◌≡◌, ◌^◌, arith, ◌∙◌, ap}
use Rattle.xls_rounding.specs.FormulaNumbers.{without_zeros}
use Rattle.xls_rounding.proofs.PlaceLemmas.{ten_pos}
use Rattle.xls_shown_numbers.specs.Digits.{last_digits}
use Rattle.xls_shown_numbers.proofs.GeneralLemmas.{one_before, before_one}
use Rattle.xls_shown_numbers.proofs.general.decimals.Goals as goal

pub nonzero_rem-n : goal.nonzero_rem-n
nonzero_rem-n c = let some = ten_pos c.args.p in omega arith

pub without_zeros-requires : goal.without_zeros-requires
without_zeros-requires c = let some = ten_pos c.args.p in omega arith

pub returns : goal.returns
returns c =
    let one : c.pow-one.result ≡ 10 ^ c.args.p = c.pow-one.ensures in
    c.without_zeros.ensures ∙ (rw one (ap without_zeros (one_before c.args.p c.args.n c.requires) ∙ before_one (without_zeros (last_digits c.args.p c.args.n))))
