use Rattle.std.proofs.Common.{arith, FitsSigned, w32, w64, ◌∙◌, ap, ◌+ℤ◌, ℤ}
use Rattle.std.proofs.lemmas.Int.{to_z-of_z, ints}
use Rattle.jiff.proofs.SpanFacts.{signed_arith, date_add-days, can_add-days}
use Rattle.jiff.specs.Words.{epoch_day, IsEpochDay}
use Rattle.xls_props.proofs.DayLemmas.{numbered, known}
use Rattle.xls_props.proofs.moments.days_after_1601.Goals as goal

pub unwrap-requires : goal.unwrap-requires
unwrap-requires c =
    let fn : FitsSigned w32 c.args.days = c.ranges.days in
    let f8 : FitsSigned w64 c.args.days = omega (arith, signed_arith) in
    let only = simp to_z-of_z at c.days.ensures in
    let from = numbered c.date.result 1601 1 1 c.date.ensures ∙ known in
    let fits : IsEpochDay (epoch_day c.date.result +ℤ c.args.days) = (omega (arith, ints, from), omega (arith, ints, from)) in
    c.checked_add.ensures.succeeds.1 ((can_add-days c.date.result c.args.days c.days.result only).1 fits)

pub returns : goal.returns
returns c =
    let fn : FitsSigned w32 c.args.days = c.ranges.days in
    let f8 : FitsSigned w64 c.args.days = omega (arith, signed_arith) in
    let only = simp to_z-of_z at c.days.ensures in
    let value = rw c.unwrap.ensures at c.checked_add.ensures.value in
    value ∙ date_add-days c.date.result c.args.days c.days.result only ∙ ap (λ (z : ℤ). z +ℤ c.args.days) (numbered c.date.result 1601 1 1 c.date.ensures)
