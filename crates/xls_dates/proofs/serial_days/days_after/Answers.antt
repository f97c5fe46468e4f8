use Rattle.std.proofs.Common.{arith, FitsSigned, w32, w64, ◌∙◌}
use Rattle.std.proofs.lemmas.Int.{to_z-of_z}
use Rattle.jiff.proofs.SpanFacts.{signed_arith, date_add-days, can_add-days}
use Rattle.xls_dates.proofs.serial_days.days_after.Goals as goal

pub unwrap-requires : goal.unwrap-requires
unwrap-requires c =
    let fn : FitsSigned w32 c.args.days = c.ranges.days in
    let f8 : FitsSigned w64 c.args.days = omega (arith, signed_arith) in
    let only = simp to_z-of_z at c.days.ensures in
    c.checked_add.ensures.succeeds.1 ((can_add-days c.args.start c.args.days c.days.result only).1 c.requires.fits)

pub returns : goal.returns
returns c =
    let fn : FitsSigned w32 c.args.days = c.ranges.days in
    let f8 : FitsSigned w64 c.args.days = omega (arith, signed_arith) in
    let only = simp to_z-of_z at c.days.ensures in
    let value = rw c.unwrap.ensures at c.checked_add.ensures.value in
    value ∙ date_add-days c.args.start c.args.days c.days.result only
