use Rattle.std.proofs.Common.{arith, negsuc, ◌≤ℤ◌}
use Rattle.std.proofs.lemmas.Int.{ints}
use Rattle.jiff.specs.Words.{epoch_day}
use Rattle.xls_dates.proofs.DayLemmas.{year_from}
use Rattle.xls_dates.proofs.serial_days.ymd_after.Goals as goal

pub parts_of-requires : goal.parts_of-requires
parts_of-requires c =
    let e = c.days_after.ensures in
    let r = c.requires.range in
    let s = c.requires.start in
    let late : negsuc 25568 ≤ℤ epoch_day c.days_after.result = omega (arith, ints, e, r.0, s) in
    year_from c.days_after.result late
