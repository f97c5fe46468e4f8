use Rattle.std.proofs.Common.{arith, refl, ◌∙◌}
use Rattle.std.proofs.lemmas.Int.{ints}
use Rattle.xls_dates.proofs.DayLemmas.{numbered, known}
use Rattle.xls_dates.proofs.serial_days.ymd_of_serial_day.Goals as goal

pub ymd_after-requires-clause-fits : goal.ymd_after-requires-clause-fits
ymd_after-requires-clause-fits c =
    let from = numbered c.date.result 1904 1 1 c.date.ensures ∙ known.2 in
    (omega (arith, ints, from), omega (arith, ints, from))

pub ymd_after-requires-clause-start : goal.ymd_after-requires-clause-start
ymd_after-requires-clause-start c =
    let from = numbered c.date.result 1904 1 1 c.date.ensures ∙ known.2 in
    omega (arith, ints, from)

pub ymd_after-requires-then-day-lt60-clause-fits : goal.ymd_after-requires-then-day-lt60-clause-fits
ymd_after-requires-then-day-lt60-clause-fits c =
    let from = numbered c.date-then-day-lt60.result 1899 12 31 c.date-then-day-lt60.ensures ∙ known.0 in
    (omega (arith, ints, from), omega (arith, ints, from))

pub ymd_after-requires-then-day-lt60-clause-start : goal.ymd_after-requires-then-day-lt60-clause-start
ymd_after-requires-then-day-lt60-clause-start c =
    let from = numbered c.date-then-day-lt60.result 1899 12 31 c.date-then-day-lt60.ensures ∙ known.0 in
    omega (arith, ints, from)

pub ymd_after-requires-else-day-lt60-clause-fits : goal.ymd_after-requires-else-day-lt60-clause-fits
ymd_after-requires-else-day-lt60-clause-fits c =
    let from = numbered c.date-else-day-lt60.result 1899 12 30 c.date-else-day-lt60.ensures ∙ known.1 in
    (omega (arith, ints, from), omega (arith, ints, from))

pub ymd_after-requires-else-day-lt60-clause-start : goal.ymd_after-requires-else-day-lt60-clause-start
ymd_after-requires-else-day-lt60-clause-start c =
    let from = numbered c.date-else-day-lt60.result 1899 12 30 c.date-else-day-lt60.ensures ∙ known.1 in
    omega (arith, ints, from)

-- a day past the last one is not up to it
pub returns-then-day-gt-LAST_DAY-clause-late : goal.returns-then-day-gt-LAST_DAY-clause-late
returns-then-day-gt-LAST_DAY-clause-late c = λ from_1900 after_leap within. absurd (omega (arith, c.if-day-gt-LAST_DAY.true, within))

pub returns-then-day-eq60-clause-leap : goal.returns-then-day-eq60-clause-leap
returns-then-day-eq60-clause-leap c = λ from_1900 is_leap. refl
