use Rattle.std.proofs.Common.{ap, ◌∙◌, ◌++◌}
use Rattle.xls_lines.specs.Days.{date_text}
use Rattle.xls_lines.proofs.DayLemmas.{serial_is}
use Rattle.xls_lines.proofs.days.put_day.Goals as goal

pub returns : goal.returns
returns c =
    let date = c.ymd_of_serial_day-year.ensures in
    c.put_date.ensures
    ∙ ap (λ d. date_text d ++ c.args.text.now)
    (serial_is c.args.is_1904 c.args.day c.ymd_of_serial_day-year.result c.requires.last date.leap date.early date.late date.from_1904)
