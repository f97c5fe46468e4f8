use Rattle.std.proofs.Common.{◌≡◌, ◌++◌, ◌/◌, ◌%◌, rules, pos, ◌+ℤ◌, to_z, w32, ap, ◌∙◌}
use Rattle.std.specs.String.{string_bytes}
use Rattle.std.specs.Prelude.{codes}
use Rattle.jiff.specs.Words.{date_text, epoch_day}
use Rattle.xls_dates.specs.SerialDays.{day_number}
use Rattle.xls_props.specs.Moments.{clock_text}
use Rattle.xls_props.proofs.moments.moment_text.Goals as goal

pub returns : goal.returns
returns c =
    let days : to_z w32 (c.args.filetime / 10_000_000 / 86_400) ≡ pos (c.args.filetime / 10_000_000 / 86_400) = search rules in
    let counted : epoch_day c.days_after_1601-day.result ≡ day_number 1601 1 1 +ℤ pos (c.args.filetime / 10_000_000 / 86_400) = c.days_after_1601-day.ensures ∙ ap (λ z. day_number 1601 1 1 +ℤ z) days in
    let displayed : string_bytes c.in_ok-text.text ≡ date_text c.days_after_1601-day.result ++ (codes "T" ++ (clock_text (c.args.filetime / 10_000_000 % 86_400) ++ codes "Z")) = search rules in
    record {
      date = c.days_after_1601-day.result;
      counted = counted;
      displayed = displayed;
    }
