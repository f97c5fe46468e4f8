use Rattle.std.proofs.Common.{rules, ◌<◌, ◌^◌, ◌≡◌, subst, sym, ap, ◌∙◌, Some}
use Rattle.std.specs.Str.{IsAscii}
use Rattle.std.specs.Option.{option_map}
use Rattle.xls_decimals.specs.Moments.{IsDuration, span_of}
use Rattle.xls_decimals.specs.Fractions.{value_of}
use Rattle.xls_decimals.proofs.AddedLemmas.{adds}
use Rattle.xls_decimals.proofs.AsciiLemmas.{duration_ascii}
use Rattle.xls_decimals.proofs.FractionLemmas.{span_from_days, span_parts}
use Rattle.xls_decimals.proofs.durations.push_duration.Goals as goal

pub push_ascii-requires : goal.push_ascii-requires
push_ascii-requires c =
    let small : c.in-Some.days.milliseconds < 2 ^ 64 = search rules in
    subst IsAscii (sym (c.as_slice.ensures ∙ c.duration_text.ensures))
    (duration_ascii c.in-Some.days.is_negative c.in-Some.days.milliseconds small)

pub returns-in-Some-clause-ok : goal.returns-in-Some-clause-ok
returns-in-Some-clause-ok c =
    let is : span_of c.args.number ≡ Some (c.in-Some.days.is_negative, c.in-Some.days.milliseconds) =
    span_from_days (value_of c.args.number) ∙ ap (option_map span_parts) (sym c.in-Some.ensures) in
    let text : IsDuration c.args.number c.as_slice.result.now = rw is (c.as_slice.ensures ∙ c.duration_text.ensures) in
    adds c.push_ascii.result (IsDuration c.args.number) c.as_slice.result.now _ _ text c.push_ascii.ensures.ok
