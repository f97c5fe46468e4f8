use Rattle.std.proofs.Common.{ap, sym, ◌∙◌}
use Rattle.std.specs.Option.{option_copied, unwrap_or}
use Rattle.xls_dates.specs.Builtin.{class_of_code}
use Rattle.xls_open.proofs.classes.class_of.Goals as goal

pub returns-in-Some : goal.returns-in-Some
returns-in-Some c =
    let class = class_of_code c.args.identifier in
    ap (λ found. unwrap_or (option_copied found) class) (sym c.in-Some.is)
    ∙ ap (λ found. unwrap_or found class) c.get.ensures.value
