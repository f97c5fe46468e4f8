use Rattle.xls_props.proofs.FieldLemmas.{no_field, one_field}
use Rattle.xls_props.proofs.values.field.Goals as goal

pub returns-in_default : goal.returns-in_default
returns-in_default c =
    no_field _ c.args.number c.args.s.now c.args.entries.now c.args.page c.in_default.ensures

pub returns : goal.returns
returns c =
    let shows = c.unless_empty.ensures _ c.in_ok-text.ensures in
    one_field _ c.args.number c.args.s.now c.args.entries.now c.args.page _ _ c.in-Some.ensures shows
