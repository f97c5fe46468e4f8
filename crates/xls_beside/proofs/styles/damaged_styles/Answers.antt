use Rattle.std.proofs.Common.{◌≡◌, List, map, length, sym, ap, arith, ◌∙◌}
use Rattle.xls_open.specs.Globals.{State, listed_of}
use Rattle.xls_parts.specs.PartRecords.{globals_records}
use Rattle.xls_styles.specs.Styles.{Styles, styles_of}
use Rattle.xls_styles.specs.declared.damage.Damage.{Damage}
use Rattle.xls_beside.specs.Damaged.{at_most_counted}
use Rattle.xls_beside.specs.Styles.{styles_lines}
use Rattle.xls_beside.proofs.DamagedLemmas.{counts_same, damages_alone}
use Rattle.xls_beside.proofs.styles.damaged_styles.Goals as goal

pub returns : goal.returns
returns c =
    let stream = c.args.stream.now in
    let inside = c.globals.inside in
    let styles = styles_of inside.version inside.page (globals_records stream) in
    let fits : length c.damages.result.now ≡ at_most_counted (length c.damages.result.now) = grind (arith, c.damages.type_inv) in
    let read = c.damages.ensures ∙ ap (λ (s : Styles). s.damages) c.in_ok-styles.ensures in
    fits
    ∙ ap (λ (ds : List Damage). at_most_counted (length ds)) read
    ∙ ap at_most_counted (sym (damages_alone inside.version styles (map listed_of inside.listed.items) stream))
    ∙ counts_same (ap (λ (s : State). styles_lines s.version s.page s.sheets stream) c.globals.view_is)
