use Rattle.std.proofs.Common.{ap, ◌∙◌}
use Rattle.xls_open.specs.Globals.{State}
use Rattle.xls_parts.specs.PartRecords.{globals_records}
use Rattle.xls_styles.specs.Styles.{styles_of}
use Rattle.xls_beside_arrays.specs.Arrays.{nothing}
use Rattle.xls_beside_arrays.specs.Styles.{styles_arrays, with_styles}
use Rattle.xls_beside_arrays.proofs.LaidLemmas.{book-held}
use Rattle.xls_beside_arrays.proofs.styles.lay_styles.Goals as goal

pub returns-clause-ok : goal.returns-clause-ok
returns-clause-ok c =
    let records = globals_records c.args.stream.now in
    let styles = c.in_ok-styles.ensures ∙ ap (λ (s : State). styles_of s.version s.page records) c.globals.view_is in
    book-held styles_arrays (λ a. with_styles a c.in_ok-styles.styles) c.in_ok-globals.ensures.ok (ap (with_styles nothing) styles)
    c.in_ok-lay_all.ensures.ok
