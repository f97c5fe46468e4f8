use Rattle.std.proofs.lemmas.Result.{on_ok_weaker}
use Rattle.xls_beside_arrays.proofs.LaidLemmas.{lays-two}
use Rattle.xls_beside_arrays.proofs.styles.lay_style.Goals as goal
use Rattle.xls_beside_arrays.specs.Styles.{style_item}
use Rattle.xls_styles.specs.Styles.{style_view}

pub returns-clause-ok : goal.returns-clause-ok
returns-clause-ok c =
    on_ok_weaker c.lay_item.result
    (lays-two (style_item (style_view c.args.style.now)) c.in_ok-font.ensures.ok c.in_ok-format.ensures.ok c.style_item.ensures)
    c.lay_item.ensures.ok
