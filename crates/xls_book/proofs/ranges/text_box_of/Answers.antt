use Rattle.std.proofs.Common.{map, sym, ap, subst, ◌∙◌}
use Rattle.xls_range.specs.Positions.{IsAscending, cell_position}
use Rattle.xls_strings.specs.Texts.{text_of}
use Rattle.xls_open.specs.Workbook.{IsOrdered}
use Rattle.xls_open.proofs.PartLemmas.{positions}
use Rattle.xls_book.proofs.ranges.text_box_of.Goals as goal

pub from_sorted-requires : goal.from_sorted-requires
from_sorted-requires c =
    let cells = c.content.inside.formulas.items in
    subst IsAscending (positions text_of cells ∙ ap (map cell_position) (sym c.deref.ensures.value)) (subst IsOrdered (sym c.content.view_is) c.requires).1
