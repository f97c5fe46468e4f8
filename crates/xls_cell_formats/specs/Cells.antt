-- Cells under the codes of their formats.
use Rattle.xls_view.specs.Formats.{FormattedCell}
use Rattle.xls_view.specs.Viewing.{Viewed}
use Rattle.xls_cell_formats.specs.CellCodes.{code_of_xf}
use Rattle.xls_cell_formats.specs.Numbers.{content_under}

-- a cell of a workbook whose number, if it is one, is what the code of its XF index says
abbrev pub classed_cell : Viewed → FormattedCell → FormattedCell
classed_cell view c =
    (c.0, (content_under (code_of_xf view.codes view.identifiers c.1.1) view.book.is_1904 c.1.0, c.1.1))
