-- What a cell holds that is lent from a stream.
use Rattle.std.specs.Prelude.{ℕ, List, []}
use Rattle.std.specs.Str.{chars}
use Rattle.xls_data.specs.Content.{Content, text, truth, failure, nothing}
use Rattle.xls_data.specs.Numeric.{numeric_content}
use Rattle.xls_strings.specs.Strings.{string_at}
use Rattle.xls_biff.specs.Cells.{CellEntry, characters_in}
use Rattle.xls_view.specs.declared.value.CellValue.{CellValue}
use Rattle.xls_view.specs.declared.value.CellValue.TheVariants as variant
use Rattle.xls_view.specs.declared.value.EncodedText.{EncodedText}
use Rattle.xls_view.specs.Formats.{FormattedCell}
use Rattle.xls_view.specs.declared.value.BareCell.{BareCell}
use Rattle.xls_view.specs.declared.value.SheetCell.{SheetCell}

-- the characters of a string that isn't decoded
abbrev pub encoded_text : EncodedText → List ℕ
encoded_text e = characters_in (string_at e.page e.version e.string.now)

-- the content of a value
abbrev pub lent_content : CellValue → Content
lent_content (variant.Number n) = numeric_content n
lent_content (variant.Bool b) = truth b
lent_content (variant.Error e) = failure e
lent_content (variant.Shared s) = text (chars s.now)
lent_content variant.Empty = nothing
lent_content (variant.Encoded e) = text (encoded_text e)

-- the characters of a text, and none of another content
abbrev pub value_text : Content → List ℕ
value_text (text cs) = cs
value_text other = []

-- a cell by its content
abbrev pub cell_entry : SheetCell → CellEntry
cell_entry c = ((c.row, c.column), lent_content c.value)

-- likewise with its XF index
abbrev pub formatted_entry : SheetCell → FormattedCell
formatted_entry c = ((c.row, c.column), (lent_content c.value, c.xf))

-- or before it has one
abbrev pub bare_entry : BareCell → CellEntry
bare_entry c = (c.position, lent_content c.value)
