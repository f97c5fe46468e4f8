-- The lines of what stands beside the values of a workbook, by topic.
use Rattle.std.specs.Prelude.{ℕ, List}
use Rattle.xls_record.specs.declared.version.Biff.{Biff}
use Rattle.xls_text.specs.declared.encoding.XlsEncoding.{XlsEncoding}
use Rattle.xls_open.specs.Globals.{Sheets}
use Rattle.xls_beside.specs.Books.{books_lines}
use Rattle.xls_beside.specs.Comments.{comments_lines}
use Rattle.xls_beside.specs.Hidden.{hidden_lines}
use Rattle.xls_beside.specs.Lines.{Line}
use Rattle.xls_beside.specs.Links.{links_lines}
use Rattle.xls_beside.specs.Styles.{styles_lines}
use Rattle.xls_beside.specs.declared.topics.Topic.{Topic}
use Rattle.xls_beside.specs.declared.topics.Topic.TheVariants as topics

-- by the version and the page in force, the sheets that the globals list with their offsets, and the stream
abbrev pub beside_lines : Topic → Biff → XlsEncoding → Sheets → List ℕ → List Line
beside_lines topics.Hidden version page sheets stream = hidden_lines version sheets stream
beside_lines topics.Books version page sheets stream = books_lines version page sheets stream
beside_lines topics.Comments version page sheets stream = comments_lines version page sheets stream
beside_lines topics.Links version page sheets stream = links_lines version page sheets stream
beside_lines topics.Styles version page sheets stream = styles_lines version page sheets stream
