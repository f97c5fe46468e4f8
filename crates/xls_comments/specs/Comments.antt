-- The comments of a sheet, by all records of its own.
use Rattle.std.specs.Prelude.{List, if◌then◌else◌}
use Rattle.xls_record.specs.declared.version.Biff.{Biff}
use Rattle.xls_record.specs.Version.{is_biff8}
use Rattle.xls_text.specs.declared.encoding.XlsEncoding.{XlsEncoding}
use Rattle.xls_parts.specs.PartRecords.{Placed}
use Rattle.xls_comments.specs.Items.{Item}
use Rattle.xls_comments.specs.Biff8.{items_8}
use Rattle.xls_comments.specs.Biff5.{items_5}

-- in the order of the Note records; before BIFF8 texts are decoded by the page
abbrev pub comment_items : Biff → XlsEncoding → List Placed → List Item
comment_items version page records = if is_biff8 version then items_8 records else items_5 page records
