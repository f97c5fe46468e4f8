-- The words for kinds, the names of records, and the sentences for what is wrong with one.
use Rattle.std.specs.Prelude.{ℕ, List, ◌++◌, codes, Option, Some, None}
use Rattle.std.specs.Fmt.{decimal}
use Rattle.xls_other_books.specs.declared.damage.DamagedRecord.{DamagedRecord}
use Rattle.xls_other_books.specs.declared.damage.DamagedRecord.TheVariants as names
use Rattle.xls_other_books.specs.declared.damage.Flaw.{Flaw}
use Rattle.xls_other_books.specs.declared.damage.Flaw.TheVariants.{Short, NamesMissing, Empty, Nameless}
use Rattle.xls_other_books.specs.declared.books.Linked.{Linked}
use Rattle.xls_other_books.specs.declared.books.Linked.TheVariants as links

abbrev pub record_text : DamagedRecord → List ℕ
record_text names.SupBook = codes "SupBook"
record_text names.ExternName = codes "ExternName"
record_text names.ExternSheet = codes "ExternSheet"

abbrev pub flaw_text : Flaw → List ℕ
flaw_text (Short least found) = codes "shorter than " ++ (decimal least ++ (codes " bytes: " ++ decimal found))
flaw_text NamesMissing = codes "it ends before its names do"
flaw_text Empty = codes "it is empty"
flaw_text Nameless = codes "it has no name"

-- a workbook or a program; nothing and added functions have no word
abbrev pub kind_text : Linked → Option (List ℕ)
kind_text links.Nothing = None
kind_text links.Functions = None
kind_text links.Book = Some (codes "book")
kind_text links.Program = Some (codes "dde")
