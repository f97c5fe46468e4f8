-- The commands, as a table.
use Rattle.std.specs.Prelude.{ℕ, Bool, true, false, List, codes}
use Rattle.xls_beside.specs.declared.topics.Topic.TheVariants.{Hidden, Books, Comments, Links, Styles}
use Rattle.xls_readable.specs.declared.choices.Listing.TheVariants.{Dump, Sheets, Formulas, Refs}
use Rattle.xls_words.specs.declared.word.FileCount.{FileCount}
use Rattle.xls_words.specs.declared.word.FileCount.TheVariants.{Many, One, OneAndPath}
use Rattle.xls_words.specs.declared.word.Word.{Word}
use Rattle.xls_words.specs.declared.word.Word.TheVariants as words

-- what a command is called, how many files it reads, and the ending of the files that its texts are written into
pub record Command : Type 0 where
  pub name : List ℕ
  pub files : FileCount
  pub ending : List ℕ

abbrev pub command : Word → Command
command (words.Lines Dump) = record { name = codes "dump"; files = Many; ending = codes "txt" }
command (words.Lines Sheets) = record { name = codes "sheets"; files = Many; ending = codes "txt" }
command words.Check = record { name = codes "check"; files = Many; ending = codes "txt" }
command (words.Lines Formulas) = record { name = codes "formulas"; files = Many; ending = codes "txt" }
command (words.Lines Refs) = record { name = codes "refs"; files = Many; ending = codes "txt" }
command (words.Beside Hidden) = record { name = codes "hidden"; files = Many; ending = codes "txt" }
command (words.Beside Books) = record { name = codes "books"; files = Many; ending = codes "txt" }
command (words.Beside Comments) = record { name = codes "comments"; files = Many; ending = codes "txt" }
command (words.Beside Links) = record { name = codes "links"; files = Many; ending = codes "txt" }
command (words.Beside Styles) = record { name = codes "styles"; files = Many; ending = codes "txt" }
command words.Props = record { name = codes "props"; files = Many; ending = codes "txt" }
command words.Vba = record { name = codes "vba"; files = Many; ending = codes "txt" }
command words.Macros = record { name = codes "macros"; files = Many; ending = codes "txt" }
command words.Csv = record { name = codes "csv"; files = Many; ending = codes "csv" }
command words.Remake = record { name = codes "remake"; files = One; ending = codes "txt" }
command words.Stream = record { name = codes "stream"; files = OneAndPath; ending = codes "txt" }
command words.Streams = record { name = codes "streams"; files = One; ending = codes "txt" }

abbrev pub word_text : Word → List ℕ
word_text word = (command word).name

abbrev pub file_count : Word → FileCount
file_count word = (command word).files

abbrev pub ending_text : Word → List ℕ
ending_text word = (command word).ending

abbrev pub is_many : FileCount → Bool
is_many Many = true
is_many One = false
is_many OneAndPath = false

abbrev pub takes_many : Word → Bool
takes_many word = is_many (file_count word)
