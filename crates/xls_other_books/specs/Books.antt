-- What a workbook links: other workbooks, programs and added functions.
use Rattle.std.specs.Prelude.{ℕ, List, map, Bool, true, false, Option}
use Rattle.std.specs.Option.{option_map}
use Rattle.xls_strings.specs.Texts.{text_of}
use Rattle.xls_other_books.specs.declared.books.Book.{Book as BookFields}
use Rattle.xls_other_books.specs.declared.books.Linked.{Linked}
use Rattle.xls_other_books.specs.declared.books.Linked.TheVariants as links
use Rattle.xls_other_books.specs.declared.damage.Damage.{Damage}
use Rattle.xls_other_books.specs.Names.{Name, name_view}

-- the kind of what is linked, its path and topic, its sheets and names, and what is wrong with its record
pub record Book : Type 0 where
  pub linked : Linked
  pub path : List ℕ
  pub topic : List ℕ
  pub sheets : List (List ℕ)
  pub names : List Name
  pub damage : Option Damage

abbrev pub is_nothing : Linked → Bool
is_nothing links.Nothing = true
is_nothing linked = false

abbrev pub is_book : Linked → Bool
is_book links.Book = true
is_book linked = false

-- one as the code keeps it
abbrev pub book_view : BookFields → Book
book_view b = record {
  linked = b.linked;
  path = text_of b.path;
  topic = text_of b.topic;
  sheets = map text_of b.sheets.items;
  names = map name_view b.names.items;
  damage = b.damage;
}

abbrev pub books_view : List BookFields → List Book
books_view books = map book_view books

abbrev pub view_if : Option BookFields → Option Book
view_if book = option_map book_view book
