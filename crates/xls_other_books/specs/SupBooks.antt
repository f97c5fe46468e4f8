-- SupBook (2.4.271): the number of sheets (ctab) at 0, and at 2 the count of the path (cch), or what says in its place
-- that this workbook or added functions are meant. Else at 2 stand a string, the path, and as many strings as there
-- are sheets, their names.
use Rattle.std.specs.Prelude.{◌≡◌, ℕ, List, [], ◌∷◌, map, take, drop, length, Bool, true, false, nat_lt, ◌==◌, if◌then◌else◌, Option, Some, None, String}
use Rattle.std.specs.Global.{Global}
use Rattle.std.specs.Option.{option_map}
use Rattle.std.specs.Char.Utf16.{utf16_lossy_chars}
use Rattle.xls_bytes.specs.Numbers.{le}
use Rattle.xls_parts.specs.PartRecords.{Placed}
use Rattle.xls_stream.specs.StringTable.{Mark, marked}
use Rattle.xls_strings.specs.Texts.{text_of}
use Rattle.xls_text.specs.declared.encoding.XlsEncoding.{XlsEncoding}
use Rattle.xls_other_books.specs.declared.books.Book.{Book as BookFields}
use Rattle.xls_other_books.specs.declared.books.Linked.{Linked}
use Rattle.xls_other_books.specs.declared.books.Linked.TheVariants as links
use Rattle.xls_other_books.specs.declared.damage.Damage.{Damage}
use Rattle.xls_other_books.specs.declared.damage.DamagedRecord.TheVariants as records
use Rattle.xls_other_books.specs.declared.damage.Flaw.{Flaw}
use Rattle.xls_other_books.specs.declared.damage.Flaw.TheVariants.{Short, NamesMissing}
use Rattle.xls_other_books.specs.declared.sup_books.Head.{Head as HeadFields}
use Rattle.xls_other_books.specs.declared.types.TheConstants.{SUP_BOOK, THIS_WORKBOOK, ADDED_FUNCTIONS}
use Rattle.xls_other_books.specs.Books.{Book, book_view, is_nothing}
use Rattle.xls_other_books.specs.Names.{names_behind, from_sup_book}
use Rattle.xls_other_books.specs.Paths.{Target, target_of}
use Rattle.xls_other_books.specs.Strings.{Texts, texts_at, string_at, continues, past_continues}

-- ---- the record

-- what it says, and what is wrong with it
pub record Head : Type 0 where
  pub linked : Linked
  pub path : List ℕ
  pub topic : List ℕ
  pub sheets : List (List ℕ)
  pub flaw : Option Flaw

abbrev pub bare : Linked → Option Flaw → Head
bare linked flaw = record { linked = linked; path = []; topic = []; sheets = []; flaw = flaw }

abbrev pub flaw_unless : Bool → Option Flaw
flaw_unless true = None
flaw_unless false = Some NamesMissing

-- by what the path tells, and the names of the sheets, which count where something is linked
abbrev pub linked_head : Target → Texts → Head
linked_head target sheets =
    if is_nothing target.linked then bare links.Nothing (flaw_unless sheets.1)
    else record {
      linked = target.linked;
      path = target.path;
      topic = target.topic;
      sheets = sheets.0;
      flaw = flaw_unless sheets.1;
    }

-- by the units of the path and what stands behind it
abbrev pub strings_head : ℕ → Option (List ℕ × List Mark) → Head
strings_head count None = bare links.Nothing (Some NamesMissing)
strings_head count (Some x) = linked_head (target_of (utf16_lossy_chars x.0)) (texts_at count x.1)

-- by a body of four bytes or more, and its bytes from the third on with those of Continue records
abbrev pub long_head : List ℕ → List Mark → Head
long_head body marks =
    if le (take 2 (drop 2 body)) == THIS_WORKBOOK then bare links.Nothing None
    else if le (take 2 (drop 2 body)) == ADDED_FUNCTIONS then bare links.Functions None
    else strings_head (le (take 2 body)) (string_at marks)

-- by its body and the bodies of the Continue records behind it
abbrev pub head_of : List ℕ → List (List ℕ) → Head
head_of body bodies =
    if nat_lt (length body) 4 then bare links.Nothing (Some (Short 4 (length body)))
    else long_head body (marked (drop 2 body) bodies)

-- ---- with the names

abbrev pub damage_of : ℕ → Option Flaw → Option Damage
damage_of offset flaw = option_map (λ f. record { record_name = records.SupBook; offset = offset; flaw = f }) flaw

abbrev pub with_names : XlsEncoding → ℕ → Head → List Placed → Book
with_names page offset head rs = record {
  linked = head.linked;
  path = head.path;
  topic = head.topic;
  sheets = head.sheets;
  names = (if is_nothing head.linked then [] else names_behind page rs);
  damage = damage_of offset head.flaw;
}

-- what a SupBook links, by the records behind it
abbrev pub sup_book : XlsEncoding → Placed → List Placed → Book
sup_book page r rs = with_names page r.offset (head_of r.body (continues rs)) rs

-- what the SupBook records among these link
abbrev pub sup_books : XlsEncoding → List Placed → List Book
sup_books page [] = []
sup_books page (r ∷ rs) = if r.typ == SUP_BOOK then sup_book page r rs ∷ sup_books page rs else sup_books page rs

-- ---- for the contracts

abbrev pub head_view : HeadFields → Head
head_view h = record {
  linked = h.linked;
  path = text_of h.path;
  topic = text_of h.topic;
  sheets = map text_of h.sheets.items;
  flaw = h.flaw;
}

-- the texts of so many strings, and whether all were there
pub record ReadsTexts (count : ℕ) (before : List Mark) (texts : List (String Global)) (is_whole : Bool) : Type 0 where
  pub are : (map text_of texts, is_whole) ≡ texts_at count before

-- a SupBook was read with the names behind it
pub record ReadsBook (page : XlsEncoding) (r : Placed) (before : List Placed) (book : BookFields) (after : List Placed) : Type 0 where
  pub is : book_view book ≡ sup_book page r before
  pub passed : after ≡ from_sup_book (past_continues before)
