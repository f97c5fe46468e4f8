-- The names of what a SupBook links: ExternName (2.4.105) has bits at 0 and a short string at 6, and belongs to the last
-- SupBook before it.
use Rattle.std.specs.Prelude.{◌≡◌, ℕ, List, [], ◌∷◌, map, drop, length, Bool, nat_lt, ◌==◌, if◌then◌else◌, Option, Result, Ok, Err, String}
use Rattle.std.specs.Global.{Global}
use Rattle.xls_parts.specs.PartRecords.{Placed}
use Rattle.xls_record.specs.declared.error.XlsError.{XlsError}
use Rattle.xls_record.specs.declared.version.Biff.{Biff}
use Rattle.xls_record.specs.declared.version.Biff.TheVariants.{Biff8}
use Rattle.xls_text.specs.Pages.{string_text}
use Rattle.xls_text.specs.declared.encoding.XlsEncoding.{XlsEncoding}
use Rattle.xls_strings.specs.Strings.{short_string_at}
use Rattle.xls_strings.specs.Texts.{text_of}
use Rattle.xls_other_books.specs.declared.damage.Damage.{Damage}
use Rattle.xls_other_books.specs.declared.damage.DamagedRecord.TheVariants as records
use Rattle.xls_other_books.specs.declared.damage.Flaw.TheVariants.{Short}
use Rattle.xls_other_books.specs.declared.types.TheConstants.{SUP_BOOK, EXTERN_NAME}

-- ---- short strings

abbrev pub text_at : XlsEncoding → Option Bool → List ℕ → ℕ → List ℕ
text_at page high bytes count = string_text page high bytes count

-- a text that is refused is empty
abbrev pub or_empty : Result (List ℕ) XlsError → List ℕ
or_empty (Ok text) = text
or_empty (Err e) = []

abbrev pub short_text : Biff → XlsEncoding → List ℕ → List ℕ
short_text version page bytes = or_empty (short_string_at page version bytes)

-- ---- names

-- a name, or what is wrong with its record
abbrev pub Name : Type 0
Name = Result (List ℕ) Damage

abbrev pub name_of : XlsEncoding → Placed → Name
name_of page r =
    if nat_lt (length r.body) 7
    then Err (record { record_name = records.ExternName; offset = r.offset; flaw = Short 7 (length r.body) })
    else Ok (short_text Biff8 page (drop 6 r.body))

-- the names up to the next SupBook
abbrev pub names_behind : XlsEncoding → List Placed → List Name
names_behind page [] = []
names_behind page (r ∷ rs) =
    if r.typ == SUP_BOOK then []
    else if r.typ == EXTERN_NAME then name_of page r ∷ names_behind page rs
    else names_behind page rs

-- the records from the next SupBook on
abbrev pub from_sup_book : List Placed → List Placed
from_sup_book [] = []
from_sup_book (r ∷ rs) = if r.typ == SUP_BOOK then r ∷ rs else from_sup_book rs

-- ---- for the contracts

-- one as the code keeps it
abbrev pub NameFields : Type 0
NameFields = Result (String Global) Damage

abbrev pub name_view : NameFields → Name
name_view (Ok name) = Ok (text_of name)
name_view (Err damage) = Err damage

-- the names were read, where they are wanted, and their records passed
pub record TakesNames (page : XlsEncoding) (wanted : Bool) (old : List Placed) (names : List NameFields) (new : List Placed) : Type 0 where
  pub are : map name_view names ≡ (if wanted then names_behind page old else [])
  pub passed : new ≡ from_sup_book old
