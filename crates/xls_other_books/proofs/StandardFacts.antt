-- Known values, in the bytes of records, so that a wrong rule in the definitions does not check.
use Rattle.std.proofs.Common.{◌≡◌, ℕ, List, [], ◌∷◌, ◌++◌, map, replicate, take, drop, length, refl, true, Option, Some, None, Ok, Err, codes}
use Rattle.std.specs.Char.Utf16.{utf16_chars}
use Rattle.xls_bytes.specs.Numbers.{le16}
use Rattle.xls_parts.specs.PartRecords.{Placed}
use Rattle.xls_record.specs.declared.version.Biff.TheVariants.{Biff5, Biff8}
use Rattle.xls_stream.specs.StringTable.{marked, units_at}
use Rattle.xls_text.specs.declared.encoding.XlsEncoding.TheVariants.{Windows1252}
use Rattle.xls_other_books.specs.declared.books.Linked.{Linked}
use Rattle.xls_other_books.specs.declared.books.Linked.TheVariants as links
use Rattle.xls_other_books.specs.declared.damage.Damage.{Damage}
use Rattle.xls_other_books.specs.declared.damage.DamagedRecord.TheVariants as names
use Rattle.xls_other_books.specs.declared.damage.Flaw.{Flaw}
use Rattle.xls_other_books.specs.declared.damage.Flaw.TheVariants as flaws
use Rattle.xls_other_books.specs.declared.types.TheConstants as types
use Rattle.xls_other_books.specs.declared.cites.Cite.{Cite}
use Rattle.xls_other_books.specs.declared.entries.Entry.{Entry}
use Rattle.xls_other_books.specs.Cites.{cite_at, cites_in, token_more}
use Rattle.xls_other_books.specs.Entries.{entries_of}
use Rattle.xls_other_books.specs.Formulas.{Formula, formula_at}
use Rattle.xls_other_books.specs.Outside.{Cited, cited_before, cited_by, cited_through, distinct}
use Rattle.xls_other_books.specs.Books.{Book}
use Rattle.xls_other_books.specs.Links.{books_of}
use Rattle.xls_other_books.specs.Names.{Name, name_of}
use Rattle.xls_other_books.specs.Paths.{decoded_path, target_of, Target}
use Rattle.xls_other_books.specs.Strings.{texts_at}
use Rattle.xls_other_books.specs.SupBooks.{Head, head_of}
use Rattle.xls_other_books.specs.SheetRefs.{ref_of}
use Rattle.xls_other_books.specs.Texts.{flaw_text, record_text, kind_text}

pub known_types : types.SUP_BOOK ∷ types.EXTERN_NAME ∷ types.THIS_WORKBOOK ∷ types.ADDED_FUNCTIONS ∷ [] ≡ 0x1AE ∷ 0x23 ∷ 0x401 ∷ 0x3A01 ∷ []
known_types = refl

-- ---- words

pub known_kinds : map kind_text (links.Nothing ∷ links.Functions ∷ links.Book ∷ links.Program ∷ []) ≡ None ∷ None ∷ Some (codes "book") ∷ Some (codes "dde") ∷ []
known_kinds = refl

pub known_records : map record_text (names.SupBook ∷ names.ExternName ∷ names.ExternSheet ∷ []) ≡ codes "SupBook" ∷ codes "ExternName" ∷ codes "ExternSheet" ∷ []
known_records = refl

pub known_flaws : map flaw_text (flaws.NamesMissing ∷ flaws.Empty ∷ flaws.Nameless ∷ []) ≡ codes "it ends before its names do" ∷ codes "it is empty" ∷ codes "it has no name" ∷ []
known_flaws = refl

-- ---- paths

-- each unit below 9 behind a plain one, and a letter
pub known_units : map (λ c. decoded_path (0x78 ∷ c ∷ 0x79 ∷ 0x7A ∷ [])) (0 ∷ 1 ∷ 2 ∷ 3 ∷ 4 ∷ 5 ∷ 6 ∷ 7 ∷ 8 ∷ 9 ∷ 0x41 ∷ [])
    ≡ (0x78 ∷ 0 ∷ codes "yz") ∷ codes "xy:\\z" ∷ codes "x\\yz" ∷ codes "x\\yz" ∷ codes "x..\\yz" ∷ codes "xz" ∷ (0x78 ∷ 6 ∷ codes "yz") ∷ (0x78 ∷ 7 ∷ codes "yz") ∷ (0x78 ∷ 8 ∷ codes "yz") ∷ (0x78 ∷ 9 ∷ codes "yz") ∷ codes "xAyz" ∷ []
known_units = refl

-- each in the first place
pub known_first : map (λ c. decoded_path (c ∷ 0x79 ∷ 0x7A ∷ [])) (0 ∷ 1 ∷ 2 ∷ 3 ∷ 4 ∷ 5 ∷ 6 ∷ 7 ∷ 8 ∷ 9 ∷ [])
    ≡ (0 ∷ codes "yz") ∷ codes "y:\\z" ∷ codes "\\yz" ∷ codes "\\yz" ∷ codes "..\\yz" ∷ codes "z" ∷ codes "<startup>\\yz" ∷ codes "<alternate startup>\\yz" ∷ codes "<library>\\yz" ∷ (9 ∷ codes "yz") ∷ []
known_first = refl

-- a computer of the network; 1 and 5 with nothing behind them; behind 5 and one unit all stands for itself
pub known_ends : map decoded_path ((1 ∷ 0x40 ∷ codes "s") ∷ (0x78 ∷ 1 ∷ []) ∷ (0x78 ∷ 5 ∷ []) ∷ (5 ∷ 8 ∷ 1 ∷ 2 ∷ 3 ∷ 4 ∷ 5 ∷ 6 ∷ []) ∷ (6 ∷ []) ∷ [])
    ≡ codes "\\\\s" ∷ codes "x" ∷ codes "x" ∷ (1 ∷ 2 ∷ 3 ∷ 4 ∷ 5 ∷ 6 ∷ []) ∷ codes "<startup>\\" ∷ []
known_ends = refl

abbrev target : Linked → List ℕ → List ℕ → Target
target linked path topic = record { linked = linked; path = path; topic = topic }

-- 0, 2 and a blank alone; 1, 3 and a letter alone; none at all
pub known_alone : map (λ c. target_of (c ∷ [])) (0 ∷ 1 ∷ 2 ∷ 3 ∷ 0x20 ∷ 0x41 ∷ [])
    ≡ target links.Nothing [] [] ∷ target links.Book [] [] ∷ target links.Nothing [] [] ∷ target links.Program [] [] ∷ target links.Nothing [] [] ∷ target links.Book (codes "A") [] ∷ []
known_alone = refl

-- coded behind 0 and 1, and so no program; a program by its first 3; as it stands
pub known_targets : map target_of ([] ∷ (0 ∷ 3 ∷ codes "x") ∷ (1 ∷ 6 ∷ codes "x") ∷ (2 ∷ 2 ∷ []) ∷ (0x58 ∷ 3 ∷ 0x59 ∷ 3 ∷ 0x5A ∷ []) ∷ (0x58 ∷ 2 ∷ []) ∷ [])
    ≡ target links.Book [] [] ∷ target links.Book (codes "\\x") [] ∷ target links.Book (codes "<startup>\\x") [] ∷ target links.Book (2 ∷ 2 ∷ []) []
    ∷ target links.Program (codes "X") (0x59 ∷ 3 ∷ 0x5A ∷ []) ∷ target links.Book (0x58 ∷ 2 ∷ []) [] ∷ []
known_targets = refl

-- ---- SupBook

abbrev head : Linked → List ℕ → List (List ℕ) → Option Flaw → Head
head linked path sheets flaw = record { linked = linked; path = path; topic = []; sheets = sheets; flaw = flaw }

-- a path `a.x` and a sheet `One`
abbrev one_sheet : List ℕ
one_sheet = 1 ∷ 0 ∷ 3 ∷ 0 ∷ 0 ∷ codes "a.x" ++ 3 ∷ 0 ∷ 0 ∷ codes "One"

pub known_short : map (λ n. head_of (take n one_sheet) []) (0 ∷ 3 ∷ 4 ∷ []) ≡ head links.Nothing [] [] (Some (flaws.Short 4 0)) ∷ head links.Nothing [] [] (Some (flaws.Short 4 3)) ∷ head links.Nothing [] [] (Some flaws.NamesMissing) ∷ []
known_short = refl

pub known_counts : map (λ count. head_of (1 ∷ 0 ∷ le16 count) []) (0x0401 ∷ 0x3A01 ∷ 0x0400 ∷ []) ≡ head links.Nothing [] [] None ∷ head links.Functions [] [] None ∷ head links.Nothing [] [] (Some flaws.NamesMissing) ∷ []
known_counts = refl

-- whole; cut in the sheet's name; before it; in the path; two sheets of which one is there
pub known_heads : head_of one_sheet [] ∷ head_of (take 13 one_sheet) [] ∷ head_of (take 8 one_sheet) [] ∷ head_of (take 7 one_sheet) [] ∷ head_of (2 ∷ 0 ∷ drop 2 one_sheet) [] ∷ []
    ≡ head links.Book (codes "a.x") (codes "One" ∷ []) None ∷ head links.Book (codes "a.x") [] (Some flaws.NamesMissing) ∷ head links.Book (codes "a.x") [] (Some flaws.NamesMissing)
    ∷ head links.Nothing [] [] (Some flaws.NamesMissing) ∷ head links.Book (codes "a.x") (codes "One" ∷ []) (Some flaws.NamesMissing) ∷ []
unfolding units_at utf16_chars
known_heads = refl

-- a name goes on in a Continue in units of two bytes, and the next one begins in another
pub known_continued : head_of (2 ∷ 0 ∷ 1 ∷ 0 ∷ 0 ∷ 0x61 ∷ 4 ∷ 0 ∷ 0 ∷ codes "Tw") ((1 ∷ 0x6F ∷ 0 ∷ 0xE9 ∷ 0 ∷ []) ∷ (1 ∷ 0 ∷ 0 ∷ 0x4E ∷ []) ∷ [])
    ≡ head links.Book (codes "a") ((0x54 ∷ 0x77 ∷ 0x6F ∷ 0xE9 ∷ []) ∷ codes "N" ∷ []) None
unfolding units_at utf16_chars
known_continued = refl

-- units of two bytes; two bytes more with the flag 08, four with 04, six with both; a pair cut by a Continue
pub known_flags : map (λ f. texts_at 1 (marked (1 ∷ 0 ∷ f) [])) ((1 ∷ 0x41 ∷ 0x26 ∷ []) ∷ (8 ∷ 9 ∷ 9 ∷ 0x41 ∷ []) ∷ (4 ∷ 9 ∷ 9 ∷ 9 ∷ 9 ∷ 0x41 ∷ []) ∷ (0x0C ∷ 9 ∷ 9 ∷ 9 ∷ 9 ∷ 9 ∷ 9 ∷ 0x41 ∷ []) ∷ (0xF2 ∷ 0x41 ∷ []) ∷ [])
    ≡ ((0x2641 ∷ []) ∷ [], true) ∷ ((0x41 ∷ []) ∷ [], true) ∷ ((0x41 ∷ []) ∷ [], true) ∷ ((0x41 ∷ []) ∷ [], true) ∷ ((0x41 ∷ []) ∷ [], true) ∷ []
unfolding units_at utf16_chars
known_flags = refl

pub known_pair : texts_at 1 (marked (2 ∷ 0 ∷ 1 ∷ 0x3D ∷ 0xD8 ∷ []) ((1 ∷ 0x00 ∷ 0xDE ∷ []) ∷ [])) ≡ ((0x1F600 ∷ []) ∷ [], true)
unfolding units_at utf16_chars
known_pair = refl

-- this workbook and nothing keep no sheets, and are told where they are cut
pub known_nothing : head_of (1 ∷ 0 ∷ 1 ∷ 0 ∷ 0 ∷ 0x20 ∷ 1 ∷ 0 ∷ 0 ∷ codes "S") [] ∷ head_of (1 ∷ 0 ∷ 1 ∷ 0 ∷ 0 ∷ 2 ∷ []) [] ∷ [] ≡ head links.Nothing [] [] None ∷ head links.Nothing [] [] (Some flaws.NamesMissing) ∷ []
unfolding units_at utf16_chars
known_nothing = refl

-- ---- ExternName and the order of all

abbrev at : ℕ → ℕ → List ℕ → Placed
at offset typ body = record { offset = offset; typ = typ; body = body }

abbrev hurt_name : ℕ → Name
hurt_name n = Err (record { record_name = names.ExternName; offset = 9; flaw = flaws.Short 7 n })

pub known_names : map (λ name. name_of Windows1252 (at 9 0x23 (replicate 6 0 ++ name))) ([] ∷ (2 ∷ []) ∷ (2 ∷ 0 ∷ codes "Ab") ∷ (9 ∷ 0 ∷ codes "Ab") ∷ (1 ∷ 1 ∷ 0x41 ∷ 0x26 ∷ 7 ∷ []) ∷ [])
    ≡ hurt_name 6 ∷ Ok [] ∷ Ok (codes "Ab") ∷ Ok (codes "Ab") ∷ Ok (0x2641 ∷ []) ∷ []
unfolding utf16_chars
known_names = refl

abbrev name_b : List ℕ
name_b = replicate 6 0 ++ 1 ∷ 0 ∷ codes "B"

abbrev book : Linked → List ℕ → List (List ℕ) → List Name → Option Damage → Book
book linked path sheets names damage = record { linked = linked; path = path; topic = []; sheets = sheets; names = names; damage = damage }

abbrev hurt_book : ℕ → Option Damage
hurt_book offset = Some (record { record_name = names.SupBook; offset = offset; flaw = flaws.NamesMissing })

-- a name belongs to the last SupBook before it; one of this workbook, or before the first, to nothing
pub known_books : books_of Biff8 Windows1252
    (at 0 0x23 name_b ∷ at 1 0x1AE (1 ∷ 0 ∷ 1 ∷ 4 ∷ []) ∷ at 2 0x23 name_b ∷ at 3 0x1AE (1 ∷ 0 ∷ 1 ∷ 0x3A ∷ []) ∷ at 4 0x23 name_b ∷ at 5 0x1AE (take 11 one_sheet) ∷ at 6 0x3C (0 ∷ codes "")
    ∷ at 7 0x23 name_b ∷ at 8 0x17 (0 ∷ 0 ∷ []) ∷ at 9 0x23 [] ∷ at 10 0x1AE one_sheet ∷ [])
    ≡ book links.Nothing [] [] [] None ∷ book links.Functions [] [] (Ok (codes "B") ∷ []) None ∷ book links.Book (codes "a.x") [] (Ok (codes "B") ∷ Err (record { record_name = names.ExternName; offset = 9; flaw = flaws.Short 7 0 }) ∷ []) (hurt_book 5)
    ∷ book links.Book (codes "a.x") (codes "One" ∷ []) [] None ∷ []
unfolding units_at utf16_chars
known_books = refl

-- ---- before BIFF8

abbrev ref : List ℕ → Placed
ref body = at 9 0x17 body

abbrev hurt_ref : Flaw → Book
hurt_ref flaw = book links.Nothing [] [] [] (Some (record { record_name = names.ExternSheet; offset = 9; flaw = flaw }))

pub known_hurt_refs : map (λ body. ref_of Windows1252 (ref body)) ([] ∷ (1 ∷ []) ∷ (0 ∷ 0x41 ∷ []) ∷ []) ≡ hurt_ref flaws.Empty ∷ hurt_ref flaws.Nameless ∷ hurt_ref flaws.Nameless ∷ []
known_hurt_refs = refl

-- each first byte below 5, that of added functions, a letter; a blank alone
pub known_first_bytes : map (λ c. ref_of Windows1252 (ref (2 ∷ c ∷ 0x41 ∷ []))) (0 ∷ 1 ∷ 2 ∷ 3 ∷ 4 ∷ 0x3A ∷ 0x42 ∷ [])
    ≡ book links.Nothing [] [] [] None ∷ book links.Book (codes "A") [] [] None ∷ book links.Nothing [] [] [] None ∷ book links.Nothing [] [] [] None ∷ book links.Nothing [] [] [] None ∷ book links.Functions [] [] [] None ∷ book links.Book (codes "BA") [] [] None ∷ []
known_first_bytes = refl

abbrev counted : List ℕ → Placed
counted path = ref (length path ∷ path)

-- brackets; without the second one; in an address; a program keeps its brackets
pub known_paths : map (λ path. ref_of Windows1252 (counted path)) ((1 ∷ 1 ∷ 0x43 ∷ 0x64 ∷ 3 ∷ codes "[b.x]S 1") ∷ codes "[b.x" ∷ codes "d\\[b]c]S" ∷ [])
    ≡ book links.Book (codes "C:\\d\\b.x") (codes "S 1" ∷ []) [] None ∷ book links.Book (codes "[b.x") [] [] None ∷ book links.Book (codes "d\\b") (codes "c]S" ∷ []) [] None ∷ []
known_paths = refl

pub known_program : ref_of Windows1252 (counted (codes "X" ++ 3 ∷ codes "[b]S")) ≡ record { linked = links.Program; path = codes "X"; topic = codes "[b]S"; sheets = []; names = []; damage = None }
known_program = refl

-- records of one path in sequence are one, with others between them they are not
pub known_grouped : books_of Biff5 Windows1252 (counted (codes "[a]S") ∷ at 0 0x23 [] ∷ counted (codes "[a]T") ∷ counted (codes "[b]S") ∷ counted (3 ∷ codes "S") ∷ counted (codes "[b]T") ∷ [])
    ≡ book links.Book (codes "a") (codes "S" ∷ codes "T" ∷ []) [] None ∷ book links.Book (codes "b") (codes "S" ∷ []) [] None ∷ book links.Nothing [] [] [] None ∷ book links.Book (codes "b") (codes "T" ∷ []) [] None ∷ []
known_grouped = refl

-- ---- entries of ExternSheet

abbrev entry : ℕ → ℕ → ℕ → Entry
entry book first last = record { book = book; first = first; last = last }

-- at most the count, and the whole ones that are there, of all records one behind the other
pub known_entries : entries_of (at 0 0x17 (1 ∷ 0 ∷ 2 ∷ 1 ∷ 3 ∷ 0 ∷ 0xFE ∷ 0xFF ∷ replicate 6 9) ∷ at 1 0x18 [] ∷ at 2 0x17 (3 ∷ 0 ∷ 0 ∷ 0 ∷ 4 ∷ 0 ∷ 5 ∷ 0 ∷ 9 ∷ 9 ∷ 9 ∷ 9 ∷ 9 ∷ []) ∷ at 3 0x17 (1 ∷ []) ∷ [])
    ≡ entry 0x0102 3 0xFFFE ∷ entry 0 4 5 ∷ []
known_entries = refl

-- ---- tokens

-- a token and so many bytes behind it
abbrev token : ℕ → ℕ → List ℕ
token t n = t ∷ replicate n 9

-- the tokens that are known besides those of formulas, with all their bytes, and with one fewer
pub known_sizes : map (λ (x : ℕ × ℕ). token_more Biff8 (token x.0 x.1)) ((0x02, 4) ∷ (0x1C, 1) ∷ (0x26, 6) ∷ (0x27, 6) ∷ (0x28, 6) ∷ (0x29, 2) ∷ (0x2C, 4) ∷ (0x2D, 8) ∷ (0x39, 6) ∷ (0x59, 6) ∷ (0x79, 6) ∷ (0x6D, 8) ∷ (0x2E, 8) ∷ (0x80, 8) ∷ (0x06, 8) ∷ [])
    ≡ map Some (4 ∷ 1 ∷ 6 ∷ 6 ∷ 6 ∷ 2 ∷ 4 ∷ 8 ∷ 6 ∷ 6 ∷ 6 ∷ 8 ∷ []) ++ None ∷ None ∷ Some 0 ∷ []
known_sizes = refl

pub known_cut_sizes : map (λ (x : ℕ × ℕ). token_more Biff8 (token x.0 x.1)) ((0x02, 3) ∷ (0x1C, 0) ∷ (0x26, 5) ∷ (0x27, 5) ∷ (0x28, 5) ∷ (0x29, 1) ∷ (0x2C, 3) ∷ (0x2D, 7) ∷ (0x79, 5) ∷ []) ≡ replicate 9 None
known_cut_sizes = refl

pub known_early_sizes : map (λ (x : ℕ × ℕ). token_more Biff5 (token x.0 x.1)) ((0x02, 4) ∷ (0x26, 6) ∷ (0x29, 2) ∷ (0x2C, 3) ∷ (0x2D, 6) ∷ (0x79, 24) ∷ (0x2C, 2) ∷ (0x2D, 5) ∷ (0x79, 23) ∷ [])
    ≡ map Some (4 ∷ 6 ∷ 2 ∷ 3 ∷ 6 ∷ 24 ∷ []) ++ None ∷ None ∷ None ∷ []
known_early_sizes = refl

-- each attribute has two bytes, but for 04, which has a count and so many words and one
pub known_attributes : map (λ a. token_more Biff8 (0x19 ∷ a)) ((0x00 ∷ 9 ∷ 9 ∷ []) ∷ (0x40 ∷ 9 ∷ 9 ∷ []) ∷ (0xFF ∷ 9 ∷ 9 ∷ []) ∷ (0x10 ∷ 9 ∷ []) ∷ [] ∷ (0x04 ∷ 1 ∷ 0 ∷ 9 ∷ 9 ∷ 9 ∷ 9 ∷ []) ∷ (0x04 ∷ 1 ∷ 0 ∷ 9 ∷ 9 ∷ 9 ∷ []) ∷ [])
    ≡ Some 3 ∷ Some 3 ∷ Some 3 ∷ None ∷ None ∷ Some 7 ∷ None ∷ []
known_attributes = refl

abbrev cite : ℕ → Option ℕ → Cite
cite reference name = record { reference = reference; name = name }

-- the tokens that cite, in each class, and those beside them
pub known_cites : map (λ t. cite_at Biff8 t (2 ∷ 1 ∷ 4 ∷ 3 ∷ [])) (0x38 ∷ 0x39 ∷ 0x3A ∷ 0x3B ∷ 0x3C ∷ 0x3D ∷ 0x3E ∷ 0x59 ∷ 0x5A ∷ 0x5D ∷ 0x79 ∷ 0x7B ∷ 0x7C ∷ 0x19 ∷ 0x1A ∷ 0x99 ∷ 0x9A ∷ [])
    ≡ None ∷ Some (cite 0x0102 (Some 0x0304)) ∷ Some (cite 0x0102 None) ∷ Some (cite 0x0102 None) ∷ Some (cite 0x0102 None) ∷ Some (cite 0x0102 None) ∷ None
    ∷ Some (cite 0x0102 (Some 0x0304)) ∷ Some (cite 0x0102 None) ∷ Some (cite 0x0102 None) ∷ Some (cite 0x0102 (Some 0x0304)) ∷ Some (cite 0x0102 None) ∷ Some (cite 0x0102 None) ∷ None ∷ None ∷ None ∷ None ∷ []
known_cites = refl

-- from left to right, up to a token that isn't known, and up to one that is cut
abbrev place : ℕ → List ℕ
place reference = 0x5A ∷ reference ∷ 0 ∷ 4 ∷ 0 ∷ 0 ∷ 0 ∷ []

pub known_walks : map (cites_in Biff8) ((place 1 ++ place 2 ++ 0x03 ∷ place 3) ∷ (place 1 ++ 0x7E ∷ place 2) ∷ take 13 (place 1 ++ place 2) ∷ [])
    ≡ (cite 1 None ∷ cite 2 None ∷ cite 3 None ∷ []) ∷ (cite 1 None ∷ []) ∷ (cite 1 None ∷ []) ∷ []
known_walks = refl

-- ---- what is cited

abbrev jan : Book
jan = book links.Book (codes "B") (codes "J" ∷ codes "F" ∷ []) (Ok (codes "R") ∷ hurt_name 3 ∷ []) None

abbrev cites_of : List ℕ → List ℕ → Option Cited
cites_of sheet name = Some (record { book = codes "B"; sheet = sheet; name = name })

-- one sheet, two, one that isn't there first or last, or neither
pub known_sheets : map (λ (x : ℕ × ℕ). cited_through (jan ∷ []) (entry 0 x.0 x.1) None) ((1, 1) ∷ (0, 1) ∷ (2, 1) ∷ (0, 2) ∷ (2, 2) ∷ (0xFFFE, 0xFFFE) ∷ [])
    ≡ cites_of (codes "F") [] ∷ cites_of (codes "J:F") [] ∷ cites_of [] [] ∷ cites_of (codes "J") [] ∷ cites_of [] [] ∷ cites_of [] [] ∷ []
known_sheets = refl

-- a name by its number from 1, without a sheet; a damaged one, and those that aren't there
pub known_name_numbers : map (λ n. cited_through (jan ∷ []) (entry 0 1 1) (Some n)) (0 ∷ 1 ∷ 2 ∷ 3 ∷ []) ≡ cites_of [] [] ∷ cites_of [] (codes "R") ∷ cites_of [] [] ∷ cites_of [] [] ∷ []
known_name_numbers = refl

-- workbooks and programs alone are cited
pub known_outside : map (λ linked. cited_by (book linked (codes "B") [] [] None ∷ []) (entry 0 0 0 ∷ entry 1 0 0 ∷ []) (cite 0 None)) (links.Nothing ∷ links.Functions ∷ links.Book ∷ links.Program ∷ [])
    ≡ None ∷ None ∷ cites_of [] [] ∷ cites_of [] [] ∷ []
known_outside = refl

-- an entry that isn't there, and one of a SupBook that isn't
pub known_missing : map (λ n. cited_by (jan ∷ []) (entry 0 0 0 ∷ entry 1 0 0 ∷ []) (cite n None)) (0 ∷ 1 ∷ 2 ∷ []) ≡ cites_of (codes "J") [] ∷ None ∷ None ∷ []
known_missing = refl

-- before BIFF8 by a signed number from 1
pub known_early_numbers : map (λ n. cited_before (jan ∷ []) (cite n (Some 1))) (0 ∷ 1 ∷ 2 ∷ 0x7FFF ∷ 0x8000 ∷ 0xFFFF ∷ []) ≡ None ∷ cites_of (codes "J") [] ∷ None ∷ None ∷ None ∷ None ∷ []
known_early_numbers = refl

-- each once
pub known_distinct : distinct [] (cites_of (codes "J") [] ∷ None ∷ cites_of (codes "F") [] ∷ cites_of (codes "J") [] ∷ cites_of (codes "J") (codes "R") ∷ [])
    ≡ record { book = codes "B"; sheet = codes "J"; name = [] } ∷ record { book = codes "B"; sheet = codes "F"; name = [] } ∷ record { book = codes "B"; sheet = codes "J"; name = codes "R" } ∷ []
known_distinct = refl

-- the cell and the tokens; a count that passes the bytes; one byte fewer; another record
abbrev formula_body : ℕ → List ℕ
formula_body count = 2 ∷ 1 ∷ 4 ∷ 3 ∷ replicate 16 9 ++ le16 count ++ 0x1E ∷ 1 ∷ 0 ∷ 8 ∷ []

abbrev formula : List ℕ → Option Formula
formula tokens = Some (record { row = 0x0102; column = 0x0304; tokens = tokens })

pub known_formulas : map formula_at (at 0 6 (formula_body 3) ∷ at 0 6 (formula_body 0x0104) ∷ at 0 6 (take 22 (formula_body 3)) ∷ at 0 6 (take 21 (formula_body 3)) ∷ at 0 0x206 (formula_body 3) ∷ [])
    ≡ formula (0x1E ∷ 1 ∷ 0 ∷ []) ∷ formula (0x1E ∷ 1 ∷ 0 ∷ 8 ∷ []) ∷ formula [] ∷ None ∷ None ∷ []
known_formulas = refl
