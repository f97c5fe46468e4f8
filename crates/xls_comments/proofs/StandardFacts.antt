-- Known values, in the bytes of records, so that a wrong rule in the definitions does not check.
use Rattle.std.proofs.Common.{◌≡◌, ℕ, ◌+◌, List, [], ◌∷◌, ◌++◌, map, take, refl, Some, None}
use Rattle.std.specs.Prelude.{codes}
use Rattle.std.specs.Char.Utf16.{utf16_chars}
use Rattle.std.specs.Fmt.{digits}
use Rattle.xls_bytes.specs.Numbers.{le16}
use Rattle.xls_record.specs.declared.version.Biff.TheVariants.{Biff2, Biff3, Biff4, Biff5, Biff8}
use Rattle.xls_text.specs.declared.encoding.XlsEncoding.TheVariants.{Windows1252, Latin1}
use Rattle.xls_parts.specs.PartRecords.{Placed}
use Rattle.xls_comments.specs.declared.damage.DamagedRecord.TheVariants as names
use Rattle.xls_comments.specs.declared.damage.Flaw.{Flaw}
use Rattle.xls_comments.specs.declared.damage.Flaw.TheVariants as flaws
use Rattle.xls_comments.specs.declared.items.Visibility.{Visibility}
use Rattle.xls_comments.specs.declared.items.Visibility.TheVariants.{Visible, Hidden}
use Rattle.xls_comments.specs.declared.types.TheConstants as types
use Rattle.xls_comments.specs.Fields.{identifier_at, visibility_of}
use Rattle.xls_comments.specs.Units.{bytes_between, string_units, piece_units, text_units}
use Rattle.xls_comments.specs.Items.{Item, comment, damaged}
use Rattle.xls_comments.specs.Objects.{Found, NoObject, NoText, HasText, pieces, object_in}
use Rattle.xls_comments.specs.Biff8.{note_8}
use Rattle.xls_comments.specs.Biff5.{note_bytes}
use Rattle.xls_comments.specs.Comments.{comment_items}
use Rattle.xls_comments.specs.Texts.{visibility_text, record_text, flaw_text}

-- the numbers of the record types
pub known_types : types.NOTE ∷ types.OBJ ∷ types.TXO ∷ [] ≡ 0x1C ∷ 0x5D ∷ 0x1B6 ∷ []
known_types = refl

-- ---- fields

-- a mask for each bit of 16
abbrev masks : List ℕ
masks = 0x0001 ∷ 0x0002 ∷ 0x0004 ∷ 0x0008 ∷ 0x0010 ∷ 0x0020 ∷ 0x0040 ∷ 0x0080 ∷ 0x0100 ∷ 0x0200 ∷ 0x0400 ∷ 0x0800 ∷ 0x1000 ∷ 0x2000 ∷ 0x4000 ∷ 0x8000 ∷ []

-- of the bits of a Note 0002 alone says that the comment is always shown
pub known_visibility : map visibility_of masks
    ≡ Hidden ∷ Visible ∷ Hidden ∷ Hidden ∷ Hidden ∷ Hidden ∷ Hidden ∷ Hidden ∷ Hidden ∷ Hidden ∷ Hidden ∷ Hidden ∷ Hidden ∷ Hidden ∷ Hidden ∷ Hidden ∷ []
known_visibility = refl

pub known_visibilities : map visibility_of (0x0000 ∷ 0x0182 ∷ 0xFFFD ∷ []) ≡ Hidden ∷ Visible ∷ Hidden ∷ []
known_visibilities = refl

-- an identifier of two bytes at 6; the type at 4 isn't looked at
pub known_identifiers : map identifier_at ((0x15 ∷ 0 ∷ 0x12 ∷ 0 ∷ 0x19 ∷ 0 ∷ 7 ∷ 1 ∷ []) ∷ (0x15 ∷ 0 ∷ 9 ∷ 9 ∷ 2 ∷ 9 ∷ 8 ∷ 0 ∷ 9 ∷ []) ∷ (0x15 ∷ 0 ∷ 0x12 ∷ 0 ∷ 0x19 ∷ 0 ∷ 7 ∷ [])
    ∷ (0x15 ∷ 1 ∷ 0x12 ∷ 0 ∷ 0x19 ∷ 0 ∷ 7 ∷ 0 ∷ []) ∷ (0x14 ∷ 0 ∷ 0x12 ∷ 0 ∷ 0x19 ∷ 0 ∷ 7 ∷ 0 ∷ []) ∷ [] ∷ [])
    ≡ Some 0x107 ∷ Some 8 ∷ None ∷ None ∷ None ∷ None ∷ []
known_identifiers = refl

-- ---- units

-- of the bits of a string's flags 08 says two bytes more, and 04 four
pub known_between : map bytes_between (0x01 ∷ 0x02 ∷ 0x04 ∷ 0x08 ∷ 0x10 ∷ 0x20 ∷ 0x40 ∷ 0x80 ∷ 0x0C ∷ 0xF3 ∷ []) ≡ 0 ∷ 0 ∷ 4 ∷ 2 ∷ 0 ∷ 0 ∷ 0 ∷ 0 ∷ 6 ∷ 0 ∷ []
known_between = refl

-- a string of one byte each, of two bytes each, with each kind of bytes between, and with both
pub known_strings : map string_units ((2 ∷ 0 ∷ 0x00 ∷ 0x41 ∷ 0xE9 ∷ 0x42 ∷ []) ∷ (2 ∷ 0 ∷ 0x01 ∷ 0x41 ∷ 0x00 ∷ 0xE5 ∷ 0x65 ∷ 0x42 ∷ []) ∷ (1 ∷ 0 ∷ 0x08 ∷ 9 ∷ 9 ∷ 0x41 ∷ [])
    ∷ (1 ∷ 0 ∷ 0x05 ∷ 9 ∷ 9 ∷ 9 ∷ 9 ∷ 0x41 ∷ 0x42 ∷ []) ∷ (1 ∷ 0 ∷ 0x0C ∷ 9 ∷ 9 ∷ 9 ∷ 9 ∷ 9 ∷ 9 ∷ 0x41 ∷ []) ∷ [])
    ≡ (0x41 ∷ 0xE9 ∷ []) ∷ (0x41 ∷ 0x65E5 ∷ []) ∷ (0x41 ∷ []) ∷ (0x4241 ∷ []) ∷ (0x41 ∷ []) ∷ []
known_strings = refl

-- a count that passes the bytes, an odd last byte, and heads that aren't whole
pub known_cut_strings : map string_units ((4 ∷ 0 ∷ 0x00 ∷ 0x41 ∷ 0x42 ∷ []) ∷ (0 ∷ 1 ∷ 0x01 ∷ 0x41 ∷ 0x00 ∷ 0x42 ∷ []) ∷ (1 ∷ 0 ∷ 0x08 ∷ 9 ∷ []) ∷ (4 ∷ 0 ∷ 0x00 ∷ []) ∷ (4 ∷ 0 ∷ []) ∷ [] ∷ [])
    ≡ (0x41 ∷ 0x42 ∷ []) ∷ (0x41 ∷ []) ∷ [] ∷ [] ∷ [] ∷ [] ∷ []
known_cut_strings = refl

-- of the bits of a piece's flags 01 alone says that units have two bytes
pub known_pieces : map (λ flags. piece_units (flags ∷ 0x41 ∷ 0x42 ∷ [])) (0x01 ∷ 0x02 ∷ 0x04 ∷ 0x08 ∷ 0x10 ∷ 0x20 ∷ 0x40 ∷ 0x80 ∷ 0x00 ∷ 0xFE ∷ 0xFF ∷ [])
    ≡ (0x4241 ∷ []) ∷ (0x41 ∷ 0x42 ∷ []) ∷ (0x41 ∷ 0x42 ∷ []) ∷ (0x41 ∷ 0x42 ∷ []) ∷ (0x41 ∷ 0x42 ∷ []) ∷ (0x41 ∷ 0x42 ∷ []) ∷ (0x41 ∷ 0x42 ∷ []) ∷ (0x41 ∷ 0x42 ∷ [])
    ∷ (0x41 ∷ 0x42 ∷ []) ∷ (0x41 ∷ 0x42 ∷ []) ∷ (0x4241 ∷ []) ∷ []
known_pieces = refl

-- pieces of both widths are joined, an odd last byte of a wide one is passed over
pub known_text : text_units ((0 ∷ 0x61 ∷ 0x62 ∷ []) ∷ (1 ∷ 0xE9 ∷ 0x00 ∷ 0x3D ∷ 0xD8 ∷ 0x07 ∷ []) ∷ (0 ∷ []) ∷ (0 ∷ 0x7A ∷ []) ∷ []) ≡ 0x61 ∷ 0x62 ∷ 0xE9 ∷ 0xD83D ∷ 0x7A ∷ []
known_text = refl

-- ---- the texts of objects

abbrev rec : ℕ → ℕ → List ℕ → Placed
rec offset typ body = record { offset = offset; typ = typ; body = body }

-- pieces stand one directly behind the other: up to an empty one, a record between, a place that is left out
pub known_piece_places : pieces 20 (rec 20 0x3C (1 ∷ 2 ∷ []) ∷ rec 26 0x3C (3 ∷ []) ∷ rec 31 0x3C [] ∷ rec 35 0x3C (4 ∷ []) ∷ []) ∷ pieces 20 (rec 20 0x3C (1 ∷ []) ∷ rec 25 0xEC [] ∷ rec 29 0x3C (2 ∷ []) ∷ [])
    ∷ pieces 20 (rec 20 0x3C (1 ∷ []) ∷ rec 29 0x3C (2 ∷ []) ∷ []) ∷ pieces 20 (rec 24 0x3C (1 ∷ []) ∷ []) ∷ []
    ≡ ((1 ∷ 2 ∷ []) ∷ (3 ∷ []) ∷ []) ∷ ((1 ∷ []) ∷ []) ∷ ((1 ∷ []) ∷ []) ∷ [] ∷ []
known_piece_places = refl

-- an Obj of 8 bytes at a place; a TxO of 12 bytes with so many units, and one piece behind it
abbrev obj : ℕ → ℕ → Placed
obj offset id = rec offset 0x5D (0x15 ∷ 0 ∷ 0x12 ∷ 0 ∷ 0x19 ∷ 0 ∷ id ∷ 0 ∷ [])

abbrev txo_body : ℕ → List ℕ
txo_body count = 9 ∷ 9 ∷ 9 ∷ 9 ∷ 9 ∷ 9 ∷ 9 ∷ 9 ∷ 9 ∷ 9 ∷ count ∷ 0 ∷ []

abbrev text : ℕ → ℕ → List ℕ → List Placed
text offset count bytes = rec offset 0x1B6 (txo_body count) ∷ rec (offset + 16) 0x3C (0 ∷ bytes) ∷ []

abbrev has : ℕ → List ℕ → Found
has count bytes = HasText (txo_body count) ((0 ∷ bytes) ∷ [])

-- a text belongs to the Obj before it, over records of other types; the second behind one Obj to none
pub known_objects : map (object_in (rec 0 0xEC [] ∷ obj 4 7 ∷ rec 16 0xEC [] ∷ text 20 1 (0x61 ∷ []) ++ text 100 1 (0x62 ∷ []) ++ obj 200 8 ∷ obj 212 9 ∷ text 224 1 (0x63 ∷ []))) (7 ∷ 8 ∷ 9 ∷ 10 ∷ [])
    ≡ has 1 (0x61 ∷ []) ∷ NoText ∷ has 1 (0x63 ∷ []) ∷ NoObject ∷ []
known_objects = refl

-- of two Objs of one identifier the last counts, with its text or without one
pub known_last_object : object_in (obj 0 7 ∷ text 12 1 (0x61 ∷ []) ++ obj 100 7 ∷ text 112 1 (0x62 ∷ [])) 7 ∷ object_in (obj 0 7 ∷ text 12 1 (0x61 ∷ []) ++ obj 100 7 ∷ []) 7 ∷ []
    ≡ has 1 (0x62 ∷ []) ∷ NoText ∷ []
known_last_object = refl

-- an Obj without an identifier takes the next text away
pub known_taken_text : object_in (obj 0 7 ∷ rec 12 0x5D (0x15 ∷ 0 ∷ []) ∷ text 18 1 (0x61 ∷ [])) 7 ∷ object_in (text 0 1 (0x61 ∷ []) ++ obj 100 7 ∷ []) 7 ∷ [] ≡ NoText ∷ NoText ∷ []
known_taken_text = refl

-- ---- Notes of BIFF8

-- row 0102, column 0304, bits, identifier 0007, author
abbrev note : ℕ → List ℕ → List ℕ
note bits author = 0x02 ∷ 0x01 ∷ 0x04 ∷ 0x03 ∷ le16 bits ++ 0x07 ∷ 0x00 ∷ author

abbrev damage : Flaw → Item
damage flaw = damaged (record { record_name = names.Note; offset = 9; row = Some 0x0102; column = Some 0x0304; flaw = flaw })

abbrev no_cell : Flaw → Item
no_cell flaw = damaged (record { record_name = names.Note; offset = 9; row = None; column = None; flaw = flaw })

abbrev comment_of : Visibility → List ℕ → List ℕ → Item
comment_of visibility author text = comment (record { row = 0x0102; column = 0x0304; visibility = visibility; author = author; text = text })

-- a Note with what is known of all objects
abbrev with_found : Found → List ℕ → Item
with_found found body = note_8 (λ id. found) (rec 9 0x1C body)

pub known_notes : with_found (has 2 (0x61 ∷ 0x62 ∷ 0x63 ∷ [])) (note 2 (1 ∷ 0 ∷ 0 ∷ 0x41 ∷ [])) ∷ with_found (has 0 (0x61 ∷ [])) (note 0x180 []) ∷ []
    ≡ comment_of Visible (0x41 ∷ []) (0x61 ∷ 0x62 ∷ []) ∷ comment_of Hidden [] [] ∷ []
unfolding utf16_chars
known_notes = refl

-- pairs of surrogates are joined over pieces, and one alone is U+FFFD
pub known_pairs : with_found (HasText (txo_body 4) ((1 ∷ 0x3D ∷ 0xD8 ∷ []) ∷ (1 ∷ 0x00 ∷ 0xDE ∷ 0x3D ∷ 0xD8 ∷ []) ∷ (0 ∷ 0x7A ∷ []) ∷ [])) (note 0 (1 ∷ 0 ∷ 1 ∷ 0x00 ∷ 0xDC ∷ []))
    ≡ comment_of Hidden (0xFFFD ∷ []) (0x1F600 ∷ 0xFFFD ∷ 0x7A ∷ [])
unfolding utf16_chars
known_pairs = refl

-- each damage, in the order in which they are looked for
pub known_short_notes : map (with_found NoObject) (take 7 (note 0 []) ∷ take 4 (note 0 []) ∷ take 3 (note 0 []) ∷ [] ∷ []) ≡ damage (flaws.Short 8 7) ∷ damage (flaws.Short 8 4) ∷ no_cell (flaws.Short 8 3) ∷ no_cell (flaws.Short 8 0) ∷ []
known_short_notes = refl

pub known_damages : map (λ found. with_found found (note 0 [])) (NoObject ∷ NoText ∷ HasText (take 11 (txo_body 1)) ((0 ∷ 0x61 ∷ []) ∷ []) ∷ HasText (txo_body 3) ((0 ∷ 0x61 ∷ []) ∷ (1 ∷ 0x62 ∷ 0x00 ∷ []) ∷ []) ∷ HasText (txo_body 1) [] ∷ [])
    ≡ map damage (flaws.NoObject 7 ∷ flaws.NoText 7 ∷ flaws.ShortText 11 ∷ flaws.UnitsEnd 2 3 ∷ flaws.UnitsEnd 0 1 ∷ [])
known_damages = refl

-- Notes in their order, with objects behind them; records of other types have no line
pub known_items : comment_items Biff8 Windows1252 (rec 9 0x1C (note 2 []) ∷ rec 0 0x1D (note 2 []) ∷ rec 9 0x1C (take 3 (note 0 [])) ∷ obj 100 7 ∷ text 112 1 (0x61 ∷ []))
    ≡ comment_of Visible [] (0x61 ∷ []) ∷ no_cell (flaws.Short 8 3) ∷ []
unfolding utf16_chars
known_items = refl

-- ---- Notes before BIFF8

pub known_note_bytes : map note_bytes ((9 ∷ 9 ∷ 9 ∷ 9 ∷ 2 ∷ 0 ∷ 0x61 ∷ 0x62 ∷ 0x63 ∷ []) ∷ (9 ∷ 9 ∷ 9 ∷ 9 ∷ 0 ∷ 1 ∷ 0x61 ∷ []) ∷ []) ≡ (0x61 ∷ 0x62 ∷ []) ∷ (0x61 ∷ []) ∷ []
known_note_bytes = refl

-- the first Note of a text of so many bytes; a further one that has so many
abbrev first : ℕ → List ℕ → Placed
first count bytes = rec 9 0x1C (0x02 ∷ 0x01 ∷ 0x04 ∷ 0x03 ∷ le16 count ++ bytes)

abbrev more : ℕ → ℕ → List ℕ → Placed
more offset count bytes = rec offset 0x1C (0xFF ∷ 0xFF ∷ 0x00 ∷ 0x00 ∷ le16 count ++ bytes)

-- a text in one Note, in three of which one says less than it has and one more, and one that ends in the second
pub known_joined : map (comment_items Biff5 Windows1252) ((first 2 (0x61 ∷ 0x80 ∷ 0x63 ∷ []) ∷ []) ∷ (first 5 (0x61 ∷ []) ∷ more 20 1 (0x62 ∷ 0x7A ∷ []) ∷ more 32 9 (0x63 ∷ 0x64 ∷ []) ∷ more 44 9 (0x65 ∷ 0x66 ∷ []) ∷ [])
    ∷ (first 2 (0x61 ∷ []) ∷ more 20 2 (0x62 ∷ 0x63 ∷ []) ∷ []) ∷ (first 0 [] ∷ []) ∷ [])
    ≡ (comment_of Hidden [] (0x61 ∷ 0x20AC ∷ []) ∷ []) ∷ (comment_of Hidden [] (0x61 ∷ 0x62 ∷ 0x63 ∷ 0x64 ∷ 0x65 ∷ []) ∷ []) ∷ (comment_of Hidden [] (0x61 ∷ 0x62 ∷ []) ∷ []) ∷ (comment_of Hidden [] [] ∷ []) ∷ []
known_joined = refl

-- a text that lacks bytes: no Note behind it, a record or a place between, one whose row isn't FFFF, one that is too short
abbrev lone : ℕ → Item
lone offset = damaged (record { record_name = names.Note; offset = offset; row = None; column = None; flaw = flaws.ContinuesNothing })

pub known_lone : map (comment_items Biff5 Latin1) ((first 3 (0x61 ∷ []) ∷ []) ∷ (first 3 (0x61 ∷ []) ∷ rec 20 0x1D [] ∷ more 24 2 (0x62 ∷ 0x63 ∷ []) ∷ []) ∷ (first 3 (0x61 ∷ []) ∷ more 24 2 (0x62 ∷ 0x63 ∷ []) ∷ [])
    ∷ (first 1 (0x61 ∷ []) ∷ more 20 1 (0x62 ∷ []) ∷ []) ∷ (more 9 0 [] ∷ []) ∷ [])
    ≡ (damage (flaws.BytesEnd 1 3) ∷ []) ∷ (damage (flaws.BytesEnd 1 3) ∷ lone 24 ∷ []) ∷ (damage (flaws.BytesEnd 1 3) ∷ lone 24 ∷ []) ∷ (comment_of Hidden [] (0x61 ∷ []) ∷ lone 20 ∷ []) ∷ (lone 9 ∷ []) ∷ []
known_lone = refl

-- one of five bytes ends a text, and has its cell where four are there
pub known_short : comment_items Biff5 Latin1 (first 3 (0x61 ∷ []) ∷ rec 20 0x1C (0xFF ∷ 0xFF ∷ 0 ∷ 0 ∷ 1 ∷ []) ∷ more 29 1 (0x62 ∷ []) ∷ rec 9 0x1C (1 ∷ []) ∷ [])
    ≡ damage (flaws.BytesEnd 1 3) ∷ damaged (record { record_name = names.Note; offset = 20; row = Some 0xFFFF; column = Some 0; flaw = flaws.Short 6 5 }) ∷ lone 29 ∷ no_cell (flaws.Short 6 1) ∷ []
known_short = refl

-- all versions before BIFF8 are read so
pub known_versions : map (λ version. comment_items version Latin1 (first 1 (0x61 ∷ []) ∷ [])) (Biff2 ∷ Biff3 ∷ Biff4 ∷ Biff5 ∷ Biff8 ∷ [])
    ≡ (comment_of Hidden [] (0x61 ∷ []) ∷ []) ∷ (comment_of Hidden [] (0x61 ∷ []) ∷ []) ∷ (comment_of Hidden [] (0x61 ∷ []) ∷ []) ∷ (comment_of Hidden [] (0x61 ∷ []) ∷ []) ∷ (damage (flaws.Short 8 7) ∷ []) ∷ []
known_versions = refl

-- ---- words and sentences

pub known_words : visibility_text Visible ∷ visibility_text Hidden ∷ record_text names.Note ∷ [] ≡ codes "visible" ∷ codes "hidden" ∷ codes "Note" ∷ []
known_words = refl

pub known_sentences : map flaw_text (flaws.Short 8 7 ∷ flaws.NoObject 12 ∷ flaws.NoText 7 ∷ flaws.ShortText 11 ∷ flaws.UnitsEnd 2 40 ∷ flaws.BytesEnd 6 9 ∷ flaws.ContinuesNothing ∷ [])
    ≡ codes "shorter than 8 bytes: 7" ∷ codes "no object has its identifier, 12" ∷ codes "its object, 7, has no text" ∷ codes "the record of its text is shorter than 12 bytes: 11"
    ∷ codes "its text ends after 2 of 40 units" ∷ codes "its text ends after 6 of 9 bytes" ∷ codes "it continues no comment" ∷ []
unfolding digits
known_sentences = refl
