-- Known values, in the bytes of records, so that a wrong rule in the definitions does not check.
use Rattle.std.proofs.Common.{◌≡◌, ℕ, List, [], ◌∷◌, ◌++◌, map, replicate, take, length, refl, true, false, Option, Some, None, Result, Ok, Err}
use Rattle.std.specs.Prelude.{codes}
use Rattle.std.specs.Char.Utf16.{utf16_chars}
use Rattle.std.specs.Fmt.{digits}
use Rattle.xls_bytes.specs.Numbers.{le16}
use Rattle.xls_record.specs.declared.version.Biff.TheVariants.{Biff2, Biff3, Biff4, Biff5, Biff8}
use Rattle.xls_text.specs.declared.encoding.XlsEncoding.TheVariants.{Utf16, Windows1252}
use Rattle.xls_parts.specs.PartRecords.{Placed}
use Rattle.xls_links.specs.declared.damage.DamagedRecord.TheVariants as names
use Rattle.xls_links.specs.declared.damage.Flaw.{Flaw}
use Rattle.xls_links.specs.declared.damage.Flaw.TheVariants.{EndsIn, UnknownKind}
use Rattle.xls_links.specs.declared.damage.Part.TheVariants as parts
use Rattle.xls_links.specs.declared.items.LinkKind.{LinkKind}
use Rattle.xls_links.specs.declared.items.LinkKind.TheVariants.{Url, File, Unc, Place}
use Rattle.xls_links.specs.declared.types.TheConstants as types
use Rattle.xls_links.specs.Splitting.{split_counted, split_units}
use Rattle.xls_links.specs.Strings.{units_text, bytes_text, above, is_unc}
use Rattle.xls_links.specs.Monikers.{Target, moniker_at, joined_at, joined_kind, kind_or_file}
use Rattle.xls_links.specs.Items.{Item, link, damaged}
use Rattle.xls_links.specs.Links.{Parts, parts_at, link_items}
use Rattle.xls_links.specs.Texts.{kind_text, record_text, flaw_text, sixteen_digits}

-- the numbers of the record types
pub known_types : types.H_LINK ∷ types.H_LINK_TOOLTIP ∷ [] ≡ 0x1B8 ∷ 0x800 ∷ []
known_types = refl

-- ---- parts

abbrev ends : Flaw
ends = EndsIn parts.Target

-- counts of 32 bits, of bytes and of units of two bytes; one that passes what is left
pub known_counted : map (split_counted ends) ((2 ∷ 0 ∷ 0 ∷ 0 ∷ 7 ∷ 8 ∷ 9 ∷ []) ∷ (0 ∷ 0 ∷ 0 ∷ 0 ∷ 7 ∷ []) ∷ (2 ∷ 0 ∷ 0 ∷ 1 ∷ 7 ∷ 8 ∷ []) ∷ (3 ∷ 0 ∷ 0 ∷ 0 ∷ 7 ∷ 8 ∷ []) ∷ (0 ∷ 0 ∷ 0 ∷ []) ∷ [])
    ≡ Ok (7 ∷ 8 ∷ [], 9 ∷ []) ∷ Ok ([], 7 ∷ []) ∷ Err ends ∷ Err ends ∷ Err ends ∷ []
known_counted = refl

pub known_units : map (split_units ends) ((1 ∷ 0 ∷ 0 ∷ 0 ∷ 7 ∷ 8 ∷ 9 ∷ []) ∷ (2 ∷ 0 ∷ 0 ∷ 0 ∷ 7 ∷ 8 ∷ 9 ∷ []) ∷ (0 ∷ 0 ∷ 0 ∷ 0x80 ∷ []) ∷ []) ≡ Ok (7 ∷ 8 ∷ [], 9 ∷ []) ∷ Err ends ∷ Err ends ∷ []
known_units = refl

-- units up to the first NUL, without an odd last byte; a pair, and a surrogate alone
pub known_units_text : map units_text ((0x61 ∷ 0 ∷ 0xE9 ∷ 0 ∷ 0 ∷ 0 ∷ 0x62 ∷ 0 ∷ []) ∷ (0x61 ∷ 0 ∷ 0x62 ∷ []) ∷ (0x3D ∷ 0xD8 ∷ 0x00 ∷ 0xDE ∷ 0x3D ∷ 0xD8 ∷ []) ∷ [] ∷ [])
    ≡ (0x61 ∷ 0xE9 ∷ []) ∷ (0x61 ∷ []) ∷ (0x1F600 ∷ 0xFFFD ∷ []) ∷ [] ∷ []
unfolding utf16_chars
known_units_text = refl

-- bytes up to the first NUL: under page 1200 each is its own character
pub known_bytes_text : bytes_text Utf16 (0x61 ∷ 0x80 ∷ 0 ∷ 0x62 ∷ []) ∷ bytes_text Windows1252 (0x61 ∷ 0x80 ∷ 0 ∷ 0x62 ∷ []) ∷ [] ≡ (0x61 ∷ 0x80 ∷ []) ∷ (0x61 ∷ 0x20AC ∷ []) ∷ []
known_bytes_text = refl

pub known_above : map above (0 ∷ 1 ∷ 2 ∷ []) ≡ [] ∷ codes "..\\" ∷ codes "..\\..\\" ∷ []
known_above = refl

pub known_most_above : map (λ n. length (above n)) (255 ∷ 256 ∷ 257 ∷ 0xFFFFFFFF ∷ []) ≡ 765 ∷ 768 ∷ 768 ∷ 768 ∷ []
known_most_above = refl

pub known_unc : map is_unc (codes "\\\\s" ∷ codes "\\\\" ∷ codes "\\s" ∷ codes "\\" ∷ codes "s\\\\" ∷ [] ∷ []) ≡ true ∷ true ∷ false ∷ false ∷ false ∷ false ∷ []
known_unc = refl

-- ---- monikers

abbrev url_id : List ℕ
url_id = 0xE0 ∷ 0xC9 ∷ 0xEA ∷ 0x79 ∷ 0xF9 ∷ 0xBA ∷ 0xCE ∷ 0x11 ∷ 0x8C ∷ 0x82 ∷ 0x00 ∷ 0xAA ∷ 0x00 ∷ 0x4B ∷ 0xA9 ∷ 0x0B ∷ []

-- the four others differ in their first byte
abbrev other_id : ℕ → List ℕ
other_id first = first ∷ 0x03 ∷ 0x00 ∷ 0x00 ∷ 0x00 ∷ 0x00 ∷ 0x00 ∷ 0x00 ∷ 0xC0 ∷ 0x00 ∷ 0x00 ∷ 0x00 ∷ 0x00 ∷ 0x00 ∷ 0x00 ∷ 0x46 ∷ []

abbrev target : LinkKind → List ℕ → List ℕ → Result (Target × List ℕ) Flaw
target kind text rest = Ok (record { kind = kind; text = text }, rest)

-- a URL up to its NUL, with bytes behind it, and one whose count passes what is left
pub known_url : moniker_at Utf16 (url_id ++ 6 ∷ 0 ∷ 0 ∷ 0 ∷ 0x75 ∷ 0 ∷ 0 ∷ 0 ∷ 9 ∷ 9 ∷ 7 ∷ []) ∷ moniker_at Utf16 (url_id ++ 6 ∷ 0 ∷ 0 ∷ 0 ∷ 0x75 ∷ 0 ∷ []) ∷ [] ≡ target Url (codes "u") (7 ∷ []) ∷ Err ends ∷ []
unfolding utf16_chars
known_url = refl

-- so many above, a path in bytes, 24 bytes, and what follows them
abbrev file : ℕ → List ℕ → List ℕ → List ℕ
file up path more = other_id 0x03 ++ le16 up ++ length path ∷ 0 ∷ 0 ∷ 0 ∷ path ++ replicate 24 9 ++ more

pub known_files : moniker_at Utf16 (file 0 (0x61 ∷ 0 ∷ 0x62 ∷ []) (0 ∷ 0 ∷ 0 ∷ 0 ∷ 7 ∷ [])) ∷ moniker_at Utf16 (file 1 (0x61 ∷ []) (0 ∷ 0 ∷ 0 ∷ 0 ∷ [])) ∷ moniker_at Utf16 (file 0 (0x5C ∷ 0x5C ∷ 0x73 ∷ []) (0 ∷ 0 ∷ 0 ∷ 0 ∷ [])) ∷ []
    ≡ target File (codes "a") (7 ∷ []) ∷ target File (codes "..\\a") [] ∷ target Unc (codes "\\\\s") [] ∷ []
known_files = refl

-- the path in units counts instead: its count is of bytes, and may pass what is there
pub known_long : moniker_at Utf16 (file 0 (0x61 ∷ []) (8 ∷ 0 ∷ 0 ∷ 0 ∷ 2 ∷ 0 ∷ 0 ∷ 0 ∷ 3 ∷ 0 ∷ 0xE5 ∷ 0x65 ∷ 7 ∷ [])) ∷ moniker_at Utf16 (file 1 (0x61 ∷ []) (8 ∷ 0 ∷ 0 ∷ 0 ∷ 9 ∷ 0 ∷ 0 ∷ 0 ∷ 3 ∷ 0 ∷ 0x62 ∷ 0 ∷ [])) ∷ []
    ≡ target File (0x65E5 ∷ []) (7 ∷ []) ∷ target File (codes "..\\b") [] ∷ []
unfolding utf16_chars
known_long = refl

-- a file that ends in its 24 bytes, in the number behind them, and whose longer path has fewer than six bytes
pub known_cut_files : map (moniker_at Utf16) (take 45 (file 0 (0x61 ∷ []) []) ∷ file 0 (0x61 ∷ []) (0 ∷ 0 ∷ 0 ∷ []) ∷ file 0 (0x61 ∷ []) (5 ∷ 0 ∷ 0 ∷ 0 ∷ 1 ∷ 0 ∷ 0 ∷ 0 ∷ 3 ∷ []) ∷ file 0 (0x61 ∷ []) (9 ∷ 0 ∷ 0 ∷ 0 ∷ 1 ∷ []) ∷ [])
    ≡ Err ends ∷ Err ends ∷ Err ends ∷ Err ends ∷ []
known_cut_files = refl

pub known_anti : moniker_at Utf16 (other_id 0x05 ++ 2 ∷ 0 ∷ 0 ∷ 0 ∷ 7 ∷ []) ≡ target File (codes "..\\..\\") (7 ∷ [])
known_anti = refl

pub known_item : moniker_at Utf16 (other_id 0x04 ++ 2 ∷ 0 ∷ 0 ∷ 0 ∷ 0x21 ∷ 0 ∷ 1 ∷ 0 ∷ 0 ∷ 0 ∷ 0x61 ∷ 7 ∷ []) ≡ target File (codes "!a") (7 ∷ [])
known_item = refl

-- monikers that are joined: two above and a path; none; and where one of the number isn't there
pub known_joined : moniker_at Utf16 (other_id 0x09 ++ 2 ∷ 0 ∷ 0 ∷ 0 ∷ other_id 0x05 ++ 1 ∷ 0 ∷ 0 ∷ 0 ∷ file 0 (0x61 ∷ []) (0 ∷ 0 ∷ 0 ∷ 0 ∷ 7 ∷ [])) ∷ moniker_at Utf16 (other_id 0x09 ++ 0 ∷ 0 ∷ 0 ∷ 0 ∷ 7 ∷ [])
    ∷ moniker_at Utf16 (other_id 0x09 ++ 2 ∷ 0 ∷ 0 ∷ 0 ∷ other_id 0x05 ++ 1 ∷ 0 ∷ 0 ∷ 0 ∷ []) ∷ []
    ≡ target File (codes "..\\a") (7 ∷ []) ∷ target File [] (7 ∷ []) ∷ Err ends ∷ []
unfolding joined_at
known_joined = refl

-- the kind is that of a URL wherever it stands, and else of the first
pub known_kinds : joined_kind None Unc ∷ joined_kind (Some File) Unc ∷ joined_kind (Some Unc) File ∷ joined_kind (Some File) Url ∷ joined_kind (Some Url) File ∷ kind_or_file None ∷ kind_or_file (Some Unc) ∷ []
    ≡ Unc ∷ File ∷ Unc ∷ Url ∷ Url ∷ File ∷ Unc ∷ []
known_kinds = refl

-- other kinds: one that is joined inside another, one byte that differs, and fewer than 16 bytes
pub known_unknown : moniker_at Utf16 (other_id 0x09 ++ 1 ∷ 0 ∷ 0 ∷ 0 ∷ other_id 0x09 ++ 0 ∷ 0 ∷ 0 ∷ 0 ∷ []) ∷ moniker_at Utf16 (other_id 0x06) ∷ moniker_at Utf16 (take 15 (other_id 0x05)) ∷ []
    ≡ Err (UnknownKind 0x0903000000000000 0xC000000000000046) ∷ Err (UnknownKind 0x0603000000000000 0xC000000000000046) ∷ Err ends ∷ []
unfolding joined_at
known_unknown = refl

-- ---- flags

-- a mask for each bit of 16
abbrev masks : List ℕ
masks = 0x0001 ∷ 0x0002 ∷ 0x0004 ∷ 0x0008 ∷ 0x0010 ∷ 0x0020 ∷ 0x0040 ∷ 0x0080 ∷ 0x0100 ∷ 0x0200 ∷ 0x0400 ∷ 0x0800 ∷ 0x1000 ∷ 0x2000 ∷ 0x4000 ∷ 0x8000 ∷ []

abbrev said : List ℕ → LinkKind → List ℕ → List ℕ → Result Parts Flaw
said shown kind text place = Ok (record { shown = shown; target = record { kind = kind; text = text }; place = place })

-- which part each flag alone reads from no bytes
pub known_flags : map (λ flags. parts_at Utf16 flags []) masks
    ≡ Err (EndsIn parts.Target) ∷ said [] Place [] [] ∷ said [] Place [] [] ∷ Err (EndsIn parts.Place) ∷ Err (EndsIn parts.Shown) ∷ said [] Place [] [] ∷ said [] Place [] [] ∷ Err (EndsIn parts.Frame)
    ∷ said [] Place [] [] ∷ said [] Place [] [] ∷ said [] Place [] [] ∷ said [] Place [] [] ∷ said [] Place [] [] ∷ said [] Place [] [] ∷ said [] Place [] [] ∷ said [] Place [] [] ∷ []
known_flags = refl

-- a string of one unit
abbrev string : ℕ → List ℕ
string unit = 1 ∷ 0 ∷ 0 ∷ 0 ∷ unit ∷ 0 ∷ []

-- shown text, frame, target and place in this order; the target as a string, and as a moniker
pub known_order : parts_at Utf16 0x199 (string 0x73 ++ string 0x66 ++ string 0x74 ++ string 0x70) ∷ parts_at Utf16 0x09 (url_id ++ 2 ∷ 0 ∷ 0 ∷ 0 ∷ 0x75 ∷ 0 ∷ string 0x70) ∷ []
    ≡ said (codes "s") File (codes "t") (codes "p") ∷ said [] Url (codes "u") (codes "p") ∷ []
unfolding utf16_chars
known_order = refl

-- the first part that isn't there whole
pub known_ends : map (λ n. parts_at Utf16 0x199 (take n (string 0x73 ++ string 0x66 ++ string 0x74 ++ string 0x70))) (5 ∷ 6 ∷ 11 ∷ 12 ∷ 17 ∷ 18 ∷ 23 ∷ [])
    ≡ Err (EndsIn parts.Shown) ∷ Err (EndsIn parts.Frame) ∷ Err (EndsIn parts.Frame) ∷ Err (EndsIn parts.Target) ∷ Err (EndsIn parts.Target) ∷ Err (EndsIn parts.Place) ∷ Err (EndsIn parts.Place) ∷ []
known_ends = refl

-- ---- records

abbrev rec : ℕ → ℕ → List ℕ → Placed
rec offset typ body = record { offset = offset; typ = typ; body = body }

-- rows 0102 to 0304, columns 0506 to 0708, 20 bytes, flags that say a place
abbrev body : List ℕ
body = 0x02 ∷ 0x01 ∷ 0x04 ∷ 0x03 ∷ 0x06 ∷ 0x05 ∷ 0x08 ∷ 0x07 ∷ replicate 20 9 ++ 0x08 ∷ 0 ∷ 0 ∷ 0 ∷ string 0x70

abbrev place_with : List ℕ → Item
place_with tip = link (record { first_row = 0x0102; last_row = 0x0304; first_column = 0x0506; last_column = 0x0708; kind = Place; target = []; place = codes "p"; shown = []; tip = tip })

abbrev damage : Option ℕ → Option ℕ → Flaw → Item
damage row column flaw = damaged (record { record_name = names.HLink; offset = 9; row = row; column = column; flaw = flaw })

-- the tip of the record directly behind, up to its NUL: not behind another record, and not at another place
pub known_tips : map (link_items Biff8 Utf16)
    ((rec 9 0x1B8 body ∷ rec 51 0x800 (replicate 10 9 ++ 0x74 ∷ 0 ∷ 0 ∷ 0 ∷ 0x75 ∷ 0 ∷ []) ∷ []) ∷ (rec 9 0x1B8 body ∷ rec 51 0x1D [] ∷ rec 55 0x800 (replicate 10 9 ++ 0x74 ∷ 0 ∷ []) ∷ [])
    ∷ (rec 9 0x1B8 body ∷ rec 55 0x800 (replicate 10 9 ++ 0x74 ∷ 0 ∷ []) ∷ []) ∷ (rec 9 0x1B8 body ∷ rec 51 0x800 (replicate 9 9) ∷ []) ∷ (rec 9 0x1B8 body ∷ []) ∷ (rec 0 0x800 (replicate 10 9 ++ 0x74 ∷ 0 ∷ []) ∷ []) ∷ [])
    ≡ (place_with (codes "t") ∷ []) ∷ (place_with [] ∷ []) ∷ (place_with [] ∷ []) ∷ (place_with [] ∷ []) ∷ (place_with [] ∷ []) ∷ [] ∷ []
unfolding utf16_chars
known_tips = refl

-- one that ends in its head, with its cell where the bytes of all cells are there; and one that ends in its place
pub known_damages : link_items Biff8 Utf16 (rec 9 0x1B8 (take 7 body) ∷ rec 9 0x1B8 (take 8 body) ∷ rec 9 0x1B8 (take 31 body) ∷ rec 9 0x1B8 (take 32 body) ∷ [])
    ≡ damage None None (EndsIn parts.Head) ∷ damage (Some 0x0102) (Some 0x0506) (EndsIn parts.Head) ∷ damage (Some 0x0102) (Some 0x0506) (EndsIn parts.Head) ∷ damage (Some 0x0102) (Some 0x0506) (EndsIn parts.Place) ∷ []
known_damages = refl

-- before BIFF8 there are none
pub known_versions : map (λ version. length (link_items version Utf16 (rec 9 0x1B8 [] ∷ []))) (Biff2 ∷ Biff3 ∷ Biff4 ∷ Biff5 ∷ Biff8 ∷ []) ≡ 0 ∷ 0 ∷ 0 ∷ 0 ∷ 1 ∷ []
known_versions = refl

-- ---- words and sentences

pub known_words : map kind_text (Url ∷ File ∷ Unc ∷ Place ∷ []) ++ record_text names.HLink ∷ [] ≡ codes "url" ∷ codes "file" ∷ codes "unc" ∷ codes "place" ∷ codes "HLink" ∷ []
known_words = refl

pub known_sentences : map flaw_text (EndsIn parts.Head ∷ EndsIn parts.Shown ∷ EndsIn parts.Frame ∷ EndsIn parts.Target ∷ EndsIn parts.Place ∷ UnknownKind 0x0001020304050607 0x08090A0B0C0D0E0F ∷ [])
    ≡ codes "it ends in its head" ∷ codes "it ends in its shown text" ∷ codes "it ends in its frame" ∷ codes "it ends in its target" ∷ codes "it ends in its place"
    ∷ codes "its target is of a kind that is not known: 000102030405060708090a0b0c0d0e0f" ∷ []
unfolding digits sixteen_digits
known_sentences = refl
