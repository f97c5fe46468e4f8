-- Values that [MS-OLEPS] and the calendar give, so that a wrong rule in the specs does not check.
use Rattle.std.proofs.Common.{◌≡◌, ℕ, List, [], ◌∷◌, ◌++◌, map, Option, Some, None, String, string_bytes, pos, negsuc, ◌+ℤ◌, ◌/◌, ◌%◌, refl, ap}
use Rattle.std.specs.Prelude.{codes, replicate, is_some}
use Rattle.std.specs.List.{concat, filter, range_with_len}
use Rattle.std.specs.Option.{option_map}
use Rattle.std.specs.BTreeMap.{get_by_text}
use Rattle.std.specs.Fmt.{digits}
use Rattle.std.specs.Char.Utf16.{utf16_chars}
use Rattle.xls_bytes.specs.Doubles.{size_of_parts}
use Rattle.xls_text.specs.declared.encoding.XlsEncoding.TheVariants.{Utf8, Utf16, Windows1252}
use Rattle.xls_props.specs.declared.properties.WorkbookProperties.{WorkbookProperties}
use Rattle.xls_props.specs.Bytes.{u16_at, i32_at}
use Rattle.xls_props.specs.Entries.{entries_of, first_of, last_of}
use Rattle.xls_props.specs.Values.{without_nuls, page_in, version_text, moment_of, Plain, Moment, Shows, value_at, value_of_type, field, app_version}
use Rattle.xls_props.specs.Names.{names_at}
use Rattle.xls_props.specs.Custom.{customs_of, last_named}
use Rattle.jiff_core.specs.Calendar.{days_from_civil, day_count, days_of_years, days_of_months}
use Rattle.xls_dates.specs.SerialDays.{day_number}
use Rattle.xls_props.specs.Moments.{IsMoment, clock_text, past_last_day}
use Rattle.jiff.specs.Words.{epoch_day, date_text}
use Rattle.xls_props.specs.Sections.{section_of, sized_at, summary_id, document_id, custom_id, section_names}
use Rattle.xls_props.specs.Properties.{IsSummary, IsDocument, IsProperties}

-- numbers at a place, and past the end
low_first : u16_at (0xFE ∷ 0xFF ∷ []) 0 ≡ Some 0xFFFE
low_first = refl

cut_short : u16_at (0xFE ∷ 0xFF ∷ []) 1 ≡ None
cut_short = refl

minus_four : i32_at (0xFC ∷ 0xFF ∷ 0xFF ∷ 0xFF ∷ []) 0 ≡ Some (negsuc 3)
minus_four = refl

-- NULs go at the end alone
nuls : without_nuls (0 ∷ 65 ∷ 0 ∷ 0 ∷ []) ≡ 0 ∷ 65 ∷ []
nuls = refl

no_text : without_nuls (0 ∷ []) ≡ []
no_text = refl

-- two entries and a cut one
entries : entries_of (0 ∷ 0 ∷ 0 ∷ 0 ∷ 3 ∷ 0 ∷ 0 ∷ 0 ∷ 2 ∷ 0 ∷ 0 ∷ 0 ∷ 9 ∷ 0 ∷ 0 ∷ 0
    ∷ 2 ∷ 0 ∷ 0 ∷ 0 ∷ 8 ∷ 1 ∷ 0 ∷ 0 ∷ 5 ∷ 0 ∷ []) ≡ (2, 9) ∷ (2, 264) ∷ []
entries = refl

first : first_of 2 ((2, 9) ∷ (2, 264) ∷ []) ≡ Some 9
first = refl

last : last_of {A = ℕ} 2 ((2, 9) ∷ (2, 264) ∷ []) ≡ Some 264
last = refl

-- without an entry 1 the page is 1200, and 932 is read as UTF-8
no_page : page_in [] [] ≡ Utf16
no_page = refl

shift_jis : page_in ((1, 0) ∷ []) (2 ∷ 0 ∷ 0 ∷ 0 ∷ 0xA4 ∷ 3 ∷ []) ≡ Utf8
shift_jis = refl

western : page_in ((1, 0) ∷ []) (2 ∷ 0 ∷ 0 ∷ 0 ∷ 0xE4 ∷ 4 ∷ []) ≡ Windows1252
western = refl

-- versions of applications: the low half has at least four digits
versions : map version_text (0xC0000 ∷ 0xC0005 ∷ 0xC000C ∷ 0xC012C ∷ 0xC04D2 ∷ 0xC3039 ∷ 0xFFFF_FFFF ∷ [])
    ≡ codes "12.0000" ∷ codes "12.0005" ∷ codes "12.0012" ∷ codes "12.0300" ∷ codes "12.1234" ∷ codes "12.12345" ∷ codes "65535.65535" ∷ []
unfolding digits
versions = refl

-- half past eight, and the last second of a day
clocks : map clock_text (30_600 ∷ 86_399 ∷ []) ≡ codes "08:30:00" ∷ codes "23:59:59" ∷ []
unfolding digits
clocks = refl

-- half past eight on the second day after 1601-01-01
moment : (text : List ℕ) (is : IsMoment 2_034_000_000_000 text)
    → (epoch_day is.date ≡ day_number 1601 1 1 +ℤ pos 2) × (text ≡ date_text is.date ++ codes "T08:30:00Z")
unfolding digits
moment text is = (is.counted, is.displayed)

-- the last moment that has a text, and the first that has none
last_moment : moment_of 2_650_467_743_999_999_999 ≡ Some (Moment 2_650_467_743_999_999_999)
last_moment = refl

past : moment_of 2_650_467_744_000_000_000 ≡ None
past = refl

-- it is that of the day after 9999-12-31, in units of 100 nanoseconds from 1601-01-01
last_day : (day_number 9999 12 31 +ℤ pos 1 ≡ day_number 1601 1 1 +ℤ pos (past_last_day / 864_000_000_000))
    × (past_last_day % 864_000_000_000 ≡ 0)
unfolding days_from_civil day_count days_of_years days_of_months
last_day = (refl, refl)

never : moment_of 0 ≡ None
never = refl

-- a stream of another mark has no section
other_mark : section_of custom_id (0xFF ∷ 0xFE ∷ []) ≡ None
other_mark = refl

-- the number of a type in two bytes, two bytes that are passed over, and a value
types : map (λ s. value_at Windows1252 s 0) (
    (0x02 ∷ 0 ∷ 0 ∷ 0 ∷ 0xFE ∷ 0xFF ∷ [])
    ∷ (0x03 ∷ 0 ∷ 0 ∷ 0 ∷ 0xFC ∷ 0xFF ∷ 0xFF ∷ 0xFF ∷ [])
    ∷ (0x05 ∷ 0 ∷ 0 ∷ 0 ∷ 0 ∷ 0 ∷ 0 ∷ 0 ∷ 0 ∷ 0 ∷ 0 ∷ 0xC0 ∷ [])
    ∷ (0x0B ∷ 0 ∷ 0 ∷ 0 ∷ 0xFF ∷ 0xFF ∷ [])
    ∷ (0x0B ∷ 0 ∷ 0 ∷ 0 ∷ 0 ∷ 0 ∷ [])
    ∷ (0x13 ∷ 0 ∷ 0 ∷ 0 ∷ 0xFF ∷ 0xFF ∷ 0xFF ∷ 0xFF ∷ [])
    ∷ (0x1E ∷ 0 ∷ 0 ∷ 0 ∷ 3 ∷ 0 ∷ 0 ∷ 0 ∷ 0x80 ∷ 0x61 ∷ 0 ∷ [])
    ∷ (0x1F ∷ 0 ∷ 0 ∷ 0 ∷ 3 ∷ 0 ∷ 0 ∷ 0 ∷ 0xAC ∷ 0x20 ∷ 0x61 ∷ 0 ∷ 0 ∷ 0 ∷ [])
    ∷ (0x40 ∷ 0 ∷ 0 ∷ 0 ∷ 1 ∷ 0 ∷ 0 ∷ 0 ∷ 1 ∷ 0 ∷ 0 ∷ 0 ∷ [])
    ∷ [])
    ≡ Some (Plain (codes "-2")) ∷ Some (Plain (codes "-4")) ∷ Some (Plain (codes "-2"))
    ∷ Some (Plain (codes "true")) ∷ Some (Plain (codes "false")) ∷ Some (Plain (codes "4294967295"))
    ∷ Some (Plain (0xE2 ∷ 0x82 ∷ 0xAC ∷ 0x61 ∷ [])) ∷ Some (Plain (0xE2 ∷ 0x82 ∷ 0xAC ∷ 0x61 ∷ [])) ∷ Some (Moment 0x1_0000_0001) ∷ []
unfolding digits size_of_parts utf16_chars lib.Utf8.encode
types = refl

-- no other type has a value
no_other_type : filter (λ typ. is_some (value_of_type typ Windows1252 (1 ∷ 0 ∷ 0 ∷ 0 ∷ 0 ∷ 0 ∷ 0 ∷ 0 ∷ []) 0)) (range_with_len 0 0x50)
    ≡ 0x02 ∷ 0x03 ∷ 0x05 ∷ 0x0B ∷ 0x13 ∷ 0x1E ∷ 0x1F ∷ 0x40 ∷ []
no_other_type = refl

-- a number in four bytes, an entry, and the value n of the type 0002
abbrev four : ℕ → List ℕ
four n = n ∷ 0 ∷ 0 ∷ 0 ∷ []

abbrev entry : ℕ → ℕ → List ℕ
entry number at = four number ++ four at

abbrev short : ℕ → List ℕ
short n = 0x02 ∷ 0 ∷ 0 ∷ 0 ∷ n ∷ 0 ∷ []

-- a text is there, with these bytes
abbrev Tells : {Z : Type 0} → Option (String Z) → List ℕ → Type 0
Tells o text = option_map string_bytes o ≡ Some text

tells : {Z : Type 0} (o : Option (String Z)) (text : List ℕ) → Shows (Some (Plain text)) o → Tells o text
tells (Some t) text shows = ap Some shows
tells None text shows = absurd shows

-- a summary section with all fields, each with a number of its own
abbrev summary_section : List ℕ
summary_section = concat (four 0xA2 ∷ four 0x0B
    ∷ entry 0x02 0x60 ∷ entry 0x03 0x66 ∷ entry 0x04 0x6C ∷ entry 0x05 0x72 ∷ entry 0x06 0x78 ∷ entry 0x07 0x7E
    ∷ entry 0x08 0x84 ∷ entry 0x09 0x8A ∷ entry 0x0C 0x90 ∷ entry 0x0D 0x96 ∷ entry 0x12 0x9C
    ∷ short 2 ∷ short 3 ∷ short 4 ∷ short 5 ∷ short 6 ∷ short 7 ∷ short 8 ∷ short 9 ∷ short 12 ∷ short 13 ∷ short 18 ∷ [])

summary_fields : (p : WorkbookProperties) → IsSummary summary_section p
    → Tells p.title (codes "2") × Tells p.subject (codes "3") × Tells p.creator (codes "4") × Tells p.keywords (codes "5")
    × Tells p.description (codes "6") × Tells p.template (codes "7") × Tells p.last_modified_by (codes "8")
    × Tells p.revision (codes "9") × Tells p.created (codes "12") × Tells p.modified (codes "13") × Tells p.application (codes "18")
unfolding digits
summary_fields p is = (
  tells _ _ is.title,
  tells _ _ is.subject,
  tells _ _ is.creator,
  tells _ _ is.keywords,
  tells _ _ is.description,
  tells _ _ is.template,
  tells _ _ is.last_modified_by,
  tells _ _ is.revision,
  tells _ _ is.created,
  tells _ _ is.modified,
  tells _ _ is.application,
)

-- a document section with all fields, and the version 12.5 of an application
abbrev document_section : List ℕ
document_section = concat (four 0x5E ∷ four 0x06
    ∷ entry 0x02 0x38 ∷ entry 0x0E 0x3E ∷ entry 0x0F 0x44 ∷ entry 0x1B 0x4A ∷ entry 0x1D 0x50 ∷ entry 0x17 0x56
    ∷ short 2 ∷ short 14 ∷ short 15 ∷ short 27 ∷ short 29 ∷ four 0x03 ∷ (5 ∷ 0 ∷ 12 ∷ 0 ∷ []) ∷ [])

document_fields : (p : WorkbookProperties) → IsDocument document_section p
    → Tells p.category (codes "2") × Tells p.manager (codes "14") × Tells p.company (codes "15")
    × Tells p.content_status (codes "27") × Tells p.version (codes "29") × Tells p.app_version (codes "12.0005")
unfolding digits
document_fields p is = (
  tells _ _ is.category,
  tells _ _ is.manager,
  tells _ _ is.company,
  tells _ _ is.content_status,
  tells _ _ is.version,
  is.app_version,
)

-- a summary stream of one section with a title
abbrev summary_stream : List ℕ
summary_stream = concat ((0xFE ∷ 0xFF ∷ replicate 22 0) ∷ four 1
    ∷ (0xE0 ∷ 0x85 ∷ 0x9F ∷ 0xF2 ∷ 0xF9 ∷ 0x4F ∷ 0x68 ∷ 0x10 ∷ 0xAB ∷ 0x91 ∷ 0x08 ∷ 0x00 ∷ 0x2B ∷ 0x27 ∷ 0xB3 ∷ 0xD9 ∷ []) ∷ four 0x30
    ∷ four 0x16 ∷ four 1 ∷ entry 0x02 0x10 ∷ short 1 ∷ [])

-- a document stream of two sections: a category, and the name N of a property under page 1200 with its value
abbrev document_stream : List ℕ
document_stream = concat ((0xFE ∷ 0xFF ∷ replicate 22 0) ∷ four 2
    ∷ (0x02 ∷ 0xD5 ∷ 0xCD ∷ 0xD5 ∷ 0x9C ∷ 0x2E ∷ 0x1B ∷ 0x10 ∷ 0x93 ∷ 0x97 ∷ 0x08 ∷ 0x00 ∷ 0x2B ∷ 0x2C ∷ 0xF9 ∷ 0xAE ∷ []) ∷ four 0x44
    ∷ (0x05 ∷ 0xD5 ∷ 0xCD ∷ 0xD5 ∷ 0x9C ∷ 0x2E ∷ 0x1B ∷ 0x10 ∷ 0x93 ∷ 0x97 ∷ 0x08 ∷ 0x00 ∷ 0x2B ∷ 0x2C ∷ 0xF9 ∷ 0xAE ∷ []) ∷ four 0x5A
    ∷ four 0x16 ∷ four 1 ∷ entry 0x02 0x10 ∷ short 2
    ∷ four 0x2E ∷ four 2 ∷ entry 0x00 0x18 ∷ entry 0x02 0x28 ∷ four 1 ∷ four 2 ∷ four 1 ∷ (0x4E ∷ 0 ∷ 0 ∷ 0 ∷ []) ∷ short 3 ∷ [])

streams : (p : WorkbookProperties) → IsProperties (Some summary_stream) (Some document_stream) p
    → Tells p.title (codes "1") × Tells p.category (codes "2") × Tells (get_by_text p.custom_properties (codes "N")) (codes "3")
unfolding digits utf16_chars lib.Utf8.encode
streams p is = (
  tells _ _ is.summary.title,
  tells _ _ is.document.category,
  tells _ _ (is.custom (codes "N")),
)

-- the sections of a stream are found by no other identifier, and the first section of an identifier is it
other_sections : map (λ id. section_of id document_stream) (summary_id ∷ document_id ∷ custom_id ∷ [])
    ≡ None ∷ Some (concat (four 0x16 ∷ four 1 ∷ entry 0x02 0x10 ∷ short 2 ∷ []))
    ∷ Some (concat (four 0x2E ∷ four 2 ∷ entry 0x00 0x18 ∷ entry 0x02 0x28 ∷ four 1 ∷ four 2 ∷ four 1 ∷ (0x4E ∷ 0 ∷ 0 ∷ 0 ∷ []) ∷ short 3 ∷ [])) ∷ []
other_sections = refl

-- a size in four bytes from its own place on, cut at the end; past the end there is none
sizes : map (sized_at (9 ∷ 5 ∷ 0 ∷ 0 ∷ 0 ∷ 7 ∷ 8 ∷ [])) (1 ∷ 0 ∷ 4 ∷ []) ≡ Some (5 ∷ 0 ∷ 0 ∷ 0 ∷ 7 ∷ []) ∷ Some (9 ∷ 5 ∷ 0 ∷ 0 ∷ 0 ∷ 7 ∷ 8 ∷ []) ∷ None ∷ []
sizes = refl

-- three names under page 1200: of one unit with two bytes of padding, of two units, of three with their padding cut
wide_names : names_at Utf16 (concat ((9 ∷ []) ∷ four 3
    ∷ four 2 ∷ four 1 ∷ (0x41 ∷ 0 ∷ 0xFF ∷ 0xFF ∷ []) ∷ four 3 ∷ four 2 ∷ (0x42 ∷ 0 ∷ 0 ∷ 0 ∷ [])
    ∷ four 2 ∷ four 3 ∷ (0x43 ∷ 0 ∷ 0x44 ∷ 0 ∷ 0 ∷ 0 ∷ []) ∷ [])) 1
    ≡ (2, codes "A") ∷ (3, codes "B") ∷ (2, codes "CD") ∷ []
unfolding utf16_chars lib.Utf8.encode
wide_names = refl

-- and under page 1252, without padding
narrow_names : names_at Windows1252 (concat ((9 ∷ []) ∷ four 3
    ∷ four 2 ∷ four 1 ∷ (0x80 ∷ []) ∷ four 3 ∷ four 2 ∷ (0x42 ∷ 0 ∷ [])
    ∷ four 2 ∷ four 3 ∷ (0x43 ∷ 0x44 ∷ 0 ∷ []) ∷ [])) 1
    ≡ (2, 0xE2 ∷ 0x82 ∷ 0xAC ∷ []) ∷ (3, codes "B") ∷ (2, codes "CD") ∷ []
unfolding lib.Utf8.encode
narrow_names = refl

-- the dictionary is that of the first entry 0
first_dictionary : section_names (concat (four 0x38 ∷ four 2 ∷ entry 0x00 0x18 ∷ entry 0x00 0x28
    ∷ four 1 ∷ four 2 ∷ four 1 ∷ (0x41 ∷ 0 ∷ 0 ∷ 0 ∷ []) ∷ four 1 ∷ four 2 ∷ four 1 ∷ (0x42 ∷ 0 ∷ 0 ∷ 0 ∷ []) ∷ []))
    ≡ (2, codes "A") ∷ []
unfolding utf16_chars lib.Utf8.encode
first_dictionary = refl

-- entries 0 and 1 are no properties, nor are those without a name or a value; of two names of a number
-- the last is it; an empty text is a value
customs : customs_of ((2, codes "A") ∷ (1, codes "P") ∷ (3, codes "B") ∷ (4, codes "D") ∷ (2, codes "C") ∷ []) Windows1252
    (concat (short 7 ∷ four 0x06 ∷ short 9 ∷ four 0x1E ∷ four 0 ∷ []))
    ((0, 0) ∷ (1, 0) ∷ (2, 0) ∷ (5, 0) ∷ (3, 6) ∷ (3, 10) ∷ (4, 16) ∷ (2, 10) ∷ (3, 6) ∷ [])
    ≡ (codes "C", Plain (codes "7")) ∷ (codes "B", Plain (codes "9")) ∷ (codes "D", Plain []) ∷ (codes "C", Plain (codes "9")) ∷ []
unfolding digits
customs = refl

-- of two values of a name the last is it
last_values : map (λ q. last_named q ((codes "C", Plain (codes "7")) ∷ (codes "B", Plain (codes "8")) ∷ (codes "C", Plain (codes "9")) ∷ []))
    (codes "A" ∷ codes "B" ∷ codes "C" ∷ []) ≡ None ∷ Some (Plain (codes "8")) ∷ Some (Plain (codes "9")) ∷ []
last_values = refl

-- of two entries of a field the last alone counts, also where it has no value or an empty text; of two versions the first
deciding : (map (λ n. field n (short 7 ++ short 9 ++ four 0x1E ++ four 0) ((2, 0) ∷ (2, 6) ∷ (3, 0) ∷ (3, 1) ∷ (4, 0) ∷ (4, 12) ∷ []) Windows1252) (2 ∷ 3 ∷ 4 ∷ 5 ∷ [])
    ≡ Some (Plain (codes "9")) ∷ None ∷ None ∷ None ∷ [])
    × (app_version (four 0x13 ++ four 2 ++ four 0x03 ++ four 3) ((0x17, 0) ∷ (0x17, 8) ∷ []) ≡ Some (codes "0.0002"))
unfolding digits
deciding = (refl, refl)
