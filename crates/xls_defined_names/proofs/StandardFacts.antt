-- Known values, in the bytes of records, so that a wrong rule in the definitions does not check.
use Rattle.std.proofs.Common.{◌≡◌, ℕ, List, [], ◌∷◌, ◌++◌, map, take, refl, true, false, Some, None, Ok, Err, codes}
use Rattle.std.specs.Char.Utf16.{utf16_chars}
use Rattle.std.specs.Fmt.{digits}
use Rattle.xls_bytes.specs.Numbers.{le16}
use Rattle.xls_stream.specs.Stream.{record_bytes}
use Rattle.xls_stream.specs.declared.part.Part.TheVariants as parts
use Rattle.xls_text.specs.declared.encoding.XlsEncoding.TheVariants.{Windows1252, Utf16}
use Rattle.xls_record.specs.declared.error.XlsError.TheVariants as errors
use Rattle.xls_record.specs.declared.version.Biff.TheVariants.{Biff5, Biff8}
use Rattle.xls_parts.specs.PartRecords.{records_within, until_eof}
use Rattle.xls_bodies.specs.Bodies.{continued}
use Rattle.xls_formula_names.specs.Tables.{built_in_names}
use Rattle.xls_shown_ptg.specs.FaultText.{fault_text}
use Rattle.xls_shown_ptg.specs.declared.fault.Fault.TheVariants as faults
use Rattle.xls_defined_names.specs.Kinds.{kinds_of, kinds_text}
use Rattle.xls_defined_names.specs.Fields.{formula_in, stored_name}
use Rattle.xls_defined_names.specs.Names.{Name, name_at, names_in, names_of, numbered, scope_of, shown}

-- ---- kinds

-- each flag alone, and all
pub known_kinds : map (λ flags. kinds_text (kinds_of flags)) (0x0000 ∷ 0x0001 ∷ 0x0002 ∷ 0x0004 ∷ 0x0008 ∷ 0x0010 ∷ 0x0020 ∷ 0x0040
    ∷ 0x0080 ∷ 0x0100 ∷ 0x0200 ∷ 0x0400 ∷ 0x0800 ∷ 0x1000 ∷ 0x2000 ∷ 0x4000 ∷ 0x8000 ∷ [])
    ≡ [] ∷ codes "hidden" ∷ codes "function" ∷ codes "vba" ∷ codes "macro" ∷ [] ∷ codes "builtin" ∷ [] ∷ [] ∷ [] ∷ [] ∷ [] ∷ [] ∷ []
    ∷ [] ∷ [] ∷ [] ∷ []
known_kinds = refl

pub known_pairs_of_kinds : map (λ flags. kinds_text (kinds_of flags)) (0x0021 ∷ 0x000E ∷ 0xFFFF ∷ [])
    ≡ codes "hidden builtin" ∷ codes "function vba macro" ∷ codes "hidden function vba macro builtin" ∷ []
known_pairs_of_kinds = refl

-- ---- built-in names

-- each first character of 00 to 0E and one more; a name that isn't built in stays as it is
pub known_built_in : map (λ c. shown true (c ∷ [])) (0x00 ∷ 0x01 ∷ 0x02 ∷ 0x03 ∷ 0x04 ∷ 0x05 ∷ 0x06 ∷ 0x07 ∷ 0x08 ∷ 0x09 ∷ 0x0A ∷ 0x0B
    ∷ 0x0C ∷ 0x0D ∷ 0x0E ∷ 0x41 ∷ [])
    ≡ codes "Consolidate_Area" ∷ codes "Auto_Open" ∷ codes "Auto_Close" ∷ codes "Extract" ∷ codes "Database" ∷ codes "Criteria"
    ∷ codes "Print_Area" ∷ codes "Print_Titles"
    ∷ codes "Recorder" ∷ codes "Data_Form" ∷ codes "Auto_Activate" ∷ codes "Auto_Deactivate" ∷ codes "Sheet_Title"
    ∷ codes "_FilterDatabase" ∷ (0x0E ∷ []) ∷ codes "A" ∷ []
unfolding built_in_names
known_built_in = refl

pub known_others : shown false (0x06 ∷ []) ∷ shown true [] ∷ shown true (codes "Rate") ∷ shown true (0x06 ∷ 0x41 ∷ []) ∷ []
    ≡ (0x06 ∷ []) ∷ [] ∷ codes "Rate" ∷ codes "Print_Area" ∷ []
unfolding built_in_names
known_others = refl

-- ---- a record

-- flags, a key, the counts of the name and of the tokens, two bytes, the number of the sheet, and four bytes
abbrev head : ℕ → ℕ → ℕ → ℕ → List ℕ
head flags cch cce itab = le16 flags ++ 9 ∷ cch ∷ le16 cce ++ 9 ∷ 9 ∷ le16 itab ++ 9 ∷ 9 ∷ 9 ∷ 9 ∷ []

-- tokens stand directly behind the name, and extra bytes behind them: of BIFF8 with one byte a unit and with two, and before it
abbrev narrow : List ℕ
narrow = head 0x0001 2 3 0x0102 ++ 0x00 ∷ 0x41 ∷ 0x42 ∷ 1 ∷ 2 ∷ 3 ∷ 4 ∷ 5 ∷ []

abbrev wide : List ℕ
wide = head 0x0001 2 3 0x0102 ++ 0x01 ∷ 0x41 ∷ 0x00 ∷ 0xAC ∷ 0x20 ∷ 1 ∷ 2 ∷ 3 ∷ 4 ∷ 5 ∷ []

abbrev early : List ℕ
early = head 0x0001 2 3 0x0102 ++ 0x41 ∷ 0x80 ∷ 1 ∷ 2 ∷ 3 ∷ 4 ∷ 5 ∷ []

pub known_names : stored_name Utf16 Biff8 narrow ∷ stored_name Utf16 Biff8 wide ∷ stored_name Windows1252 Biff5 early ∷ [] ≡ codes "AB"
    ∷ (0x41 ∷ 0x20AC ∷ []) ∷ (0x41 ∷ 0x20AC ∷ []) ∷ []
unfolding utf16_chars
known_names = refl

pub known_formulas : map (formula_in Biff8) (narrow ∷ wide ∷ []) ∷ map (formula_in Biff5) (early ∷ []) ∷ []
    ≡ (Ok (1 ∷ 2 ∷ 3 ∷ [], 4 ∷ 5 ∷ []) ∷ Ok (1 ∷ 2 ∷ 3 ∷ [], 4 ∷ 5 ∷ []) ∷ []) ∷ (Ok (1 ∷ 2 ∷ 3 ∷ [], 4 ∷ 5 ∷ []) ∷ []) ∷ []
known_formulas = refl

-- no name, no tokens, and tokens that are cut; what is found is what stands behind the name
pub known_ends : map (formula_in Biff8) ((head 0 0 0 0 ++ 0x00 ∷ []) ∷ head 0 0 0 0 ∷ (head 0 0 2 0 ++ 0x00 ∷ 7 ∷ [])
    ∷ (head 0 1 0x0102 0 ++ 0x01 ∷ 7 ∷ 7 ∷ 7 ∷ []) ∷ (head 0 9 1 0 ++ 0x00 ∷ 7 ∷ []) ∷ take 13 (head 0 0 0 0) ∷ [])
    ≡ Ok ([], []) ∷ Ok ([], []) ∷ Err (faults.Xls (errors.Len 2 1 parts.NameFormula))
    ∷ Err (faults.Xls (errors.Len 0x0102 1 parts.NameFormula))
    ∷ Err (faults.Xls (errors.Len 1 0 parts.NameFormula)) ∷ Err (faults.Xls (errors.Len 14 13 parts.Lbl)) ∷ []
known_ends = refl

pub known_text : fault_text (faults.Xls (errors.Len 2 1 parts.NameFormula))
    ≡ codes "Invalid name formula length, expected at least 2, found 1"
unfolding digits
known_text = refl

-- where the count passes the bytes the shorter text
pub known_short_names : map (stored_name Utf16 Biff8) ((head 0 9 1 0 ++ 0x00 ∷ 0x41 ∷ [])
    ∷ (head 0 9 1 0 ++ 0x01 ∷ 0x41 ∷ 0x00 ∷ 0x42 ∷ []) ∷ head 0 9 1 0 ∷ []) ≡ codes "A" ∷ codes "A" ∷ [] ∷ []
unfolding utf16_chars
known_short_names = refl

abbrev named : ℕ → ℕ → ℕ → List ℕ → Name
named offset flags sheet text = record { offset = offset; kinds = kinds_of flags; sheet = sheet; text = text }

pub known_records : name_at Utf16 Biff8 7 narrow ∷ name_at Utf16 Biff8 8 (head 0x0020 1 0 1 ++ 0x00 ∷ 0x06 ∷ [])
    ∷ name_at Utf16 Biff8 9 (take 13 narrow) ∷ []
    ≡ named 7 0x0001 0x0102 (codes "AB") ∷ named 8 0x0020 1 (codes "Print_Area") ∷ named 9 0 0 [] ∷ []
unfolding built_in_names
known_records = refl

-- ---- a workbook

-- a BOF, a name, a Continue record with its tokens' end, an ExternName, a second name, the EOF, and a name behind it
abbrev stream : List ℕ
stream = record_bytes 0x809 [] ++ record_bytes 0x018 (head 0 1 4 0 ++ 0x00 ∷ 0x41 ∷ 0x1E ∷ 0x07 ∷ [])
    ++ record_bytes 0x03C (0x00 ∷ 0x14 ∷ 9 ∷ [])
    ++ record_bytes 0x023 (head 0 1 0 0 ++ 0x00 ∷ 0x45 ∷ []) ++ record_bytes 0x018 (head 0x21 1 0 2 ++ 0x00 ∷ 0x0D ∷ [])
    ++ record_bytes 0x00A []
    ++ record_bytes 0x018 (head 0 1 0 0 ++ 0x00 ∷ 0x42 ∷ [])

pub known_stream : names_in Windows1252 Biff8 stream ≡ named 4 0 0 (codes "A") ∷ named 53 0x21 2 (codes "_FilterDatabase") ∷ []
unfolding records_within until_eof continued names_of built_in_names
known_stream = refl

-- numbers count from 1
abbrev two : List Name
two = named 4 0 0 (codes "A") ∷ named 53 0x21 2 (codes "B") ∷ []

pub known_numbers : map (λ number. numbered number two) (0 ∷ 1 ∷ 2 ∷ 3 ∷ []) ≡ None ∷ Some (named 4 0 0 (codes "A"))
    ∷ Some (named 53 0x21 2 (codes "B")) ∷ None ∷ []
known_numbers = refl

pub known_scopes : map (λ sheet. scope_of sheet (codes "Data" ∷ codes "More" ∷ [])) (0 ∷ 1 ∷ 2 ∷ 3 ∷ 65535 ∷ []) ≡ [] ∷ codes "Data"
    ∷ codes "More" ∷ codes "#REF" ∷ codes "#REF" ∷ []
known_scopes = refl
