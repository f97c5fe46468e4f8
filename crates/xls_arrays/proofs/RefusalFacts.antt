-- Values that the header gives, so that a wrong rule in the specs does not check.
use Rattle.std.proofs.Common.{◌≡◌, ℕ, ◌∷◌, [], List, map, Some, None, refl, codes}
use Rattle.std.specs.Fmt.{digits}
use Rattle.xls_stream.specs.declared.part.Part.TheVariants as parts
use Rattle.xls_text.specs.declared.error.CfbError.TheVariants as pages
use Rattle.xls_record.specs.declared.error.XlsError.TheVariants as errors
use Rattle.xls_sectors.specs.declared.error.Table.TheVariants as tables
use Rattle.xls_sectors.specs.declared.error.SectorFault.TheVariants as sectors
use Rattle.xls_compound.specs.declared.fault.DirectoryFault.TheVariants as entries
use Rattle.xls_container.specs.declared.kind.FileKind.TheVariants as kinds
use Rattle.xls_arrays.specs.Codes as number
use Rattle.xls_arrays.specs.Codes.{numbers}
use Rattle.xls_arrays.specs.Faults.{fault_numbered}
use Rattle.xls_arrays.specs.Parts.{all_parts, part_number, part_numbered}
use Rattle.xls_arrays.specs.Telling.{refusal_of, sentence}
use Rattle.xls_arrays.specs.declared.refusal.Chain.TheVariants as chains
use Rattle.xls_arrays.specs.declared.refusal.Refusal.{Refusal}
use Rattle.xls_arrays.specs.declared.refusal.Refusal.TheVariants as refusals

abbrev from_1 : List ℕ
from_1 =
    1 ∷ 2 ∷ 3 ∷ 4 ∷ 5 ∷ 6 ∷ 7 ∷ 8 ∷ 9 ∷ 10 ∷ 11 ∷ 12 ∷ 13 ∷ 14 ∷ 15 ∷ 16 ∷ 17 ∷ 18 ∷ 19 ∷ 20 ∷ 21 ∷ 22 ∷ 23 ∷ 24 ∷ 25 ∷ 26 ∷ 27
    ∷ 28 ∷ 29 ∷ 30 ∷ 31 ∷ 32 ∷ 33 ∷ 34 ∷ 35 ∷ 36 ∷ 37 ∷ 38 ∷ []

-- each part has the number of its place, and is found by it; no other number is one
pub known_parts : map part_number all_parts ≡ from_1
known_parts = refl

pub known_places : map part_numbered from_1 ≡ map (λ p. Some p) all_parts
known_places = refl

pub known_no_parts : map part_numbered (0 ∷ 39 ∷ []) ≡ None ∷ None ∷ []
known_no_parts = refl

pub known_chains : map number.chain_number (chains.Tables ∷ chains.Directory ∷ chains.MiniFat ∷ chains.MiniStream ∷ chains.Workbook ∷ [])
    ≡ 0x01 ∷ 0x02 ∷ 0x03 ∷ 0x04 ∷ 0x05 ∷ []
known_chains = refl

pub known_tables : map number.table_number (tables.Difat ∷ tables.Fat ∷ tables.MiniFat ∷ []) ≡ 0x01 ∷ 0x02 ∷ 0x03 ∷ []
known_tables = refl

pub known_files : map number.file_kind_number (kinds.Empty ∷ kinds.Zip ∷ kinds.Html ∷ kinds.Mhtml ∷ kinds.Sylk ∷ kinds.RichText ∷ kinds.Pdf
    ∷ kinds.Excel2 ∷ kinds.Excel3 ∷ kinds.Excel4 ∷ kinds.Other ∷ [])
    ≡ 0x01 ∷ 0x02 ∷ 0x03 ∷ 0x04 ∷ 0x05 ∷ 0x06 ∷ 0x07 ∷ 0x08 ∷ 0x09 ∷ 0x0A ∷ 0x0B ∷ []
known_files = refl

-- refusals whose numbers are known, one of each code
abbrev some_refusals : List Refusal
some_refusals =
    refusals.Memory ∷ refusals.TooShort ∷ refusals.NoSheet 7 ∷ refusals.Obfuscated ∷ refusals.Stream (errors.TooLarge 5)
    ∷ refusals.Stream (errors.TooManyCells 6) ∷ refusals.Stream (errors.Cfb (pages.CodePageNotFound 932))
    ∷ refusals.Stream errors.Password ∷ refusals.Stream (errors.Len 4 2 parts.BoundSheet)
    ∷ refusals.Stream (errors.Unrecognized parts.HsState 3) ∷ refusals.Stream (errors.EoStream parts.Sst)
    ∷ refusals.Stream errors.ContinueRecordTooShort ∷ refusals.Stream errors.StackLen
    ∷ refusals.Stream (errors.InvalidFormula 2) ∷ refusals.Stream (errors.IfTab 400) ∷ refusals.Stream (errors.Etpg 9)
    ∷ refusals.Stream (errors.InvalidFormat 200) ∷ refusals.Stream errors.Io ∷ refusals.Kind kinds.Zip ∷ refusals.NoWorkbook
    ∷ refusals.Chain chains.Tables sectors.NotCompound ∷ refusals.Chain chains.Tables (sectors.HeaderCut 100)
    ∷ refusals.Chain chains.Tables (sectors.SectorShift 8) ∷ refusals.Chain chains.Tables (sectors.MiniSectorShift 7)
    ∷ refusals.Chain chains.Workbook (sectors.Loop tables.Fat 3)
    ∷ refusals.Chain chains.Directory (sectors.Leaves tables.Fat (Some 4) 99)
    ∷ refusals.Chain chains.MiniFat (sectors.Leaves tables.Fat None 98)
    ∷ refusals.Chain chains.MiniStream (sectors.Short tables.MiniFat 1 600 512)
    ∷ refusals.Chain chains.Workbook (sectors.Cut tables.Fat 5 512 100) ∷ refusals.Chain chains.Tables (sectors.FatCut 2 512 0)
    ∷ refusals.Directory entries.NoRoot ∷ refusals.Directory (entries.Missing 8) ∷ refusals.Directory (entries.Twice 9)
    ∷ refusals.Directory (entries.Kind 1 7) ∷ refusals.Directory (entries.NameSize 2 65) ∷ []

-- code, part, table, and three numbers
pub known_faults : map fault_numbered some_refusals
    ≡ numbers 0x01 0 0 0 0 0 ∷ numbers 0x02 0 0 0 0 0 ∷ numbers 0x03 0 0 7 0 0 ∷ numbers 0x04 0 0 0 0 0 ∷ numbers 0x10 0 0 5 0 0
    ∷ numbers 0x11 0 0 6 0 0 ∷ numbers 0x12 0 0 932 0 0 ∷ numbers 0x13 0 0 0 0 0 ∷ numbers 0x14 11 0 4 2 0
    ∷ numbers 0x15 12 0 3 0 0 ∷ numbers 0x16 17 0 0 0 0 ∷ numbers 0x17 0 0 0 0 0 ∷ numbers 0x18 0 0 0 0 0
    ∷ numbers 0x19 0 0 2 0 0 ∷ numbers 0x1A 0 0 400 0 0 ∷ numbers 0x1B 0 0 9 0 0 ∷ numbers 0x1C 0 0 200 0 0
    ∷ numbers 0x1D 0 0 0 0 0 ∷ numbers 0x30 2 0 0 0 0 ∷ numbers 0x31 0 0 0 0 0 ∷ numbers 0x40 1 0 0 0 0
    ∷ numbers 0x41 1 0 100 0 0 ∷ numbers 0x42 1 0 8 0 0 ∷ numbers 0x43 1 0 7 0 0 ∷ numbers 0x44 5 2 3 0 0
    ∷ numbers 0x45 2 2 4 99 0 ∷ numbers 0x46 3 2 0 98 0 ∷ numbers 0x47 4 3 1 600 512 ∷ numbers 0x48 5 2 5 512 100
    ∷ numbers 0x49 1 0 2 512 0 ∷ numbers 0x50 0 0 0 0 0 ∷ numbers 0x51 0 0 8 0 0 ∷ numbers 0x52 0 0 9 0 0
    ∷ numbers 0x53 0 0 1 7 0 ∷ numbers 0x54 0 0 2 65 0 ∷ []
known_faults = refl

-- they are found again by these
pub known_refusals : map (λ r. refusal_of (fault_numbered r)) some_refusals ≡ map (λ r. Some r) some_refusals
known_refusals = refl

pub known_sentences : map sentence (numbers 0 0 0 0 0 0 ∷ numbers 2 0 0 0 0 0 ∷ numbers 3 0 0 7 0 0 ∷ numbers 22 17 0 0 0 0
    ∷ numbers 49 0 0 0 0 0 ∷ numbers 64 5 0 0 0 0 ∷ numbers 99 0 0 0 0 0 ∷ [])
    ≡ codes "No fault" ∷ codes "An array is too short" ∷ codes "The workbook has no sheet 7" ∷ codes "End of stream 'sst'"
    ∷ codes "it has no stream Workbook or Book"
    ∷ codes "A damaged compound file: The workbook's stream: Not a compound file: another signature" ∷ codes "An unknown fault" ∷ []
unfolding digits
known_sentences = refl
