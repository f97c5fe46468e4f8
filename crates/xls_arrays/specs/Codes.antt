-- Faults as numbers.
use Rattle.std.specs.Prelude.{ℕ, Some, None}
use Rattle.xls_text.specs.declared.error.CfbError.TheVariants as pages
use Rattle.xls_record.specs.declared.error.XlsError.{XlsError}
use Rattle.xls_record.specs.declared.error.XlsError.TheVariants as errors
use Rattle.xls_sectors.specs.declared.error.Table.{Table}
use Rattle.xls_sectors.specs.declared.error.Table.TheVariants as tables
use Rattle.xls_sectors.specs.declared.error.SectorFault.{SectorFault}
use Rattle.xls_sectors.specs.declared.error.SectorFault.TheVariants as sectors
use Rattle.xls_compound.specs.declared.fault.DirectoryFault.{DirectoryFault}
use Rattle.xls_compound.specs.declared.fault.DirectoryFault.TheVariants as entries
use Rattle.xls_container.specs.declared.kind.FileKind.{FileKind}
use Rattle.xls_container.specs.declared.kind.FileKind.TheVariants as kinds
use Rattle.xls_arrays.specs.Parts.{part_number}
use Rattle.xls_arrays.specs.declared.refusal.Chain.{Chain}
use Rattle.xls_arrays.specs.declared.refusal.Chain.TheVariants as chains
use Rattle.xls_arrays.specs.declared.faults.Fault.{Fault}

abbrev pub numbers : ℕ → ℕ → ℕ → ℕ → ℕ → ℕ → Fault
numbers code part table first second third =
    record {
      code = code;
      part = part;
      table = table;
      reserved = 0;
      first = first;
      second = second;
      third = third;
    }

-- a code alone
abbrev pub plain : ℕ → Fault
plain code = numbers code 0 0 0 0 0

-- a code and a number
abbrev pub numbered : ℕ → ℕ → Fault
numbered code first = numbers code 0 0 first 0 0

-- ---- a stream

abbrev pub stream_fault : XlsError → Fault
stream_fault errors.Io = plain 29
stream_fault errors.Memory = plain 1
stream_fault (errors.TooLarge limit) = numbered 16 limit
stream_fault (errors.TooManyCells limit) = numbered 17 limit
stream_fault (errors.Cfb (pages.CodePageNotFound page)) = numbered 18 page
stream_fault errors.Password = plain 19
stream_fault (errors.Len expected found typ) = numbers 20 (part_number typ) 0 expected found 0
stream_fault (errors.Unrecognized typ val) = numbers 21 (part_number typ) 0 val 0 0
stream_fault (errors.EoStream typ) = numbers 22 (part_number typ) 0 0 0 0
stream_fault errors.ContinueRecordTooShort = plain 23
stream_fault errors.StackLen = plain 24
stream_fault (errors.InvalidFormula stack_size) = numbered 25 stack_size
stream_fault (errors.IfTab index) = numbered 26 index
stream_fault (errors.Etpg number) = numbered 27 number
stream_fault (errors.InvalidFormat ifmt) = numbered 28 ifmt
stream_fault (errors.WorksheetNotFound name) = plain 30

-- ---- a file

abbrev pub table_number : Table → ℕ
table_number tables.Difat = 1
table_number tables.Fat = 2
table_number tables.MiniFat = 3

abbrev pub chain_number : Chain → ℕ
chain_number chains.Tables = 1
chain_number chains.Directory = 2
chain_number chains.MiniFat = 3
chain_number chains.MiniStream = 4
chain_number chains.Workbook = 5

-- of a chain that isn't named
abbrev pub sector_fault : SectorFault → Fault
sector_fault sectors.NotCompound = plain 64
sector_fault (sectors.HeaderCut found) = numbered 65 found
sector_fault (sectors.SectorShift found) = numbered 66 found
sector_fault (sectors.MiniSectorShift found) = numbered 67 found
sector_fault (sectors.Loop table first) = numbers 68 0 (table_number table) first 0 0
sector_fault (sectors.Leaves table (Some after) number) = numbers 69 0 (table_number table) after number 0
sector_fault (sectors.Leaves table None number) = numbers 70 0 (table_number table) 0 number 0
sector_fault (sectors.Short table first expected found) = numbers 71 0 (table_number table) first expected found
sector_fault (sectors.Cut table sector expected found) = numbers 72 0 (table_number table) sector expected found
sector_fault (sectors.FatCut sector expected found) = numbers 73 0 0 sector expected found

abbrev pub directory_fault : DirectoryFault → Fault
directory_fault entries.NoRoot = plain 80
directory_fault (entries.Missing number) = numbered 81 number
directory_fault (entries.Twice number) = numbered 82 number
directory_fault (entries.Kind number kind) = numbers 83 0 0 number kind 0
directory_fault (entries.NameSize number size) = numbers 84 0 0 number size 0

abbrev pub file_kind_number : FileKind → ℕ
file_kind_number kinds.Empty = 1
file_kind_number kinds.Zip = 2
file_kind_number kinds.Html = 3
file_kind_number kinds.Mhtml = 4
file_kind_number kinds.Sylk = 5
file_kind_number kinds.RichText = 6
file_kind_number kinds.Pdf = 7
file_kind_number kinds.Excel2 = 8
file_kind_number kinds.Excel3 = 9
file_kind_number kinds.Excel4 = 10
file_kind_number kinds.Other = 11
