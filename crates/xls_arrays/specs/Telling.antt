-- The refusal that numbers tell, and its sentence.
use Rattle.std.specs.Prelude.{ℕ, ◌%◌, ◌^◌, ◌==◌, nat_lt, if◌then◌else◌, List, codes, Option, Some, None}
use Rattle.std.specs.Option.{option_map}
use Rattle.xls_text.specs.declared.error.CfbError.TheVariants as pages
use Rattle.xls_stream.specs.declared.part.Part.{Part}
use Rattle.xls_record.specs.declared.error.XlsError.{XlsError}
use Rattle.xls_record.specs.declared.error.XlsError.TheVariants as errors
use Rattle.xls_sectors.specs.declared.error.Table.{Table}
use Rattle.xls_sectors.specs.declared.error.Table.TheVariants as tables
use Rattle.xls_sectors.specs.declared.error.SectorFault.{SectorFault}
use Rattle.xls_sectors.specs.declared.error.SectorFault.TheVariants as sectors
use Rattle.xls_compound.specs.declared.fault.DirectoryFault.{DirectoryFault}
use Rattle.xls_compound.specs.declared.fault.DirectoryFault.TheVariants as entries
use Rattle.xls_container.specs.declared.kind.FileKind.{FileKind}
use Rattle.xls_container.specs.declared.kind.FileKind.TheVariants as kinds
use Rattle.xls_arrays.specs.Parts.{part_numbered}
use Rattle.xls_arrays.specs.Texts.{refusal_text}
use Rattle.xls_arrays.specs.declared.refusal.Chain.{Chain}
use Rattle.xls_arrays.specs.declared.refusal.Chain.TheVariants as chains
use Rattle.xls_arrays.specs.declared.refusal.Refusal.{Refusal}
use Rattle.xls_arrays.specs.declared.refusal.Refusal.TheVariants as refusals
use Rattle.xls_arrays.specs.declared.faults.Fault.{Fault}

-- ---- a stream

-- the faults that name a part
abbrev pub part_fault : Fault → Option Part → Option XlsError
part_fault f None = None
part_fault f (Some typ) =
    if f.code == 20 then Some (errors.Len f.first f.second typ)
    else if f.code == 21 then Some (errors.Unrecognized typ (f.first % 2 ^ 8))
    else if f.code == 22 then Some (errors.EoStream typ)
    else None

-- the faults with a number
abbrev pub numbered_fault : Fault → Option XlsError
numbered_fault f =
    if f.code == 25 then Some (errors.InvalidFormula f.first)
    else if f.code == 26 then Some (errors.IfTab f.first)
    else if f.code == 27 then Some (errors.Etpg (f.first % 2 ^ 8))
    else if f.code == 28 then Some (errors.InvalidFormat (f.first % 2 ^ 16))
    else part_fault f (part_numbered f.part)

abbrev pub stream_error : Fault → Option XlsError
stream_error f =
    if f.code == 16 then Some (errors.TooLarge f.first)
    else if f.code == 17 then Some (errors.TooManyCells f.first)
    else if f.code == 18 then Some (errors.Cfb (pages.CodePageNotFound (f.first % 2 ^ 16)))
    else if f.code == 19 then Some errors.Password
    else if f.code == 23 then Some errors.ContinueRecordTooShort
    else if f.code == 24 then Some errors.StackLen
    else if f.code == 29 then Some errors.Io
    else numbered_fault f

-- ---- a file

abbrev pub table_of : ℕ → Option Table
table_of n =
    if n == 1 then Some tables.Difat
    else if n == 2 then Some tables.Fat
    else if n == 3 then Some tables.MiniFat
    else None

abbrev pub chain_numbered : ℕ → Option Chain
chain_numbered n =
    if n == 1 then Some chains.Tables
    else if n == 2 then Some chains.Directory
    else if n == 3 then Some chains.MiniFat
    else if n == 4 then Some chains.MiniStream
    else if n == 5 then Some chains.Workbook
    else None

-- the faults that name a table
abbrev pub table_fault : Fault → Option Table → Option SectorFault
table_fault f None = None
table_fault f (Some table) =
    if f.code == 68 then Some (sectors.Loop table (f.first % 2 ^ 32))
    else if f.code == 69 then Some (sectors.Leaves table (Some (f.first % 2 ^ 32)) (f.second % 2 ^ 32))
    else if f.code == 70 then Some (sectors.Leaves table None (f.second % 2 ^ 32))
    else if f.code == 71 then Some (sectors.Short table (f.first % 2 ^ 32) f.second f.third)
    else if f.code == 72 then Some (sectors.Cut table (f.first % 2 ^ 32) f.second f.third)
    else None

abbrev pub sector_of : Fault → Option SectorFault
sector_of f =
    if f.code == 64 then Some sectors.NotCompound
    else if f.code == 65 then Some (sectors.HeaderCut f.first)
    else if f.code == 66 then Some (sectors.SectorShift (f.first % 2 ^ 16))
    else if f.code == 67 then Some (sectors.MiniSectorShift (f.first % 2 ^ 16))
    else if f.code == 73 then Some (sectors.FatCut (f.first % 2 ^ 32) f.second f.third)
    else table_fault f (table_of f.table)

abbrev pub directory_fault_numbered : Fault → Option DirectoryFault
directory_fault_numbered f =
    if f.code == 80 then Some entries.NoRoot
    else if f.code == 81 then Some (entries.Missing (f.first % 2 ^ 32))
    else if f.code == 82 then Some (entries.Twice (f.first % 2 ^ 32))
    else if f.code == 83 then Some (entries.Kind (f.first % 2 ^ 32) (f.second % 2 ^ 8))
    else if f.code == 84 then Some (entries.NameSize (f.first % 2 ^ 32) (f.second % 2 ^ 16))
    else None

-- modern kinds of files, and then old ones
abbrev pub old_kind : ℕ → Option FileKind
old_kind n =
    if n == 7 then Some kinds.Pdf
    else if n == 8 then Some kinds.Excel2
    else if n == 9 then Some kinds.Excel3
    else if n == 10 then Some kinds.Excel4
    else if n == 11 then Some kinds.Other
    else None

abbrev pub file_kind_numbered : ℕ → Option FileKind
file_kind_numbered n =
    if n == 1 then Some kinds.Empty
    else if n == 2 then Some kinds.Zip
    else if n == 3 then Some kinds.Html
    else if n == 4 then Some kinds.Mhtml
    else if n == 5 then Some kinds.Sylk
    else if n == 6 then Some kinds.RichText
    else old_kind n

-- ---- refusals

abbrev pub chain_refusal : Option Chain → Option SectorFault → Option Refusal
chain_refusal (Some chain) (Some fault) = Some (refusals.Chain chain fault)
chain_refusal (Some chain) None = None
chain_refusal None fault = None

abbrev pub call_refusal : Fault → Option Refusal
call_refusal f =
    if f.code == 1 then Some refusals.Memory
    else if f.code == 2 then Some refusals.TooShort
    else if f.code == 3 then Some (refusals.NoSheet f.first)
    else if f.code == 4 then Some refusals.Obfuscated
    else None

abbrev pub file_refusal : Fault → Option Refusal
file_refusal f =
    if f.code == 48 then option_map (λ k. refusals.Kind k) (file_kind_numbered f.part)
    else if f.code == 49 then Some refusals.NoWorkbook
    else None

-- none where no call gives these numbers
abbrev pub refusal_of : Fault → Option Refusal
refusal_of f =
    if nat_lt f.code 16 then call_refusal f
    else if nat_lt f.code 48 then option_map (λ e. refusals.Stream e) (stream_error f)
    else if nat_lt f.code 64 then file_refusal f
    else if nat_lt f.code 80 then chain_refusal (chain_numbered f.part) (sector_of f)
    else option_map (λ d. refusals.Directory d) (directory_fault_numbered f)

-- ---- sentences

abbrev pub sentence_in : Option Refusal → List ℕ
sentence_in (Some r) = refusal_text r
sentence_in None = codes "An unknown fault"

abbrev pub sentence : Fault → List ℕ
sentence f = if f.code == 0 then codes "No fault" else sentence_in (refusal_of f)
