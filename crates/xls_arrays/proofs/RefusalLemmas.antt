-- Refusals and their numbers.
use Rattle.std.proofs.Common.{◌≡◌, ℕ, ◌%◌, ◌^◌, ◌==◌, if◌then◌else◌, List, codes, Some, None, refl, sym, ap, ◌∙◌, rules}
use Rattle.std.proofs.Math.Nat.{mod-eq_of_lt}
use Rattle.std.specs.Option.{option_map}
use Rattle.xls_text.specs.declared.error.CfbError.TheVariants as pages
use Rattle.xls_stream.specs.declared.part.Part.{Part}
use Rattle.xls_stream.specs.declared.part.Part.TheVariants as parts
use Rattle.xls_record.specs.declared.error.XlsError.{XlsError}
use Rattle.xls_record.specs.declared.error.XlsError.TheVariants as errors
use Rattle.xls_sectors.specs.declared.error.Table.{Table}
use Rattle.xls_sectors.specs.declared.error.Table.TheVariants as tables
use Rattle.xls_sectors.specs.declared.error.SectorFault.{SectorFault}
use Rattle.xls_sectors.specs.declared.error.SectorFault.TheVariants as sectors
use Rattle.xls_compound.specs.declared.fault.DirectoryFault.{DirectoryFault}
use Rattle.xls_compound.specs.declared.fault.DirectoryFault.TheVariants as entries
use Rattle.xls_container.specs.declared.kind.FileKind.{FileKind}
use Rattle.xls_container.specs.declared.kind.FileKind.TheVariants as kinds
use Rattle.xls_arrays.specs.Codes.{chain_number, directory_fault, file_kind_number, sector_fault, stream_fault, table_number}
use Rattle.xls_arrays.specs.Faults.{fault_numbered}
use Rattle.xls_arrays.specs.RefusalLaws.{FitsDirectory, FitsError, FitsRefusal, FitsSector, RefusalsAreReported}
use Rattle.xls_arrays.specs.Parts.{part_number, part_numbered}
use Rattle.xls_arrays.specs.Telling.{chain_numbered, chain_refusal, directory_fault_numbered, file_kind_numbered, part_fault, refusal_of, sector_of, sentence, sentence_in, stream_error, table_fault, table_of}
use Rattle.xls_arrays.specs.Texts.{refusal_text}
use Rattle.xls_arrays.specs.declared.faults.Fault.{Fault}
use Rattle.xls_arrays.specs.declared.refusal.Chain.{Chain}
use Rattle.xls_arrays.specs.declared.refusal.Chain.TheVariants as chains
use Rattle.xls_arrays.specs.declared.refusal.Refusal.{Refusal}
use Rattle.xls_arrays.specs.declared.refusal.Refusal.TheVariants as refusals

-- ---- sentences

unless : (n : ℕ) (x y : List ℕ) → (n ≡ 0 → ⊥) → (if n == 0 then x else y) ≡ y
unless n x y some = search (rules, some)

-- the sentence of a fault that a refusal tells, and of another
pub sentence-some : (f : Fault) (r : Refusal) → (f.code ≡ 0 → ⊥) → refusal_of f ≡ Some r → sentence f ≡ refusal_text r
sentence-some f r some is = unless f.code _ _ some ∙ ap sentence_in is

pub sentence-none : (f : Fault) → (f.code ≡ 0 → ⊥) → refusal_of f ≡ None → sentence f ≡ codes "An unknown fault"
sentence-none f some is = unless f.code _ _ some ∙ ap sentence_in is

-- ---- back from numbers

part-back : (p : Part) → part_numbered (part_number p) ≡ Some p
part-back parts.RecordHeader = refl
part-back parts.RecordLength = refl
part-back parts.ContinueLength = refl
part-back parts.SheetOffset = refl
part-back parts.Dbcs = refl
part-back parts.Bof = refl
part-back parts.FilePass = refl
part-back parts.CodePage = refl
part-back parts.DateMode = refl
part-back parts.Xf = refl
part-back parts.BoundSheet = refl
part-back parts.HsState = refl
part-back parts.SheetKind = refl
part-back parts.Lbl = refl
part-back parts.NameFormula = refl
part-back parts.ExternSheet = refl
part-back parts.Sst = refl
part-back parts.RichString = refl
part-back parts.ShortString = refl
part-back parts.Text = refl
part-back parts.NoCch = refl
part-back parts.Dimensions = refl
part-back parts.Number = refl
part-back parts.Label = refl
part-back parts.BoolErr = refl
part-back parts.FError = refl
part-back parts.CellError = refl
part-back parts.Rk = refl
part-back parts.LabelSst = refl
part-back parts.MergeCells = refl
part-back parts.Formula = refl
part-back parts.Format = refl
part-back parts.Rgce = refl
part-back parts.Ptg = refl
part-back parts.PtgExp = refl
part-back parts.PtgStr = refl
part-back parts.SpaceKind = refl
part-back parts.BErr = refl

kind-back : (k : FileKind) → file_kind_numbered (file_kind_number k) ≡ Some k
kind-back kinds.Empty = refl
kind-back kinds.Zip = refl
kind-back kinds.Html = refl
kind-back kinds.Mhtml = refl
kind-back kinds.Sylk = refl
kind-back kinds.RichText = refl
kind-back kinds.Pdf = refl
kind-back kinds.Excel2 = refl
kind-back kinds.Excel3 = refl
kind-back kinds.Excel4 = refl
kind-back kinds.Other = refl

chain-back : (c : Chain) → chain_numbered (chain_number c) ≡ Some c
chain-back chains.Tables = refl
chain-back chains.Directory = refl
chain-back chains.MiniFat = refl
chain-back chains.MiniStream = refl
chain-back chains.Workbook = refl

table-back : (t : Table) → table_of (table_number t) ≡ Some t
table-back tables.Difat = refl
table-back tables.Fat = refl
table-back tables.MiniFat = refl

-- ---- a stream

error-back : (e : XlsError) → FitsError e → stream_error (stream_fault e) ≡ Some e
error-back errors.Io f = refl
error-back errors.Memory f = absurd f
error-back (errors.TooLarge limit) f = refl
error-back (errors.TooManyCells limit) f = refl
error-back (errors.Cfb (pages.CodePageNotFound page)) f =
    ap (λ n. Some (errors.Cfb (pages.CodePageNotFound n))) (mod-eq_of_lt f)
error-back errors.Password f = refl
error-back (errors.Len expected found typ) f =
    ap (part_fault (stream_fault (errors.Len expected found typ))) (part-back typ)
error-back (errors.Unrecognized typ val) f =
    ap (part_fault (stream_fault (errors.Unrecognized typ val))) (part-back typ)
    ∙ ap (λ n. Some (errors.Unrecognized typ n)) (mod-eq_of_lt f)
error-back (errors.EoStream typ) f = ap (part_fault (stream_fault (errors.EoStream typ))) (part-back typ)
error-back errors.ContinueRecordTooShort f = refl
error-back errors.StackLen f = refl
error-back (errors.InvalidFormula stack_size) f = refl
error-back (errors.IfTab index) f = refl
error-back (errors.Etpg number) f = ap (λ n. Some (errors.Etpg n)) (mod-eq_of_lt f)
error-back (errors.InvalidFormat ifmt) f = ap (λ n. Some (errors.InvalidFormat n)) (mod-eq_of_lt f)
error-back (errors.WorksheetNotFound name) f = absurd f

-- ---- a file

-- a fault of a chain, of which any part is told
sector-back : (s : SectorFault) (part : ℕ) → FitsSector s → sector_of (record (sector_fault s) { part = part }) ≡ Some s
sector-back sectors.NotCompound part f = refl
sector-back (sectors.HeaderCut found) part f = refl
sector-back (sectors.SectorShift found) part f = ap (λ n. Some (sectors.SectorShift n)) (mod-eq_of_lt f)
sector-back (sectors.MiniSectorShift found) part f = ap (λ n. Some (sectors.MiniSectorShift n)) (mod-eq_of_lt f)
sector-back (sectors.Loop table first) part f =
    ap (table_fault (record (sector_fault (sectors.Loop table first)) { part = part })) (table-back table)
    ∙ ap (λ n. Some (sectors.Loop table n)) (mod-eq_of_lt f)
sector-back (sectors.Leaves table (Some after) number) part f =
    ap (table_fault (record (sector_fault (sectors.Leaves table (Some after) number)) { part = part })) (table-back table)
    ∙ ap (λ n. Some (sectors.Leaves table (Some n) (number % 2 ^ 32))) (mod-eq_of_lt f.0)
    ∙ ap (λ n. Some (sectors.Leaves table (Some after) n)) (mod-eq_of_lt f.1)
sector-back (sectors.Leaves table None number) part f =
    ap (table_fault (record (sector_fault (sectors.Leaves table None number)) { part = part })) (table-back table)
    ∙ ap (λ n. Some (sectors.Leaves table None n)) (mod-eq_of_lt f)
sector-back (sectors.Short table first expected found) part f =
    ap (table_fault (record (sector_fault (sectors.Short table first expected found)) { part = part })) (table-back table)
    ∙ ap (λ n. Some (sectors.Short table n expected found)) (mod-eq_of_lt f)
sector-back (sectors.Cut table sector expected found) part f =
    ap (table_fault (record (sector_fault (sectors.Cut table sector expected found)) { part = part })) (table-back table)
    ∙ ap (λ n. Some (sectors.Cut table n expected found)) (mod-eq_of_lt f)
sector-back (sectors.FatCut sector expected found) part f =
    ap (λ n. Some (sectors.FatCut n expected found)) (mod-eq_of_lt f)

entry-back : (d : DirectoryFault) → FitsDirectory d → directory_fault_numbered (directory_fault d) ≡ Some d
entry-back entries.NoRoot f = refl
entry-back (entries.Missing number) f = ap (λ n. Some (entries.Missing n)) (mod-eq_of_lt f)
entry-back (entries.Twice number) f = ap (λ n. Some (entries.Twice n)) (mod-eq_of_lt f)
entry-back (entries.Kind number kind) f =
    ap (λ n. Some (entries.Kind n (kind % 2 ^ 8))) (mod-eq_of_lt f.0) ∙ ap (λ n. Some (entries.Kind number n)) (mod-eq_of_lt f.1)
entry-back (entries.NameSize number size) f =
    ap (λ n. Some (entries.NameSize n (size % 2 ^ 16))) (mod-eq_of_lt f.0)
    ∙ ap (λ n. Some (entries.NameSize number n)) (mod-eq_of_lt f.1)

-- ---- by the ranges of codes

stream-reported : (e : XlsError) → FitsError e → refusal_of (stream_fault e) ≡ option_map (λ x. refusals.Stream x) (stream_error (stream_fault e))
stream-reported errors.Io f = refl
stream-reported (errors.TooLarge limit) f = refl
stream-reported (errors.TooManyCells limit) f = refl
stream-reported (errors.Cfb (pages.CodePageNotFound page)) f = refl
stream-reported errors.Password f = refl
stream-reported (errors.Len expected found typ) f = refl
stream-reported (errors.Unrecognized typ val) f = refl
stream-reported (errors.EoStream typ) f = refl
stream-reported errors.ContinueRecordTooShort f = refl
stream-reported errors.StackLen f = refl
stream-reported (errors.InvalidFormula stack_size) f = refl
stream-reported (errors.IfTab index) f = refl
stream-reported (errors.Etpg number) f = refl
stream-reported (errors.InvalidFormat ifmt) f = refl
stream-reported errors.Memory f = absurd f
stream-reported (errors.WorksheetNotFound name) f = absurd f

chain-reported : (c : Chain) (s : SectorFault) → refusal_of (fault_numbered (refusals.Chain c s))
    ≡ chain_refusal (chain_numbered (chain_number c)) (sector_of (record (sector_fault s) { part = chain_number c }))
chain-reported c sectors.NotCompound = refl
chain-reported c (sectors.HeaderCut found) = refl
chain-reported c (sectors.SectorShift found) = refl
chain-reported c (sectors.MiniSectorShift found) = refl
chain-reported c (sectors.Loop table first) = refl
chain-reported c (sectors.Leaves table (Some after) number) = refl
chain-reported c (sectors.Leaves table None number) = refl
chain-reported c (sectors.Short table first expected found) = refl
chain-reported c (sectors.Cut table sector expected found) = refl
chain-reported c (sectors.FatCut sector expected found) = refl

directory-reported : (d : DirectoryFault) → refusal_of (directory_fault d) ≡ option_map (λ x. refusals.Directory x) (directory_fault_numbered (directory_fault d))
directory-reported entries.NoRoot = refl
directory-reported (entries.Missing number) = refl
directory-reported (entries.Twice number) = refl
directory-reported (entries.Kind number kind) = refl
directory-reported (entries.NameSize number size) = refl

refusal-back : (r : Refusal) → FitsRefusal r → refusal_of (fault_numbered r) ≡ Some r
refusal-back refusals.Memory f = refl
refusal-back refusals.TooShort f = refl
refusal-back (refusals.NoSheet index) f = refl
refusal-back refusals.Obfuscated f = refl
refusal-back (refusals.Stream e) f = stream-reported e f ∙ ap (option_map (λ x. refusals.Stream x)) (error-back e f)
refusal-back (refusals.Kind k) f = ap (option_map (λ x. refusals.Kind x)) (kind-back k)
refusal-back refusals.NoWorkbook f = refl
refusal-back (refusals.Chain c s) f =
    chain-reported c s
    ∙ ap (λ x. chain_refusal x (sector_of (record (sector_fault s) { part = chain_number c }))) (chain-back c)
    ∙ ap (chain_refusal (Some c)) (sector-back s (chain_number c) f)
refusal-back (refusals.Directory d) f =
    directory-reported d ∙ ap (option_map (λ x. refusals.Directory x)) (entry-back d f)

-- no refusal has the code 0
no-refusal : (f : Fault) → f.code ≡ 0 → refusal_of f ≡ None
no-refusal f zeros = rw zeros refl

some-code : (r : Refusal) → FitsRefusal r → (fault_numbered r).code ≡ 0 → ⊥
some-code r f zeros = let both : None ≡ Some r = sym (no-refusal (fault_numbered r) zeros) ∙ refusal-back r f in cc

pub refusals-are-reported : RefusalsAreReported
refusals-are-reported r f = (refusal-back r f, sentence-some (fault_numbered r) r (some-code r f) (refusal-back r f))
