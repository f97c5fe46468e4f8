-- What a command reads, writes and refuses, by what a source had left.
use Rattle.std.specs.Prelude.{◌≡◌, ◌≢◌, ◌⊎◌, ℕ, ◌<◌, ◌≤◌, ◌^◌, List, length, Option, Some, None, IfSome}
use Rattle.std.specs.BTreeMap.{IsOrdered}
use Rattle.std.specs.Str.{chars}
use Rattle.std.specs.String.{string_cmp}
use Rattle.std.specs.Io.KnownBytes.{IsAtEnd}
use Rattle.xls_record.specs.SourceState.{SourceState}
use Rattle.xls_record.specs.declared.error.XlsError.TheVariants.{TooLarge}
use Rattle.xls_open.specs.Workbook.{Workbook, view_named, view_of}
use Rattle.xls_meaning.specs.Reading.{BookView}
use Rattle.xls_stream.specs.Listing.{ListEntry, Carries}
use Rattle.xls_lay.specs.Writing.{canonical_bytes}
use Rattle.xls_props.specs.Properties.{IsProperties}
use Rattle.xls_props.specs.declared.properties.WorkbookProperties.{WorkbookProperties}
use Rattle.xls_refs.specs.Cited.{BookCited}
use Rattle.xls_refs.specs.Citing.{IsBookCited}
use Rattle.xls_documents.specs.Lines as documents
use Rattle.xls_documents.specs.Properties.{property_lines}
use Rattle.xls_listing.specs.Listing.{exact_lines, dump_lines, sheet_lines, ref_lines}
use Rattle.xls_report.specs.Texts.{IsFirstLine, IsRemadeText, IsUnremadeLine, IsCsvOf, IsMissingOf}
use Rattle.xls_meaning.specs.Faults.{IsSound}
use Rattle.xls_open.specs.Opening.{IsOpened, default_options, default_rules}
use Rattle.xls_report.specs.Faults.{sound_line, fault_line}
use Rattle.xls_command.specs.Summary.{summary_text}
use Rattle.xls_command.specs.declared.command.Command.{Command}
use Rattle.xls_command.specs.declared.command.Command.TheVariants.{Dump, Sheets, Props, Check, Refs, Remake, Csv, Generate}

-- ---- what a command is

-- whether it reads nothing; what it leaves of the source where it is done; the text that it writes where it is done,
-- and the line where its input is refused; and how it ends where neither source nor sink fails
pub record Spec : Type 1 where
  pub reads_nothing : Type 0
  pub has_read : SourceState → SourceState → Type 0
  pub output : Option (List ℕ) → List ℕ → Type 0
  pub refusal : Option (List ℕ) → List ℕ → Type 0
  pub ends_well : Option (List ℕ) → ℕ → Type 0

-- bytes that are refused have no output, and bytes that are accepted aren't refused
abbrev pub EndsBy : (IsAccepted IsRefused : List ℕ → Type 0) → Option (List ℕ) → ℕ → Type 0
EndsBy IsAccepted IsRefused left status = ((status ≡ 0) ⊎ (status ≡ 1) ⊎ (status ≡ 5))
    × (status ≡ 1 → IfSome left IsRefused)
    × (status ≡ 0 → IfSome left IsAccepted)

-- a command that reads all of the source: its output, the line of bytes that it refuses, and which bytes it accepts
-- and refuses
abbrev pub reading : (Option (List ℕ) → List ℕ → Type 0) → (List ℕ → List ℕ → Type 0)
    → (IsAccepted IsRefused : List ℕ → Type 0) → Spec
reading IsText IsLine IsAccepted IsRefused = record {
  reads_nothing = ⊥;
  has_read = λ was now. IsAtEnd now.left;
  output = IsText;
  refusal = λ left text. IfSome left (λ bytes. IsLine bytes text);
  ends_well = EndsBy IsAccepted IsRefused;
}

-- a command that refuses exactly the bytes that it doesn't accept
abbrev pub accepting : (List ℕ → Type 0) → (List ℕ → List ℕ → Type 0) → (Option (List ℕ) → List ℕ → Type 0) → Spec
accepting IsAccepted IsLine IsText = reading IsText IsLine IsAccepted (λ bytes. IsAccepted bytes → ⊥)

-- a command that refuses exactly bytes with a fault, by the line of their first one
abbrev pub accepting_sound : (Option (List ℕ) → List ℕ → Type 0) → Spec
accepting_sound IsText = accepting (IsSound default_rules) IsFirstLine IsText

-- a command that reads nothing and has one text
abbrev pub making : List ℕ → Spec
making sample = record {
  reads_nothing = Unit {0};
  has_read = λ was now. now ≡ was;
  output = λ left text. text ≡ sample;
  refusal = λ left text. ⊥;
  ends_well = λ left status. (status ≡ 0) ⊎ (status ≡ 5);
}

-- ---- what the commands write, accept and refuse

-- a text of the bytes that were left
abbrev pub OfBytes : (List ℕ → List ℕ → Type 0) → Option (List ℕ) → List ℕ → Type 0
OfBytes IsText left text = IfSome left (λ bytes. IsText bytes text)

-- a text of what the workbook shows that the bytes open to
abbrev pub IsOutputOf : (BookView → List ℕ) → List ℕ → List ℕ → Type 0
IsOutputOf text_of bytes text =
    (book : Workbook) × IsOpened default_options book bytes × (text ≡ text_of (view_of book))

-- either of what the workbook shows that the bytes open to
abbrev pub IsOfBook : (BookView → List ℕ → Type 0) → List ℕ → List ℕ → Type 0
IsOfBook IsOf bytes text =
    (book : Workbook) × IsOpened default_options book bytes × IsOf (view_of book) text

-- the line of bytes without a fault
abbrev pub IsSoundText : Option (List ℕ) → List ℕ → Type 0
IsSoundText left text = IfSome left (IsSound default_rules) × (text ≡ sound_line)

-- how many bytes a property stream may have
abbrev pub property_limit : ℕ
property_limit = default_options.max_bytes

-- the lines of the properties that the bytes hold as both property streams: each field that is there,
-- and each custom property once, in the byte order of their names
abbrev pub IsPropertyText : List ℕ → List ℕ → Type 0
IsPropertyText bytes text =
    (p : WorkbookProperties) × IsProperties (Some bytes) (Some bytes) p
    × IsOrdered string_cmp p.custom_properties × (text ≡ documents.exact_lines (property_lines p))

-- the same of bytes within the limit
abbrev pub IsPropertyOutput : List ℕ → List ℕ → Type 0
IsPropertyOutput bytes text = (length bytes ≤ property_limit) × IsPropertyText bytes text

-- the lines of the cells that the formulas of the bytes' workbook cite
abbrev pub IsRefsText : List ℕ → List ℕ → Type 0
IsRefsText bytes text =
    (book : BookCited) × IsBookCited default_rules bytes book × (text ≡ exact_lines (ref_lines book))

-- the line of too many bytes
abbrev pub IsLengthLine : List ℕ → List ℕ → Type 0
IsLengthLine bytes text = (property_limit < length bytes) × (text ≡ fault_line (TooLarge property_limit))

-- the line of the first fault, or of a name that no sheet has
abbrev pub IsNameLine : List ℕ → List ℕ → List ℕ → Type 0
IsNameLine name bytes text = IsFirstLine bytes text ⊎ IsOfBook (IsMissingOf name) bytes text

-- no place of the bytes has a fault, and a sheet of their workbook has this name
abbrev pub HasSheet : List ℕ → List ℕ → Type 0
HasSheet name bytes = (book : Workbook) × IsOpened default_options book bytes
    × (view_named book (chars name) ≢ None)

-- no place of the bytes has a fault, and the canonical bytes of their list have offsets of 32 bits
abbrev pub HasCanonical : List ℕ → Type 0
HasCanonical bytes = IsSound default_rules bytes
    × (list : List ListEntry) × Carries bytes list × (length (canonical_bytes list) < 2 ^ 32)

-- ---- the commands

abbrev pub spec_of : Command → Spec
spec_of Dump = accepting_sound (OfBytes (IsOutputOf (λ book. exact_lines (dump_lines book))))
spec_of Sheets = accepting_sound (OfBytes (IsOutputOf (λ book. exact_lines (sheet_lines book))))
spec_of Props = reading (OfBytes IsPropertyOutput) IsLengthLine
    (λ bytes. length bytes ≤ property_limit) (λ bytes. property_limit < length bytes)
spec_of Check = accepting_sound IsSoundText
spec_of Refs = accepting_sound (OfBytes IsRefsText)
spec_of Remake = accepting HasCanonical IsUnremadeLine (OfBytes IsRemadeText)
spec_of (Csv name) = accepting (HasSheet name.now) (IsNameLine name.now) (OfBytes (IsOfBook (IsCsvOf name.now)))
spec_of (Generate n) = making (summary_text n)

-- the text of a command that is done
abbrev pub IsOutput : Command → Option (List ℕ) → List ℕ → Type 0
IsOutput c left text = (spec_of c).output left text

-- the line of a command whose input is refused
abbrev pub IsRefusalText : Command → Option (List ℕ) → List ℕ → Type 0
IsRefusalText c left text = (spec_of c).refusal left text

-- either of them
abbrev pub MayWrite : Command → Option (List ℕ) → List ℕ → Type 0
MayWrite c left text = IsOutput c left text ⊎ IsRefusalText c left text

-- a command that is done has read all of the source, or leaves it as it was where it reads nothing
abbrev pub HasRead : Command → SourceState → SourceState → Type 0
HasRead c was now = (spec_of c).has_read was now

-- how a command ends where neither source nor sink fails
abbrev pub EndsWell : Command → Option (List ℕ) → ℕ → Type 0
EndsWell c left status = (spec_of c).ends_well left status

-- the command reads nothing
abbrev pub ReadsNothing : Command → Type 0
ReadsNothing c = (spec_of c).reads_nothing
