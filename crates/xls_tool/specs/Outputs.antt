-- The files that are made below a folder.
use Rattle.std.specs.Prelude.{◌≡◌, ◌⊎◌, ℕ, Bool, true, false, List, [], Option, Some, None, IfSome, Ok}
use Rattle.xls_answers.specs.HiddenParts.{SkipsBy}
use Rattle.xls_answers.specs.Sheets.{WritesSheetAt}
use Rattle.xls_hidden.specs.Hidden.{Hidden}
use Rattle.xls_answers.specs.declared.answer.Answer.{Answer}
use Rattle.xls_answers.specs.declared.answer.Answer.TheVariants as answers
use Rattle.xls_answers.specs.Views.{options_under}
use Rattle.xls_container.specs.Files.{Container}
use Rattle.xls_data.specs.declared.sheets.SheetType.{SheetType}
use Rattle.xls_data.specs.declared.sheets.SheetType.TheVariants as types
use Rattle.xls_files.specs.Files.{AreAllowed, HostFiles, Placed, part_path}
use Rattle.xls_files.specs.Paths.{IsInside}
use Rattle.xls_macros.specs.Macros.{HasMacros, IsModuleSource, Macros}
use Rattle.xls_open.specs.Workbook.{rules_of}
use Rattle.xls_open.specs.declared.options.XlsOptions.{XlsOptions}
use Rattle.xls_output.specs.Gathering.{Wrote}
use Rattle.xls_output.specs.SinkState.{SinkState}
use Rattle.xls_readable.specs.declared.forms.Form.TheVariants.{Text}
use Rattle.xls_tool.specs.Asked.{asked_by}
use Rattle.xls_tool.specs.Beside.{OfContainer}
use Rattle.xls_tool.specs.Texts.{OfWorkbook}
use Rattle.xls_tool.specs.declared.job.Asked.{Asked}
use Rattle.xls_tool.specs.declared.job.Asked.TheVariants.{Workbook, Other}
use Rattle.xls_tool.specs.declared.job.Beside.{Beside}
use Rattle.xls_tool.specs.declared.job.Beside.TheVariants as beside
use Rattle.xls_vba.specs.Modules.{Mod}
use Rattle.xls_vba.specs.Project.{last_module}
use Rattle.xls_view.specs.Viewing.{Viewed, IsViewed}
use Rattle.xls_words.specs.Requests.{IsAsked, IsNamedFolder, is_exact, word_of}
use Rattle.xls_words.specs.declared.request.Folder.{Folder}
use Rattle.xls_words.specs.declared.request.Request.{Request}

-- ---- which files

-- a file inside the folder; one that exists is written over only where that is asked for
abbrev pub MayMake : Option Folder → List ℕ → Bool → Type 0
MayMake None path over = ⊥
MayMake (Some folder) path over = IsInside folder.path.now path × (over ≡ true → folder.writes_over ≡ true)

-- the part of a file inside the folder
abbrev pub MayBegin : Option Folder → List ℕ → Type 0
MayBegin None part = ⊥
MayBegin (Some folder) part = (path : List ℕ) × IsInside folder.path.now path × (part ≡ part_path path)

-- ---- what they hold

-- before the first write
abbrev pub unwritten : SinkState
unwritten = record { written = Some []; faults = 0; takes = λ n. ⊥ }

-- each worksheet and each macro sheet has a file, where all are asked for
abbrev pub is_table : SheetType → Bool
is_table types.WorkSheet = true
is_table types.MacroSheet = true
is_table types.DialogSheet = false
is_table types.ChartSheet = false
is_table types.Vba = false

abbrev pub TakesAll : Option Folder → Type 0
TakesAll None = ⊥
TakesAll (Some folder) = folder.takes_all_sheets ≡ true

-- the cells of one sheet of a workbook's stream
abbrev pub HoldsSheet : Answer → XlsOptions → List ℕ → SinkState → Type 0
HoldsSheet (answers.Sheet choice table sight) options stream state =
    (view : Viewed) × IsViewed (rules_of options) stream view × (n : ℕ)
    × (hidden : Option Hidden) × SkipsBy sight options stream view n hidden × WritesSheetAt table hidden view n unwritten state (Ok tt)
HoldsSheet other options stream state = ⊥

-- a source of the macro project of an opened file
abbrev pub IsSourceIn : Container → List ℕ → Type 0
IsSourceIn container source = (macros : Macros) × (name : List ℕ) × (m : Mod) × HasMacros container (Some macros)
    × (last_module name macros.project.modules ≡ Some m) × IsModuleSource macros m source

-- the source of one module, where sources are asked for as text
abbrev pub HoldsSource : Beside → Container → SinkState → Type 0
HoldsSource (beside.Macros Text) container state = (source : List ℕ) × IsSourceIn container source × Wrote unwritten state source
HoldsSource other container state = ⊥

-- the whole text that else is written to standard output; or one of its sheets, where all are asked for, or of its modules
abbrev pub HoldsText : Option Folder → Asked → XlsOptions → SinkState → Type 0
HoldsText out (Workbook answer) options state =
    (stream : List ℕ) × (OfWorkbook answer options stream unwritten state (Ok tt)
    ⊎ (TakesAll out × HoldsSheet answer options stream state))
HoldsText out (Other beside) options state =
    (container : Container) × (OfContainer beside container unwritten state (Ok tt) ⊎ HoldsSource beside container state)

-- ---- both

-- such a file, and the whole text in it
abbrev pub IsOutput : {F : Type 0} → Bool → (F → SinkState) → Request → XlsOptions → Placed F → Type 0
IsOutput tells state request options placed =
    MayMake request.out placed.path placed.over
    × (tells ≡ true → HoldsText request.out (asked_by request.command) options (state placed.file))

-- only parts of such files are begun, and only such ones are given their paths, as far as the host tells of them: each
-- other path has what it had before, or a whole text (`IsOldOrWhole`)
abbrev pub AreOutputs : {F : Type 0} → Bool → (F → SinkState) → Request → XlsOptions → HostFiles F → Type 0
AreOutputs tells state request options = AreAllowed (MayBegin request.out) (IsOutput tells state request options)

-- they are after it, if they were before
abbrev pub KeepsOutputs : {F : Type 0} → Bool → (F → SinkState) → Request → XlsOptions → HostFiles F → HostFiles F → Type 0
KeepsOutputs tells state request options before after =
    AreOutputs tells state request options before → AreOutputs tells state request options after

-- ---- of words

-- a request for which the words may stand
pub record MayAsk (words : List (List ℕ)) (request : Request) : Type 0 where
  pub command : IsAsked words (word_of request.command)
  pub out : IfSome request.out (IsNamedFolder words)

-- no file is made; or those of such a request
abbrev pub KeepsNamedOutputs : {F : Type 0} → Bool → (F → SinkState) → List (List ℕ) → HostFiles F → HostFiles F → Type 0
KeepsNamedOutputs tells state words before after =
    (after ≡ before)
    ⊎ ((request : Request) × MayAsk words request
    × KeepsOutputs tells state request (options_under request.page (is_exact request.command)) before after)
