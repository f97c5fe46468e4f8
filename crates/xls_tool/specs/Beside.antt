-- What is written of what stands beside the workbook in a file.
use Rattle.std.specs.Prelude.{◌≡◌, ◌⊎◌, ℕ, List, Some, None, Result, Ok, Err, true}
use Rattle.std.specs.List.{slice_get}
use Rattle.xls_compound.specs.Items.{Item, find_from}
use Rattle.xls_compound.specs.Compound.{Compound, ItemBytes, RefusesItem}
use Rattle.xls_compound.specs.Entries.{entries_from}
use Rattle.xls_compound.specs.declared.error.CompoundError.{CompoundError}
use Rattle.xls_container.specs.Files.{Container, OpensContainer, RefusesToOpen, compound_in, fault_of}
use Rattle.xls_container.specs.declared.fault.FileFault.{FileFault}
use Rattle.xls_props.specs.declared.properties.WorkbookProperties.{WorkbookProperties}
use Rattle.xls_vba.specs.Directory.{Project}
use Rattle.xls_output.specs.Each.{DeliversEach}
use Rattle.xls_documents.specs.Lines.{IsLineText}
use Rattle.xls_documents.specs.MacroDirectory.{HasProject, RefusesProject}
use Rattle.xls_documents.specs.Projects.{DeliversProject}
use Rattle.xls_documents.specs.Properties.{property_lines}
use Rattle.xls_documents.specs.PropertyStreams.{HasProperties, RefusesInFile}
use Rattle.xls_documents.specs.Streams.{IsEntryText}
use Rattle.xls_documents.specs.declared.fault.ProjectFault.{ProjectFault}
use Rattle.xls_macros.specs.Lines.{DeliversMacros}
use Rattle.xls_macros.specs.Macros.{HasMacros, Macros}
use Rattle.xls_output.specs.SinkState.{SinkState}
use Rattle.xls_output.specs.declared.stop.Stop.{Stop}
use Rattle.xls_output.specs.declared.stop.Stop.TheVariants.{Memory}
use Rattle.xls_readable.specs.declared.forms.Form.{Form}
use Rattle.xls_readable.specs.declared.forms.Form.TheVariants.{Text}
use Rattle.xls_report.specs.Endings.{IsUntouched}
use Rattle.xls_answers.specs.Answers.{OfBytes}
use Rattle.xls_answers.specs.Failures.{failure_of_fault}
use Rattle.xls_answers.specs.declared.failure.Failure.{Failure}
use Rattle.xls_answers.specs.declared.failure.Failure.TheVariants as failures
use Rattle.xls_files.specs.Paths.{names_in}
use Rattle.xls_tool.specs.Problems.{problem_of_project}
use Rattle.xls_tool.specs.declared.job.Beside.{Beside}
use Rattle.xls_tool.specs.declared.job.Beside.TheVariants as asked
use Rattle.xls_tool.specs.declared.problem.Absent.TheVariants as absent
use Rattle.xls_tool.specs.declared.problem.Problem.{Problem}
use Rattle.xls_tool.specs.declared.problem.Problem.TheVariants as problems

-- ---- how writing went, and that there is nothing to write

-- why a text isn't written, as a file's problem
abbrev pub as_problem : Result (Unit {0}) Failure → Result (Unit {0}) Problem
as_problem (Ok x) = Ok x
as_problem (Err f) = Err (problems.Failure f)

abbrev pub as_failure : Result (Unit {0}) Stop → Result (Unit {0}) Failure
as_failure (Ok x) = Ok x
as_failure (Err s) = Err (failures.Stopped s)

-- lines that are written, or why not
abbrev pub Delivered : (Result (Unit {0}) Stop → Type 0) → Result (Unit {0}) Problem → Type 0
Delivered Delivers result = (done : Result (Unit {0}) Stop) × Delivers done × (result ≡ as_problem (as_failure done))

-- nothing is written, for this reason
abbrev pub IsRefused : Problem → SinkState → SinkState → Result (Unit {0}) Problem → Type 0
IsRefused p before after result = (result ≡ Err p) × IsUntouched before after

-- ---- of an opened file

-- the lines of its properties; or it has none, or the first fault of their streams
abbrev pub OfProperties : Container → SinkState → SinkState → Result (Unit {0}) Problem → Type 0
OfProperties container before after result =
    ((properties : WorkbookProperties) × HasProperties container (Some properties)
    × Delivered (DeliversEach (IsLineText Text) (property_lines properties) before after) result)
    ⊎ ((HasProperties container None × IsRefused (problems.Absent absent.Properties) before after result)
    ⊎ ((fault : FileFault) × RefusesInFile container fault
    × IsRefused (problems.Failure (failure_of_fault fault)) before after result))

-- the lines of its macro project; or it has none, or the first fault of its directory
abbrev pub OfProject : Container → SinkState → SinkState → Result (Unit {0}) Problem → Type 0
OfProject container before after result =
    ((project : Project) × HasProject container (Some project) × Delivered (DeliversProject Text project before after) result)
    ⊎ ((HasProject container None × IsRefused (problems.Absent absent.Project) before after result)
    ⊎ ((fault : ProjectFault) × RefusesProject container fault × IsRefused (problem_of_project fault) before after result))

-- the sources of its macro project; or as of the project's lines
abbrev pub OfMacros : Form → Container → SinkState → SinkState → Result (Unit {0}) Problem → Type 0
OfMacros form container before after result =
    ((macros : Macros) × HasMacros container (Some macros) × Delivered (DeliversMacros form macros before after) result)
    ⊎ ((HasMacros container None × IsRefused (problems.Absent absent.Project) before after result)
    ⊎ ((fault : ProjectFault) × RefusesProject container fault × IsRefused (problem_of_project fault) before after result))

-- the lines of its streams; or it is a workbook's stream alone
abbrev pub OfStreams : Container → SinkState → SinkState → Result (Unit {0}) Problem → Type 0
OfStreams container before after result =
    ((compound : Compound) × (compound_in container ≡ Some compound)
    × Delivered (DeliversEach (IsEntryText Text) (entries_from compound.listing 0) before after) result)
    ⊎ ((compound_in container ≡ None) × IsRefused (problems.Absent absent.Compound) before after result)

-- a path leads to this item, and it is a stream
pub record IsStreamAt (compound : Compound) (path : List ℕ) (item : Item) : Type 0 where
  pub place : ℕ
  pub is_found : find_from compound.listing.items None (names_in path) ≡ Some place
  pub is_item : slice_get compound.listing.items place ≡ Some item
  pub is_stream : item.is_stream ≡ true

-- the bytes of the stream of a path; or there is no such stream, or the first fault of its chain; unless memory ran out
abbrev pub OfStreamIn : List ℕ → Compound → SinkState → SinkState → Result (Unit {0}) Problem → Type 0
OfStreamIn path compound before after result =
    ((item : Item) × (bytes : List ℕ) × IsStreamAt compound path item × ItemBytes compound item (Ok bytes)
    × (done : Result (Unit {0}) Failure) × OfBytes bytes before after done × (result ≡ as_problem done))
    ⊎ ((((item : Item) → IsStreamAt compound path item → ⊥) × IsRefused (problems.Absent absent.Stream) before after result)
    ⊎ (((item : Item) × (error : CompoundError) × IsStreamAt compound path item × RefusesItem compound item error
    × IsRefused (problems.Failure (failure_of_fault (fault_of error))) before after result)
    ⊎ IsRefused (problems.Failure (failures.Stopped Memory)) before after result))

-- the same, or it is a workbook's stream alone
abbrev pub OfStreamAt : List ℕ → Container → SinkState → SinkState → Result (Unit {0}) Problem → Type 0
OfStreamAt path container before after result =
    ((compound : Compound) × (compound_in container ≡ Some compound) × OfStreamIn path compound before after result)
    ⊎ ((compound_in container ≡ None) × IsRefused (problems.Absent absent.Compound) before after result)

abbrev pub OfContainer : Beside → Container → SinkState → SinkState → Result (Unit {0}) Problem → Type 0
OfContainer asked.Properties = OfProperties
OfContainer asked.Project = OfProject
OfContainer (asked.Macros form) = OfMacros form
OfContainer (asked.Stream path) = OfStreamAt path.now
OfContainer asked.Streams = OfStreams

-- ---- of a file

-- what an opened file holds; or the file isn't opened
abbrev pub OfBeside : Beside → List ℕ → SinkState → SinkState → Result (Unit {0}) Problem → Type 0
OfBeside beside file before after result =
    ((container : Container) × OpensContainer file container × OfContainer beside container before after result)
    ⊎ ((fault : FileFault) × RefusesToOpen file fault × IsRefused (problems.Failure (failure_of_fault fault)) before after result)
