-- Known values, so that a wrong rule in the specs does not check.
use Rattle.std.proofs.Common.{◌≡◌, ℕ, List, [], ◌∷◌, map, codes, true, false, refl}
use Rattle.xls_readable.specs.Items.{NamedItem, text, count}
use Rattle.xls_readable.specs.Lines.{text_members}
use Rattle.xls_readable.specs.declared.properties.Property.TheVariants as property
use Rattle.xls_vba.specs.Modules.{Mod}
use Rattle.xls_vba.specs.Directory.{Project}
use Rattle.xls_documents.specs.Lines.{Line}
use Rattle.xls_documents.specs.Properties.{property_line}
use Rattle.xls_documents.specs.PropertyStreams.{SUMMARY, DOCUMENT}
use Rattle.xls_documents.specs.Projects.{lines_by}
use Rattle.xls_documents.specs.Streams.{path_text}
use Rattle.xls_documents.specs.MacroDirectory.{is_directory_path}
use Rattle.xls_documents.specs.Texts.{fault_text}
use Rattle.xls_documents.specs.declared.fault.ProjectFault.TheVariants as faults
use Rattle.xls_container.specs.declared.fault.FileFault.TheVariants as files

abbrev line : List ℕ → List NamedItem → Line
line word members = (word, members)

pub author : property_line property.LastModifiedBy (codes "Ada") ≡ line (codes "last_modified_by") (text_members (codes "Ada"))
author = refl

-- the names of the property streams begin with 05
pub names : SUMMARY ∷ DOCUMENT ∷ [] ≡ codes "\u{5}SummaryInformation" ∷ codes "\u{5}DocumentSummaryInformation" ∷ []
names = refl

-- two modules of one name: the last is told, and names without a module have no line
abbrev sheet : ℕ → Mod
sheet offset = record { name = codes "Sheet1"; stream_name = codes "Sheet1"; text_offset = offset }

abbrev project : Project
project = record {
  references = record { name = codes "stdole"; description = codes "OLE Automation"; path = codes "stdole2.tlb" } ∷ [];
  modules = sheet 100 ∷ sheet 200 ∷ [];
}

pub reported : lines_by project (codes "Sheet1" ∷ codes "Sheet2" ∷ []) ≡
    line (codes "reference") ((codes "name", text (codes "stdole")) ∷ (codes "description", text (codes "OLE Automation"))
    ∷ (codes "path", text (codes "stdole2.tlb")) ∷ [])
    ∷ line (codes "module") ((codes "name", text (codes "Sheet1")) ∷ (codes "stream", text (codes "Sheet1")) ∷ (codes "offset", count 200) ∷ []) ∷ []
reported = refl

pub paths : map path_text ([] ∷ (codes "Workbook" ∷ []) ∷ (codes "_VBA_PROJECT_CUR" ∷ codes "VBA" ∷ codes "dir" ∷ []) ∷ [])
    ≡ [] ∷ codes "Workbook" ∷ codes "_VBA_PROJECT_CUR/VBA/dir" ∷ []
paths = refl

-- the last two names, in either case
pub directories : map is_directory_path ((codes "_VBA_PROJECT_CUR" ∷ codes "VBA" ∷ codes "dir" ∷ []) ∷ (codes "vba" ∷ codes "DIR" ∷ [])
    ∷ (codes "dir" ∷ []) ∷ [] ∷ (codes "VBA" ∷ codes "dir" ∷ codes "x" ∷ []) ∷ (codes "VBA" ∷ codes "PROJECT" ∷ []) ∷ (codes "Macros" ∷ codes "dir" ∷ []) ∷ [])
    ≡ true ∷ true ∷ false ∷ false ∷ false ∷ false ∷ false ∷ []
directories = refl

pub refusals : map fault_text (faults.File files.NoWorkbook ∷ faults.Memory ∷ []) ≡ codes "it has no stream Workbook or Book" ∷ codes "Out of memory" ∷ []
refusals = refl
