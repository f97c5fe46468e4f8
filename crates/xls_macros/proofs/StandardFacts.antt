-- Known values, so that a wrong rule in the specs does not check.
use Rattle.std.proofs.Common.{◌≡◌, ℕ, List, [], ◌∷◌, map, codes, refl}
use Rattle.xls_macros.specs.Kinds.{Named, ending_text, entries_in, kind_in, kind_text}
use Rattle.xls_macros.specs.Macros.{listing_path}
use Rattle.xls_macros.specs.Newlines.{with_newlines}
use Rattle.xls_macros.specs.declared.kind.ModuleKind.{ModuleKind}
use Rattle.xls_macros.specs.declared.kind.ModuleKind.TheVariants.{Module, Class, Document, Form}

-- CR LF, CR, LF, two CR, and a last line without an end
pub line_ends : map with_newlines (codes "a\r\nb\rc\nd\r\r\n\ne" ∷ codes "x\n" ∷ codes "\n\r" ∷ [] ∷ [])
    ≡ codes "a\nb\nc\nd\n\n\ne\n" ∷ codes "x\n" ∷ codes "\n\n" ∷ [] ∷ []
line_ends = refl

abbrev entry : ModuleKind → List ℕ → Named
entry kind name = (kind, name)

-- the lines of a project of Excel, as [MS-OVBA] 3.1.1 has them
abbrev listing : List ℕ
listing = codes "ID=\"{917DED54-440B-4FD1-A5C1-74ACF261E600}\"\nDocument=ThisWorkbook/&H00000000\nmodule=Module1\nClass=Class1\nBaseClass=UserForm1\nName=\"VBAProject\"\n\n[Host Extender Info]\n[Workspace]\nModule1=25, 25, 1439, 639, \n"

pub named : entries_in listing
    ≡ entry Document (codes "ThisWorkbook") ∷ entry Module (codes "Module1") ∷ entry Class (codes "Class1") ∷ entry Form (codes "UserForm1") ∷ []
named = refl

-- in either case; the first of a name; one that isn't named
pub kinds : map (kind_in (entries_in listing)) (codes "THISWORKBOOK" ∷ codes "Class1" ∷ codes "userform1" ∷ codes "Sheet1" ∷ [])
    ≡ Document ∷ Class ∷ Form ∷ Module ∷ []
kinds = refl

pub first_of_a_name : kind_in (entry Class (codes "A") ∷ entry Form (codes "a") ∷ []) (codes "a") ≡ Class
first_of_a_name = refl

pub words : map kind_text (Module ∷ Class ∷ Document ∷ Form ∷ []) ≡ codes "module" ∷ codes "class" ∷ codes "document" ∷ codes "form" ∷ []
words = refl

pub endings : map ending_text (Module ∷ Class ∷ Document ∷ Form ∷ []) ≡ codes "bas" ∷ codes "cls" ∷ codes "cls" ∷ codes "frm" ∷ []
endings = refl

-- beside the storage of the directory: in a storage of a workbook, and in the root ([MS-OVBA] 2.2.1 Project Root Storage)
pub listing_paths : map listing_path ((codes "_VBA_PROJECT_CUR" ∷ codes "VBA" ∷ []) ∷ (codes "VBA" ∷ []) ∷ [])
    ≡ (codes "_VBA_PROJECT_CUR" ∷ codes "PROJECT" ∷ []) ∷ (codes "PROJECT" ∷ []) ∷ []
listing_paths = refl
