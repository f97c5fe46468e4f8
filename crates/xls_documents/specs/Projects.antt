-- The lines of a macro project.
use Rattle.std.specs.Prelude.{◌≡◌, ◌⊎◌, ℕ, List, [], ◌∷◌, ◌++◌, map, codes, Option, Some, None, Result, MatchResult}
use Rattle.std.specs.List.{flat_map}
use Rattle.xls_output.specs.SinkState.{SinkState}
use Rattle.xls_output.specs.declared.stop.Stop.{Stop}
use Rattle.xls_output.specs.Each.{WroteEach, StopsEach}
use Rattle.xls_readable.specs.Items.{text, count}
use Rattle.xls_readable.specs.declared.forms.Form.{Form}
use Rattle.xls_vba.specs.References.{Ref}
use Rattle.xls_vba.specs.Modules.{Mod}
use Rattle.xls_vba.specs.Directory.{Project}
use Rattle.xls_vba.specs.Project.{last_module, AreNames}
use Rattle.xls_documents.specs.Lines.{Line, IsLineText}

-- name, description and path
abbrev pub reference_line : Ref → Line
reference_line r = (
  codes "reference",
  (codes "name", text r.name) ∷ (codes "description", text r.description) ∷ (codes "path", text r.path) ∷ [],
)

-- name, name of the stream, and where the source begins in that stream
abbrev pub module_line : Mod → Line
module_line m = (
  codes "module",
  (codes "name", text m.name) ∷ (codes "stream", text m.stream_name) ∷ (codes "offset", count m.text_offset) ∷ [],
)

abbrev pub lines_if_found : Option Mod → List Line
lines_if_found None = []
lines_if_found (Some m) = module_line m ∷ []

-- the line of the last module of a name
abbrev pub named_lines : List Mod → List ℕ → List Line
named_lines modules name = lines_if_found (last_module name modules)

-- the references in the order of the directory, then for each of these names the last module of that name
abbrev pub lines_by : Project → List (List ℕ) → List Line
lines_by project names = map reference_line project.references ++ flat_map (named_lines project.modules) names

-- the same by all names of modules, in the order of their bytes
pub record AreProjectLines (project : Project) (lines : List Line) : Type 0 where
  pub names : List (List ℕ)
  pub ordered : AreNames project.modules names
  pub whole : lines ≡ lines_by project names

-- all lines were written
abbrev pub WroteProject : Form → Project → SinkState → SinkState → Type 0
WroteProject form project before after =
    (lines : List Line) × AreProjectLines project lines × WroteEach (IsLineText form) lines before after

-- a prefix of them was written; or of none, where memory ran out before the first
abbrev pub StopsProject : Form → Project → SinkState → SinkState → Stop → Type 0
StopsProject form project before after e =
    (lines : List Line) × (AreProjectLines project lines ⊎ (lines ≡ [])) × StopsEach (IsLineText form) lines before after e

abbrev pub DeliversProject : {X : Type 0} → Form → Project → SinkState → SinkState → Result X Stop → Type 0
DeliversProject form project before after result =
    MatchResult result (λ _. WroteProject form project before after) (StopsProject form project before after)
