-- The text of a macro project: its modules one after another, by the order of their names.
use Rattle.std.specs.Prelude.{◌≡◌, ◌⊎◌, ℕ, List, [], ◌∷◌, ◌++◌, map, codes, false, Option, Some, None, Result, MatchResult}
use Rattle.xls_compound.specs.Errors.{error_text}
use Rattle.xls_compound.specs.declared.error.CompoundError.{CompoundError}
use Rattle.xls_output.specs.SinkState.{SinkState}
use Rattle.xls_output.specs.declared.stop.Stop.{Stop}
use Rattle.xls_output.specs.Each.{StopsEach, WroteEach}
use Rattle.xls_readable.specs.declared.forms.Form.{Form}
use Rattle.xls_vba.specs.Modules.{Mod}
use Rattle.xls_vba.specs.Project.{AreNames, last_module}
use Rattle.xls_macros.specs.Kinds.{kind_in}
use Rattle.xls_macros.specs.Macros.{IsModuleSource, Macros, RefusesModule, is_memory}
use Rattle.xls_macros.specs.ModuleTexts.{IsDamagedText, IsSourceText}
use Rattle.xls_macros.specs.Texts.{fault_text}
use Rattle.xls_macros.specs.declared.fault.ModuleFault.{ModuleFault}

-- ---- of one module

-- a module whose source is read, or else a line in its place with its fault
abbrev pub IsReadText : Form → Macros → Mod → List ℕ → Type 0
IsReadText form macros m out =
    ((source : List ℕ) × IsModuleSource macros m source × IsSourceText form (kind_in macros.named m.name) m.name source out)
    ⊎ ((fault : ModuleFault) × (is_memory fault ≡ false) × RefusesModule macros m fault
    × IsDamagedText form (codes "module") m.name (fault_text fault) out)

-- ---- of all

-- what is told of: why the stream `PROJECT` isn't read, or the last module of a name
pub data Part : Type 0 where
  unread_listing : CompoundError → Part
  module_named : List ℕ → Part

abbrev pub IsPartText : Form → Macros → Part → List ℕ → Type 0
IsPartText form macros (unread_listing error) out = IsDamagedText form (codes "stream") (codes "PROJECT") (error_text error) out
IsPartText form macros (module_named name) out =
    (m : Mod) × (last_module name macros.project.modules ≡ Some m) × IsReadText form macros m out

abbrev pub listing_parts : Option CompoundError → List Part
listing_parts None = []
listing_parts (Some error) = unread_listing error ∷ []

-- what is told of a project whose modules have these names
abbrev pub macro_lines : Macros → List (List ℕ) → List Part
macro_lines macros names = listing_parts macros.damage ++ map module_named names

-- by all names of modules, in the order of their bytes
pub record AreMacroLines (macros : Macros) (parts : List Part) : Type 0 where
  pub names : List (List ℕ)
  pub ordered : AreNames macros.project.modules names
  pub whole : parts ≡ macro_lines macros names

-- all was written
abbrev pub WroteMacros : Form → Macros → SinkState → SinkState → Type 0
WroteMacros form macros before after =
    (parts : List Part) × AreMacroLines macros parts × WroteEach (IsPartText form macros) parts before after

-- a prefix of it was written; or nothing, where memory ran out before
abbrev pub StopsMacros : Form → Macros → SinkState → SinkState → Stop → Type 0
StopsMacros form macros before after e =
    (parts : List Part) × (AreMacroLines macros parts ⊎ (parts ≡ [])) × StopsEach (IsPartText form macros) parts before after e

abbrev pub DeliversMacros : {X : Type 0} → Form → Macros → SinkState → SinkState → Result X Stop → Type 0
DeliversMacros form macros before after result =
    MatchResult result (λ _. WroteMacros form macros before after) (StopsMacros form macros before after)
