-- The text of a module, and the line of what is damaged.
use Rattle.std.specs.Prelude.{◌≡◌, ℕ, List, [], ◌∷◌, ◌++◌, codes}
use Rattle.xls_readable.specs.Items.{NamedItem, text, word}
use Rattle.xls_readable.specs.Lines.{IsLine}
use Rattle.xls_readable.specs.declared.forms.Form.{Form}
use Rattle.xls_readable.specs.declared.forms.Form.TheVariants.{Text, Json, Exact}
use Rattle.xls_macros.specs.Kinds.{kind_text}
use Rattle.xls_macros.specs.declared.kind.ModuleKind.{ModuleKind}

abbrev pub name_members : List ℕ → List NamedItem
name_members name = (codes "name", text name) ∷ []

abbrev pub module_members : ModuleKind → List ℕ → List ℕ → List NamedItem
module_members kind name source =
    (codes "name", text name) ∷ (codes "kind", word (kind_text kind)) ∷ (codes "source", text source) ∷ []

-- a line `module` with its name, and the source behind it; or an object with its name, its kind and the source
abbrev pub IsSourceText : Form → ModuleKind → List ℕ → List ℕ → List ℕ → Type 0
IsSourceText Json kind name source out = IsLine Json (codes "module") (module_members kind name source) out
IsSourceText Text kind name source out = (line : List ℕ) × IsLine Text (codes "module") (name_members name) line × (out ≡ line ++ source)
IsSourceText Exact kind name source out = (line : List ℕ) × IsLine Exact (codes "module") (name_members name) line × (out ≡ line ++ source)

-- what is damaged, its name, and what is wrong
abbrev pub damaged_members : List ℕ → List ℕ → List ℕ → List NamedItem
damaged_members what name why = (codes "what", word what) ∷ (codes "name", text name) ∷ (codes "why", text why) ∷ []

abbrev pub IsDamagedText : Form → List ℕ → List ℕ → List ℕ → List ℕ → Type 0
IsDamagedText form what name why out = IsLine form (codes "damaged") (damaged_members what name why) out
