-- Lines of a word and fields, and what becomes of them.
use Rattle.std.specs.Prelude.{ℕ, List, Result}
use Rattle.std.specs.List.{flat_map}
use Rattle.xls_output.specs.Output.{Output}
use Rattle.xls_output.specs.declared.stop.Stop.{Stop}
use Rattle.xls_readable.specs.Items.{NamedItem}
use Rattle.xls_readable.specs.Lines.{IsLine, exact_line}
use Rattle.xls_readable.specs.declared.forms.Form.{Form}
use Rattle.xls_output.specs.Each.{PutsEach}

-- a word, and fields by their names
abbrev pub Line : Type 0
Line = List ℕ × List NamedItem

-- the text of a line in a form
abbrev pub IsLineText : Form → Line → List ℕ → Type 0
IsLineText form line out = IsLine form line.0 line.1 out

-- exact lines, one after another
abbrev pub exact_lines : List Line → List ℕ
exact_lines ls = flat_map (λ l. exact_line l.0 l.1) ls

-- ---- for the contracts of one step

-- these lines were gathered; or, where it was given up, a prefix of those of the first so many was written
abbrev pub PutsLines : {X : Type 0} → Form → List Line → Output → Output → Result X Stop → Type 0
PutsLines form lines before after result = PutsEach (IsLineText form) lines before after result
