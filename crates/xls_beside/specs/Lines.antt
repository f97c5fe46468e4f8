-- The lines of what stands beside the values of a workbook: a word, and members in their order. Texts stand in UTF-8.
use Rattle.std.specs.Prelude.{ℕ, List, [], ◌∷◌, codes, Option, Some, None, Result, encode_utf8_all}
use Rattle.xls_data.specs.Sheets.{SheetContent}
use Rattle.xls_output.specs.Output.{Output}
use Rattle.xls_output.specs.declared.stop.Stop.{Stop}
use Rattle.xls_output.specs.Each.{PutsEach}
use Rattle.xls_readable.specs.Items.{FieldItem, NamedItem, count, text, unknown, word}
use Rattle.xls_readable.specs.Lines.{IsLine, sheet_members}
use Rattle.xls_readable.specs.declared.forms.Form.{Form}

pub record Line : Type 0 where
  pub word : List ℕ
  pub members : List NamedItem

abbrev pub line : List ℕ → List NamedItem → Line
line w members = record { word = w; members = members }

-- the text of a line in a form
abbrev pub IsLineText : Form → Line → List ℕ → Type 0
IsLineText form l out = IsLine form l.word l.members out

-- a text, by its characters
abbrev pub characters : List ℕ → FieldItem
characters cs = text (encode_utf8_all cs)

-- a row or a column that may not be known
abbrev pub known : Option ℕ → FieldItem
known None = unknown
known (Some n) = count n

-- a sheet
abbrev pub sheet : SheetContent → Line
sheet s = line (codes "sheet") (sheet_members (encode_utf8_all s.name) s.typ s.visible)

-- a damaged record: its name, the place of its header in the stream, row and column where they are known, and what is
-- wrong
abbrev pub damaged : List ℕ → ℕ → Option ℕ → Option ℕ → List ℕ → Line
damaged name offset row column why = line (codes "damaged") (
    (codes "record", word name) ∷ (codes "offset", count offset) ∷ (codes "row", known row) ∷ (codes "column", known column)
    ∷ (codes "why", word why) ∷ []
    )

-- ---- for the contracts of one step

-- these lines were gathered; or, where it was given up, a prefix of those of the first so many was written
abbrev pub PutsLines : {X : Type 0} → Form → List Line → Output → Output → Result X Stop → Type 0
PutsLines form lines before after result = PutsEach (IsLineText form) lines before after result
