-- A defined name as contracts see it.
use Rattle.std.specs.Prelude.{ℕ, List}
use Rattle.xls_strings.specs.Texts.{text_of}
use Rattle.xls_formula.specs.declared.names.NameEntry.{NameEntry}

-- the name, and the text of what it names
abbrev pub named : NameEntry → List ℕ × List ℕ
named entry = (text_of entry.name, text_of entry.text)
