-- What a SupBook ([MS-XLS] 2.4.271), or before BIFF8 an ExternSheet, refers to. Texts are lists of characters.
use Rattle.std.specs.Prelude.{ℕ, List, [], map}
use Rattle.xls_strings.specs.Texts.{text_of}
use Rattle.xls_formula_books.specs.declared.sources.Kind.{Kind}
use Rattle.xls_formula_books.specs.declared.sources.Kind.TheVariants as kinds
use Rattle.xls_formula_books.specs.declared.sources.Source.{Source as SourceFields}
use Rattle.xls_formula_books.specs.ExternNames.{Name, name_view}

-- the folder and the file of another workbook, or a program and its topic; its sheets, and its names
pub record Source : Type 0 where
  pub kind : Kind
  pub dir : List ℕ
  pub file : List ℕ
  pub app : List ℕ
  pub topic : List ℕ
  pub sheets : List (List ℕ)
  pub names : List Name

abbrev pub bare : Kind → Source
bare kind = record { kind = kind; dir = []; file = []; app = []; topic = []; sheets = []; names = [] }

abbrev pub program : List ℕ → List ℕ → Source
program app topic = record { kind = kinds.Program; dir = []; file = []; app = app; topic = topic; sheets = []; names = [] }

abbrev pub workbook : List ℕ → List ℕ → Source
workbook dir file = record { kind = kinds.Workbook; dir = dir; file = file; app = []; topic = []; sheets = []; names = [] }

abbrev pub with_sheets : List (List ℕ) → Source → Source
with_sheets sheets s = record {
  kind = s.kind;
  dir = s.dir;
  file = s.file;
  app = s.app;
  topic = s.topic;
  sheets = sheets;
  names = s.names;
}

abbrev pub with_names : List Name → Source → Source
with_names names s = record {
  kind = s.kind;
  dir = s.dir;
  file = s.file;
  app = s.app;
  topic = s.topic;
  sheets = s.sheets;
  names = names;
}

-- ---- for the contracts

abbrev pub source_view : SourceFields → Source
source_view s = record {
  kind = s.kind;
  dir = text_of s.dir;
  file = text_of s.file;
  app = text_of s.app;
  topic = text_of s.topic;
  sheets = map text_of s.sheets.items;
  names = map name_view s.names.items;
}

abbrev pub sources_view : List SourceFields → List Source
sources_view sources = map source_view sources
