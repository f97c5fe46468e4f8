-- What a path refers to ([MS-XLS] VirtualPath).
use Rattle.std.specs.Prelude.{ℕ, List, [], ◌∷◌, ◌||◌, ◌==◌, if◌then◌else◌, Option, Some, None}
use Rattle.std.specs.Option.{option_map}
use Rattle.xls_formula_names.specs.Links.{link_of}
use Rattle.xls_formula_names.specs.Paths.{path_of}
use Rattle.xls_formula_books.specs.declared.sources.Kind.{Kind}
use Rattle.xls_formula_books.specs.declared.sources.Kind.TheVariants as kinds
use Rattle.xls_formula_books.specs.declared.sources.Source.{Source as SourceFields}
use Rattle.xls_formula_books.specs.Sources.{Source, bare, program, source_view, workbook}

abbrev pub alone : List ℕ → Option ℕ
alone [] = None
alone (c ∷ []) = Some c
alone (c ∷ d ∷ cs) = None

-- 00 or 02 alone is this workbook, a blank alone added functions
abbrev pub kind_of : ℕ → Option Kind
kind_of c = if c == 0 || c == 2 then Some kinds.This else if c == 0x20 then Some kinds.Functions else None

abbrev pub kind_if : Option ℕ → Option Kind
kind_if None = None
kind_if (Some c) = kind_of c

abbrev pub kind_alone : List ℕ → Option Kind
kind_alone path = kind_if (alone path)

-- a program and its topic have 03 between them
abbrev pub by_link : Option (List ℕ × List ℕ) → Option Source
by_link None = None
by_link (Some x) = Some (program x.0 x.1)

abbrev pub by_kind : Option Kind → List ℕ → Option Source
by_kind (Some kind) path = Some (bare kind)
by_kind None path = by_link (link_of path)

abbrev pub other_source : List ℕ → Option Source
other_source path = by_kind (kind_alone path) path

-- else it is another workbook's, by its folder and file
abbrev pub or_workbook : List ℕ × List ℕ → Option Source → Source
or_workbook path (Some s) = s
or_workbook path None = workbook path.0 path.1

abbrev pub path_source : List ℕ → Source
path_source path = or_workbook (path_of path) (other_source path)

-- ---- for the contracts

abbrev pub source_if : Option SourceFields → Option Source
source_if found = option_map source_view found
