-- The kinds of modules by the stream of a project ([MS-OVBA] 2.3.1 PROJECT Stream): ProjectStdModule, ProjectClassModule,
-- ProjectDocModule and ProjectDesignerModule, a line each: `Module=NAME`, `Class=NAME`, `Document=NAME/&H00000000`,
-- `BaseClass=NAME`. Words and names are compared whatever the case of ASCII letters.
use Rattle.std.specs.Prelude.{ℕ, ◌==◌, List, [], ◌∷◌, map, length, codes, nat_lt, Bool, Option, Some, None, if◌then◌else◌}
use Rattle.std.specs.List.{after_first, before_first, flat_map, position_or_len, slice_split}
use Rattle.std.specs.Option.{option_to_list}
use Rattle.std.specs.Str.{str_eq_ignore_ascii_case}
use Rattle.std.specs.String.{string_bytes}
use Rattle.xls_macros.specs.declared.kind.ModuleKind.{ModuleKind}
use Rattle.xls_macros.specs.declared.kind.ModuleKind.TheVariants.{Module, Class, Document, Form}
use Rattle.xls_macros.specs.declared.kind.NamedModule.{NamedModule}

-- a module that a line names: its kind and its name
abbrev pub Named : Type 0
Named = ModuleKind × List ℕ

-- the kind by the word of a line
abbrev pub kind_of_word : List ℕ → Option ModuleKind
kind_of_word word =
    if str_eq_ignore_ascii_case word (codes "Module") then Some Module
    else if str_eq_ignore_ascii_case word (codes "Class") then Some Class
    else if str_eq_ignore_ascii_case word (codes "Document") then Some Document
    else if str_eq_ignore_ascii_case word (codes "BaseClass") then Some Form
    else None

abbrev pub is_slash : ℕ → Bool
is_slash b = b == 0x2F

abbrev pub is_equals : ℕ → Bool
is_equals b = b == 0x3D

-- a document's name ends before the first slash
abbrev pub name_in : ModuleKind → List ℕ → List ℕ
name_in Document value = before_first is_slash value
name_in Module value = value
name_in Class value = value
name_in Form value = value

abbrev pub of_value : Option ModuleKind → List ℕ → Option Named
of_value None value = None
of_value (Some kind) value = Some (kind, name_in kind value)

-- the word stands before the first `=`, and behind it the value
abbrev pub entry_by : List ℕ → Option Named
entry_by line =
    if nat_lt (position_or_len is_equals line) (length line)
    then of_value (kind_of_word (before_first is_equals line)) (after_first is_equals line)
    else None

-- those that lines name
abbrev pub entries_by : List (List ℕ) → List Named
entries_by lines = flat_map (λ line. option_to_list (entry_by line)) lines

-- the lines of a text are ended by LF
abbrev pub entries_in : List ℕ → List Named
entries_in text = entries_by (slice_split (λ b. b == 0x0A) text)

-- the kind of the first of a name; a module that isn't named has procedures
abbrev pub kind_in : List Named → List ℕ → ModuleKind
kind_in [] name = Module
kind_in (entry ∷ entries) name = if str_eq_ignore_ascii_case entry.1 name then entry.0 else kind_in entries name

-- ---- what is told of a kind

abbrev pub kind_text : ModuleKind → List ℕ
kind_text Module = codes "module"
kind_text Class = codes "class"
kind_text Document = codes "document"
kind_text Form = codes "form"

-- the ending of a file's name
abbrev pub ending_text : ModuleKind → List ℕ
ending_text Module = codes "bas"
ending_text Class = codes "cls"
ending_text Document = codes "cls"
ending_text Form = codes "frm"

-- ---- as the code has them

abbrev pub entry_view : NamedModule → Named
entry_view m = (m.kind, string_bytes m.name)

abbrev pub entry_views : List NamedModule → List Named
entry_views = map entry_view
