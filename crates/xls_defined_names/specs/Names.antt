-- The defined names of a workbook: the Lbl records of its globals, in their order.
use Rattle.std.specs.Prelude.{ℕ, ◌-◌, List, [], ◌∷◌, length, slice_get, Bool, nat_lt, ◌==◌, if◌then◌else◌, Option, Some, None, codes}
use Rattle.xls_text.specs.declared.encoding.XlsEncoding.{XlsEncoding}
use Rattle.xls_stream.specs.declared.types.TheConstants.{LBL}
use Rattle.xls_record.specs.declared.version.Biff.{Biff}
use Rattle.xls_strings.specs.Texts.{text_of}
use Rattle.xls_parts.specs.PartRecords.{Placed, globals_records}
use Rattle.xls_ptg.specs.Fields.{word_at}
use Rattle.xls_bodies.specs.Bodies.{body_of}
use Rattle.xls_formula_names.specs.Tables.{built_in_name}
use Rattle.xls_defined_names.specs.declared.kinds.NameKinds.{NameKinds}
use Rattle.xls_defined_names.specs.declared.names.DefinedName.{DefinedName}
use Rattle.xls_defined_names.specs.Kinds.{kinds_of}
use Rattle.xls_defined_names.specs.Fields.{stored_name}

-- a name: the place of its record in the stream, its kinds, the number of its sheet from 1 (0: the workbook), and its text
pub record Name : Type 0 where
  pub offset : ℕ
  pub kinds : NameKinds
  pub sheet : ℕ
  pub text : List ℕ

abbrev pub name_view : DefinedName → Name
name_view n = record { offset = n.offset; kinds = n.kinds; sheet = n.sheet; text = text_of n.name }

-- ---- built-in names

abbrev pub text_or : List ℕ → Option (List ℕ) → List ℕ
text_or other (Some text) = text
text_or other None = other

-- the first character says which it is; one that isn't known stays as it is
abbrev pub built_in_text : List ℕ → List ℕ
built_in_text [] = []
built_in_text (c ∷ cs) = text_or (c ∷ cs) (built_in_name c)

abbrev pub shown : Bool → List ℕ → List ℕ
shown is_built_in name = if is_built_in then built_in_text name else name

-- ---- records

-- the name of a record; an empty one of the workbook where its head isn't there
abbrev pub name_by : XlsEncoding → Biff → ℕ → NameKinds → List ℕ → Name
name_by page version offset kinds body = record {
  offset = offset;
  kinds = kinds;
  sheet = word_at 8 body;
  text = shown kinds.is_built_in (stored_name page version body);
}

abbrev pub name_at : XlsEncoding → Biff → ℕ → List ℕ → Name
name_at page version offset body =
    if nat_lt (length body) 0x0E then record { offset = offset; kinds = kinds_of 0; sheet = 0; text = [] }
    else name_by page version offset (kinds_of (word_at 0 body)) body

abbrev pub record_name : XlsEncoding → Biff → List ℕ → Placed → Name
record_name page version stream r = name_at page version r.offset (body_of 0 stream r.offset)

-- those of some records, in the stream in which they stand
unfoldable pub names_of : XlsEncoding → Biff → List ℕ → List Placed → List Name
names_of page version stream [] = []
names_of page version stream (r ∷ rs) =
    if r.typ == LBL then record_name page version stream r ∷ names_of page version stream rs
    else names_of page version stream rs

abbrev pub names_in : XlsEncoding → Biff → List ℕ → List Name
names_in page version stream = names_of page version stream (globals_records stream)

-- ---- look-ups

-- by the number of a token, from 1
abbrev pub numbered : ℕ → List Name → Option Name
numbered number names = if number == 0 then None else slice_get names (number - 1)

-- the scope: nothing for the workbook, or a sheet's name
abbrev pub scope_of : ℕ → List (List ℕ) → List ℕ
scope_of sheet sheets = if sheet == 0 then [] else text_or (codes "#REF") (slice_get sheets (sheet - 1))
