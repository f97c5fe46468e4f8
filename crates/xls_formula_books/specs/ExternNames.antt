-- The names of what is referred to. ExternName ([MS-XLS] 2.4.105) has flags at 0, of which the first (fBuiltIn) says that the name is built
-- in, the number of its sheet from 1 at 2, and a short string at 6: of BIFF8 with a flags byte, before it in the page.
use Rattle.std.specs.Prelude.{ℕ, List, [], drop, length, nat_lt, if◌then◌else◌}
use Rattle.xls_ptg.specs.Fields.{word_at}
use Rattle.xls_text.specs.declared.encoding.XlsEncoding.{XlsEncoding}
use Rattle.xls_record.specs.declared.version.Biff.{Biff}
use Rattle.xls_strings.specs.Texts.{text_of}
use Rattle.xls_shared_formulas.specs.Contents.{has_bit}
use Rattle.xls_other_books.specs.Names.{short_text}
use Rattle.xls_defined_names.specs.Names.{shown}
use Rattle.xls_formula_books.specs.declared.extern_names.ExternName.{ExternName}

-- the number of a sheet from 1 (0: the workbook), and the text
pub record Name : Type 0 where
  pub sheet : ℕ
  pub text : List ℕ

-- an empty one of the workbook where the record is too short
abbrev pub name_of : Biff → XlsEncoding → List ℕ → Name
name_of version page body =
    if nat_lt (length body) 7 then record { sheet = 0; text = [] }
    else record { sheet = word_at 2 body; text = shown (has_bit 1 (word_at 0 body)) (short_text version page (drop 6 body)) }

abbrev pub name_view : ExternName → Name
name_view n = record { sheet = n.sheet; text = text_of n.name }
