-- A project directory ([MS-OVBA] dir Stream) whole: a header, reference items and modules.
use Rattle.std.specs.Prelude.{◌≡◌, List, ℕ, Ok, Err}
use Rattle.xls_text.specs.declared.encoding.XlsEncoding.{XlsEncoding}
use Rattle.xls_vba.specs.declared.error.VbaError.{VbaError}
use Rattle.xls_vba.specs.declared.error.VbaError.TheVariants as errors
use Rattle.xls_vba.specs.Fields.{header_from}
use Rattle.xls_vba.specs.Items.{Element, Items, ItemsFault}
use Rattle.xls_vba.specs.References.{Ref, references_of}
use Rattle.xls_vba.specs.Modules.{Mod, modules_part}

-- what a project refers to, and its modules
pub record Project : Type 0 where
  pub references : List Ref
  pub modules : List Mod

-- items at the start of the bytes give these references
pub record Refers (page : XlsEncoding) (bytes : List ℕ) (refs : List Ref) (rest : List ℕ)
    : Type 0 where
  pub elements : List Element
  pub items : Items page bytes elements rest
  pub read_off : refs ≡ references_of elements

-- the bytes are a directory of this project
pub record IsDirectory (bytes : List ℕ) (project : Project) : Type 0 where
  pub page : XlsEncoding
  pub items : List ℕ
  pub rest : List ℕ
  pub header : header_from bytes ≡ Ok (page, items)
  pub refers : Refers page items project.references rest
  pub modules : modules_part page rest ≡ Ok project.modules

-- after whole parts the next field isn't there or differs
pub data IsProjectFault (bytes : List ℕ) (e : VbaError) : Type 0 where
  in_header : header_from bytes ≡ Err e → IsProjectFault bytes e
  in_items : (page : XlsEncoding) (items : List ℕ) → header_from bytes ≡ Ok (page, items)
      → ItemsFault page items e → IsProjectFault bytes e
  in_modules : (page : XlsEncoding) (items rest : List ℕ) (refs : List Ref)
      → header_from bytes ≡ Ok (page, items) → Refers page items refs rest
      → modules_part page rest ≡ Err e → IsProjectFault bytes e

-- a refusal has this cause, unless memory ran out
abbrev pub FailsIn : VbaError → (VbaError → Type 0) → Type 0
FailsIn errors.Memory Cause = Unit {0}
FailsIn e Cause = Cause e
