-- The globals of a stream without a fault.
use Rattle.std.specs.Prelude.{ℕ, List}
use Rattle.xls_open.specs.declared.options.XlsOptions.{XlsOptions}
use Rattle.xls_open.specs.Globals.{AreGlobals, State}
use Rattle.xls_open.specs.Workbook.{rules_of}
use Rattle.xls_view.specs.Viewing.{IsViewFault}

-- what is in force at the end of the globals, of bytes without a fault
abbrev pub HasGlobals : XlsOptions → List ℕ → State → Type 0
HasGlobals options bytes globals = ((e : _) → IsViewFault (rules_of options) bytes e → ⊥) × AreGlobals (rules_of options) bytes globals
