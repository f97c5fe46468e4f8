-- The law: a file gives the bytes of one workbook, or one fault, and never both.
use Rattle.std.specs.Prelude.{◌≡◌, ◌≢◌, List, ℕ}
use Rattle.xls_container.specs.declared.fault.FileFault.{FileFault}
use Rattle.xls_container.specs.declared.fault.FileFault.TheVariants.{Memory}
use Rattle.xls_container.specs.Files.{WorkbookBytes, RefusesFile}
use Rattle.xls_container.specs.Texts.{fault_text}

-- what a file answers, but for memory that ran out
pub record HasOneAnswer (file : List ℕ) : Type 0 where
  pub workbook : (a b : List ℕ) → WorkbookBytes file a → WorkbookBytes file b → a ≡ b
  pub either : (bytes : List ℕ) (fault : FileFault) → WorkbookBytes file bytes → RefusesFile file fault → fault ≡ Memory
  pub fault : (e f : FileFault) → RefusesFile file e → RefusesFile file f → e ≢ Memory → f ≢ Memory → fault_text e ≡ fault_text f
