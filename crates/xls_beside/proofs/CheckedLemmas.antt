-- Globals that aren't read.
use Rattle.std.proofs.Common.{◌≡◌, ℕ, List, None, Result, Ok, Err}
use Rattle.std.specs.Prelude.{IfErr}
use Rattle.xls_record.specs.declared.error.XlsError.{XlsError}
use Rattle.xls_stream.specs.Walks.{IsBytes}
use Rattle.xls_meaning.specs.GlobalsTable.{forced_fault}
use Rattle.xls_meaning.specs.Rules.{Rules}
use Rattle.xls_open.specs.Globals.{ReadsGlobals, State}
use Rattle.xls_view.specs.Viewing.{ViewCause}
use Rattle.xls_view.proofs.ViewLemmas.{globals_cause}

-- memory ran out, or they have the first fault of the bytes
pub unread_cause : (rules : Rules) (bytes : List ℕ) → IsBytes bytes → forced_fault rules.force_codepage ≡ None
    → (r : Result State XlsError) → ReadsGlobals rules bytes r → IfErr r (ViewCause rules bytes)
unread_cause rules bytes fits forced (Ok s) read = tt
unread_cause rules bytes fits forced (Err e) read = globals_cause rules bytes fits forced e read
