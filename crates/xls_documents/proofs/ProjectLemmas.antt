-- The lines of a macro project, written.
use Rattle.std.proofs.Common.{◌≡◌, ℕ, List, [], refl, inl, inr, Result, Ok, Err}
use Rattle.std.specs.Result.{IsErrAnd}
use Rattle.xls_output.specs.SinkState.{SinkState}
use Rattle.xls_output.specs.Output.{Output}
use Rattle.xls_output.specs.declared.stop.Stop.{Stop}
use Rattle.xls_output.specs.declared.stop.Stop.TheVariants.{Memory}
use Rattle.xls_output.specs.Each.{DeliversEach}
use Rattle.xls_output.proofs.EachLemmas.{each-memory, delivers-each-stop}
use Rattle.xls_readable.specs.declared.forms.Form.{Form}
use Rattle.xls_vba.specs.Directory.{Project}
use Rattle.xls_vba.specs.Project.{AreNames}
use Rattle.xls_documents.specs.Lines.{IsLineText}
use Rattle.xls_documents.specs.Projects.{AreProjectLines, DeliversProject, lines_by}

are_lines : (project : Project) (names : List (List ℕ)) → AreNames project.modules names → AreProjectLines project (lines_by project names)
are_lines project names ordered = record { names = names; ordered = ordered; whole = refl }

pub project_delivered : {X : Type 0} (form : Form) (project : Project) (names : List (List ℕ)) (before after : SinkState) (r : Result X Stop)
    → AreNames project.modules names → DeliversEach (IsLineText form) (lines_by project names) before after r
    → DeliversProject form project before after r
project_delivered form project names before after (Ok x) ordered wrote = (lines_by project names, are_lines project names ordered, wrote)
project_delivered form project names before after (Err e) ordered stopped = (lines_by project names, inl (are_lines project names ordered), stopped)

-- memory ran out before the first line
pub project_memory : {X : Type 0} (form : Form) (project : Project) (state : SinkState) (r : Result X Stop)
    → IsErrAnd r (λ e. e ≡ Memory) → DeliversProject form project state state r
project_memory {X} form project state (Ok x) none = absurd none
project_memory {X} form project state (Err e) is =
    let unused : Output = record { sink = state; kept = []; lender = 0 } in
    ([], inr refl, delivers-each-stop {X = X} {a = unused} {b = unused} (Err e) is refl (each-memory (IsLineText form) []))
