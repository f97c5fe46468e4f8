use Rattle.std.proofs.Common.{ℕ, List, length, ◌≤◌, subst, sym}
use Rattle.xls_open.specs.Opening.{IsOpened, default_options}
use Rattle.xls_lay.proofs.LawLemmas.{opens_again}
use Rattle.xls_command.proofs.laws.remade_dumps.Goals as goal

pub returns : goal.returns
returns c = λ bytes list are carries fits remade remakes within text dumps.
    let written = remakes.every list carries in
    let book = dumps.0 in
    let again = opens_again default_options book bytes list are carries fits written.0
    (subst (λ (r : List ℕ). length r ≤ default_options.max_bytes) written.1 within) dumps.1 in
    (book, subst (IsOpened default_options book) (sym written.1) again, dumps.2)
