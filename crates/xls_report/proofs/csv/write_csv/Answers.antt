use Rattle.std.proofs.Common.{◌≡◌, inl, List, map, Option, Some, subst, sym, ◌∙◌}
use Rattle.std.specs.Prelude.{IfSome}
use Rattle.xls_biff.specs.Cells.{CellEntry}
use Rattle.xls_range.specs.Positions.{IsAscending}
use Rattle.xls_report.specs.Texts.{IsCsvOf, IsMissingOf}
use Rattle.xls_report.proofs.EndingLemmas.{either-as, either-memory, either-stopped}
use Rattle.xls_report.proofs.NamedLemmas.{csv_of, no_view}
use Rattle.xls_report.proofs.csv.write_csv.Goals as goal

pub returns-in_err-cells : goal.returns-in_err-cells
returns-in_err-cells g c =
    let book = c.args.view.now.book in
    either-memory (IsCsvOf c.args.name.now book) (IsMissingOf c.args.name.now book) _ c.from_residual.result c.from_residual.ensures.1

-- the cells that were found stand in order
ordered : (found : Option (List CellEntry)) {cells : List CellEntry} → found ≡ Some cells → IfSome found (λ cells. IsAscending (map (λ (c : CellEntry). c.0) cells))
    → IsAscending (map (λ (c : CellEntry). c.0) cells)
ordered found is all = subst (λ found. IfSome found (λ cells. IsAscending (map (λ (c : CellEntry). c.0) cells))) is all

pub returns-in_err-write_rows-in-Some : goal.returns-in_err-write_rows-in-Some
returns-in_err-write_rows-in-Some g c =
    let a = c.from_residual-in_err-write_rows-in-Some in
    let book = c.args.view.now.book in
    let displayed = csv_of c.args.name.now book _ (sym c.in-Some.is ∙ c.in_ok-cells.ensures.found) in
    either-stopped (IsCsvOf c.args.name.now book) (IsMissingOf c.args.name.now book) a.result a.ensures.1 (inl displayed) (c.in_err-write_rows-in-Some.ensures.dense (ordered _ c.in-Some.is c.in_ok-cells.ensures.ordered))

pub returns-in_ok-write_rows-in-Some : goal.returns-in_ok-write_rows-in-Some
returns-in_ok-write_rows-in-Some g c =
    let book = c.args.view.now.book in
    let displayed = csv_of c.args.name.now book _ (sym c.in-Some.is ∙ c.in_ok-cells.ensures.found) in
    (_, displayed, c.in_ok-write_rows-in-Some.ensures.dense (ordered _ c.in-Some.is c.in_ok-cells.ensures.ordered))

pub returns-in-None : goal.returns-in-None
returns-in-None g c =
    let none = no_view _ (sym c.in-None.is ∙ c.in_ok-cells.ensures.found) in
    either-as _ _ c.write_missing.result (λ text no. absurd no) (λ text line. (none, line)) c.write_missing.ensures
