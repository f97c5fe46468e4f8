use Rattle.std.proofs.Common.{List, ◌++◌, sym, ap, subst}
use Rattle.xls_stream.specs.Listing.{kept_group}
use Rattle.xls_biff.specs.Cells.{CellEntry}
use Rattle.xls_biff.specs.SheetTable.{SheetRecord}
use Rattle.xls_biff.specs.Walking.{group_of}
use Rattle.xls_meaning.specs.Settings.{Settings}
use Rattle.xls_meaning.specs.SheetTable.{adds}
use Rattle.xls_view.specs.Surveying.{IsFound}
use Rattle.xls_view.proofs.PlainLemmas.{one_added, one_without_formula}
use Rattle.xls_view.proofs.RecordLemmas.{read_as}
use Rattle.xls_view.proofs.SurveyLemmas.{formula_not_found, no_regions_yet}
use Rattle.xls_view.proofs.survey.pass.Goals as goal

-- a record that begins with the position of its one cell
pub returns-in-Some : goal.returns-in-Some
returns-in-Some c = λ es fs rs g h found.
    let s = c.args.settings.now in
    let k = kept_group (group_of c.args.r.now) in
    let plain = rw c.in-Some.is at c.first_place.ensures in
    let one = plain.one g h in
    let cell : CellEntry = (c.in-Some.position, one.0) in
    record {
      cells = subst (λ (added : List CellEntry). IsFound c.with-cells.result (es ++ added)) (one_added s.formulas c.args.last g cell one.1) (c.with-cells.ensures es one.0 found.cells);
      formulas = formula_not_found s.cells k g c.args.formulas.now fs (one_without_formula g cell one.1) h found.formulas;
      merges = λ e. no_regions_yet k rs (found.merges e) plain.apart;
    }

pub returns : goal.returns
returns c = λ es fs rs g h found.
    let s = c.args.settings.now in
    let k = kept_group (group_of c.args.r.now) in
    let version = ap (λ (x : Settings). x.cells.version) (sym c.settings.view_is) in
    let line = c.in-Ok.ensures.exact s.cells version in
    record {
      cells = subst (λ (x : SheetRecord). IsFound c.with_record-cells.result (es ++ (adds s.formulas c.args.last x).cells)) (read_as _ _ g line h) (c.with_record-cells.ensures es found.cells);
      formulas = c.add_formula.ensures s.cells k fs line found.formulas;
      merges = c.merges_with-merges.ensures k rs c.in-Ok.ensures.items found.merges;
    }
