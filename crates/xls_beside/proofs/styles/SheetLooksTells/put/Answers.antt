use Rattle.std.proofs.Common.{List, ℕ, ap, ◌∙◌}
use Rattle.std.specs.List.{flat_map}
use Rattle.xls_parts.specs.PartRecords.{own_records}
use Rattle.xls_style_cells.specs.Cells.{Cell, cells_of}
use Rattle.xls_output.proofs.EachLemmas.{puts-as, puts-memory}
use Rattle.xls_beside.specs.Lines.{IsLineText}
use Rattle.xls_beside.specs.Styles.{cell_lines}
use Rattle.xls_beside.proofs.styles.SheetLooksTells.put.Goals as goal

pub returns-in_err-found : goal.returns-in_err-found
returns-in_err-found g c = puts-memory (IsLineText c.args.form) _ _ _ _ _ c.from_residual.result c.from_residual.ensures.1

pub returns : goal.returns
returns g c =
    let looks = c.args.self.now in
    let bytes = ap (λ (b : List ℕ). cells_of looks.version (own_records 0 b)) c.part_at-bytes.ensures.bytes in
    let lines = cell_lines looks.version looks.styles.now looks.strings.now in
    puts-as (IsLineText c.args.form) _ _ c.put_cells.result
    (ap (λ (cs : List Cell). flat_map lines cs) (c.cells.ensures ∙ (c.in_ok-found.ensures ∙ bytes))) c.put_cells.ensures
