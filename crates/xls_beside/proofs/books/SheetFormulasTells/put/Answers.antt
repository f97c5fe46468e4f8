use Rattle.std.proofs.Common.{List, ℕ, ap, ◌∙◌}
use Rattle.std.specs.List.{flat_map}
use Rattle.xls_other_books.specs.Formulas.{outside_of}
use Rattle.xls_parts.specs.PartRecords.{Placed, own_records}
use Rattle.xls_output.proofs.EachLemmas.{puts-as}
use Rattle.xls_beside.specs.Books.{outside_lines}
use Rattle.xls_beside.specs.Lines.{IsLineText}
use Rattle.xls_beside.proofs.books.SheetFormulasTells.put.Goals as goal

pub returns : goal.returns
returns g c =
    let linked = c.args.self.now.other.now in
    let records = c.new-records.ensures ∙ ap (λ (b : List ℕ). own_records c.args.part.offset b) c.part_at-bytes.ensures.bytes in
    puts-as (IsLineText c.args.form) _ _ c.put_records.result
    (ap (λ (rs : List Placed). flat_map (λ (r : Placed). outside_lines (outside_of linked r)) rs) records) c.put_records.ensures
