use Rattle.std.proofs.Common.{String, Vec, Global, ◌≡◌, ◌∷◌, ◌++◌, arith, map, length-append, []}
use Rattle.std.specs.String.{string_bytes}
use Rattle.xls_rows.specs.Readers.{text_read}
use Rattle.xls_rows.specs.Rows.{all_read}
use Rattle.xls_rows.proofs.ReadLemmas.{memory_always}
use Rattle.xls_rows.proofs.ItemLemmas.{read_item, item_stops, items_end}
use Rattle.xls_rows.proofs.columns.texts_of.Goals as goal

pub returns-then-is_err-clause-value : goal.returns-then-is_err-clause-value
returns-then-is_err-clause-value g c =
    memory_always (λ (v : Vec (String Global) Global). map string_bytes v.items) (all_read (text_read c.args.pos) (map g.T.ReadCell.content c.args.cells.now))

pub returns-in-Err-clause-value : goal.returns-in-Err-clause-value
returns-in-Err-clause-value g c =
    item_stops g.T.ReadCell.content (string_bytes {Z = Global}) (λ (v : Vec (String Global) Global). map string_bytes v.items) (text_read c.args.pos) (map string_bytes c.loop-cell.texts.items) c.in-Err.refusal c.args.cells.now
    c.loop-cell.cell-index c.cell-item.result (all_read (text_read c.args.pos) (map g.T.ReadCell.content c.args.cells.now))
    (omega (arith, c.loop-cell-test.true)) c.cell-item.is c.loop-cell.invariant.0 c.in-Err.ensures

pub loop-cell-preserved : goal.loop-cell-preserved
loop-cell-preserved g c =
    let grown : c.push.new.self.items ≡ c.loop-cell.texts.items ++ c.in-Ok.text ∷ [] = rw c.if-is_err.ensures.negation at c.push.ensures.items in
    rw grown (
      read_item g.T.ReadCell.content string_bytes (text_read c.args.pos) c.loop-cell.texts.items c.in-Ok.text c.args.cells.now
          c.loop-cell.cell-index c.cell-item.result (all_read (text_read c.args.pos) (map g.T.ReadCell.content c.args.cells.now))
          (omega (arith, c.loop-cell-test.true)) c.cell-item.is c.loop-cell.invariant.0 c.in-Ok.ensures,
      omega (arith, length-append c.loop-cell.texts.items (c.in-Ok.text ∷ []), c.loop-cell.invariant.1),
    )

pub returns-clause-value : goal.returns-clause-value
returns-clause-value g c =
    items_end g.T.ReadCell.content (λ (v : Vec (String Global) Global). map string_bytes v.items) (text_read c.args.pos) c.loop-cell.texts c.args.cells.now
    c.loop-cell.cell-index (all_read (text_read c.args.pos) (map g.T.ReadCell.content c.args.cells.now))
    (omega (arith, c.loop-cell-test.false)) c.loop-cell.invariant.0
