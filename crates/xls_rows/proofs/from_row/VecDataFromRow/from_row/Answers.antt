use Rattle.std.proofs.Common.{Vec, Global, ◌≡◌, ◌∙◌, ◌∷◌, ◌++◌, [], ap, refl, drop, map}
use Rattle.xls_data.specs.Data.{content_of}
use Rattle.xls_data.specs.declared.values.Data.{Data}
use Rattle.xls_rows.specs.Readers.{data_in}
use Rattle.xls_rows.specs.Rows.{all_read, contents_of}
use Rattle.xls_rows.proofs.ReadLemmas.{following, memory_always, read_on, read_stops, contents_first}
use Rattle.xls_rows.proofs.from_row.VecDataFromRow.from_row.Goals as goal

pub loop-cell-preserved : goal.loop-cell-preserved
loop-cell-preserved g c =
    let content = g.T.ReadCell.content in
    let left = c.loop-cell.rest.exposed in
    let grown : c.push.new.self.items ≡ c.loop-cell.values.items ++ c.in-Ok.value ∷ [] = rw c.if-is_err.ensures.negation at c.push.ensures.items in
    rw (grown, c.next_cell.ensures.row) (
    read_on content_of (data_in c.position-pos.result) c.loop-cell.values.items c.in-Ok.value (content c.in-Some.cell.now) (contents_of content (drop 1 left))
    (all_read (data_in c.position-pos.result) (contents_of content c.args.row.now.exposed))
    (c.loop-cell.invariant ∙ ap (λ l. following (map content_of c.loop-cell.values.items) (all_read (data_in c.position-pos.result) l)) (contents_first content left c.in-Some.cell.now c.in-Some.ensures.cell))
    c.in-Ok.ensures
    )

-- memory ran out: the row is as it was
pub returns-then-is_err : goal.returns-then-is_err
returns-then-is_err g c = record {
  gives = memory_always (λ (v : Vec Data Global). map content_of v.items) (all_read (data_in c.args.row.now.place) (contents_of g.T.ReadCell.content c.args.row.now.exposed));
  ok = tt;
  err = refl;
}

-- a cell is refused: the row is as it was
pub returns-in-Err : goal.returns-in-Err
returns-in-Err g c =
    let content = g.T.ReadCell.content in
    let left = c.loop-cell.rest.exposed in
    record {
      gives = rw (← c.position-pos.ensures) (
          read_stops content_of (λ (v : Vec Data Global). map content_of v.items) (data_in c.position-pos.result) (map content_of c.loop-cell.values.items) c.in-Err.e
          (content c.in-Some.cell.now) (contents_of content (drop 1 left)) (all_read (data_in c.position-pos.result) (contents_of content c.args.row.now.exposed))
          (c.loop-cell.invariant ∙ ap (λ l. following (map content_of c.loop-cell.values.items) (all_read (data_in c.position-pos.result) l)) (contents_first content left c.in-Some.cell.now c.in-Some.ensures.cell))
          c.in-Err.ensures
          );
      ok = tt;
      err = refl;
    }
