use Rattle.std.proofs.Common.{List, ℕ, [], ◌++◌, ◌≡◌, append_assoc, sym, ap, ◌∙◌, arith}
use Rattle.xls_stream.specs.Stream.{record_bytes}
use Rattle.xls_stream.specs.declared.types.TheConstants as types
use Rattle.xls_command.specs.Sample.{sample_globals, sample_row, sample_rows, sample_stream, part_body}
use Rattle.xls_command.proofs.BuildLemmas.{rows_more, stream_parts}
use Rattle.xls_command.proofs.sample.sample_bytes.Goals as goal

-- one row more
pub loop-row-preserved : goal.loop-row-preserved
loop-row-preserved c =
    let row = c.loop-row.row in
    let prefix = sample_globals ++ record_bytes types.BOF part_body in
    c.in_ok-push_row.ensures ∙ ap (λ (x : List ℕ). x ++ sample_row row) c.loop-row.invariant
    ∙ append_assoc prefix (sample_rows row) (sample_row row) ∙ ap (λ (x : List ℕ). prefix ++ x) (sym (rows_more row))

pub returns : goal.returns
returns c =
    let row = c.loop-row.row in
    let prefix = sample_globals ++ record_bytes types.BOF part_body in
    let ends : row ≡ c.args.rows = omega (arith, c.loop-row-test.false, c.loop-row.auto.row-end) in
    c.in_ok-extend_from_slice-3.ensures.items
    ∙ ap (λ (x : List ℕ). x ++ record_bytes types.EOF []) c.loop-row.invariant
    ∙ append_assoc prefix (sample_rows row) (record_bytes types.EOF [])
    ∙ sym (stream_parts row)
    ∙ ap sample_stream ends
