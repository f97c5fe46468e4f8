use Rattle.std.proofs.Common.{List, ℕ, subst}
use Rattle.xls_output.specs.Gathering.{Delivers}
use Rattle.xls_csv.proofs.WalkLemmas.{joins_to_csv}
use Rattle.xls_csv.proofs.rows.write_rows.Goals as goal

pub returns-clause-dense : goal.returns-clause-dense
returns-clause-dense g c = λ ascending.
    let state = g.K.Sink.state in
    let Written = λ (text : List ℕ). Delivers (state c.args.sink.now) (state c.write_walk.new.sink) text c.write_walk.result in
    subst Written (joins_to_csv c.args.cells.now ascending) c.write_walk.ensures
