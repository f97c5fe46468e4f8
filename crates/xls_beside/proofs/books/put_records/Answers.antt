use Rattle.xls_other_books.specs.Formulas.{outside_of}
use Rattle.xls_parts.specs.PartRecords.{Placed}
use Rattle.xls_beside.specs.Books.{outside_lines}
use Rattle.xls_output.proofs.EachLemmas.{each-some-all, each-some-first, each-some-next, each-some-stopped, puts-each-stop}
use Rattle.xls_beside.specs.Lines.{IsLineText}
use Rattle.xls_beside.proofs.books.put_records.Goals as goal

pub loop-r-init : goal.loop-r-init
loop-r-init g c =
    let lines = λ (r : Placed). outside_lines (outside_of c.args.other.now r) in
    (tt, tt, each-some-first (IsLineText c.args.form) lines _ _ _ c.into_iter-r-iterator.ensures.into_iter_gives)

pub loop-r-preserved : goal.loop-r-preserved
loop-r-preserved g c =
    let lines = λ (r : Placed). outside_lines (outside_of c.args.other.now r) in
    (tt, tt, each-some-next lines c.loop-r.invariant.2 c.in-Some.ensures.steps c.in_ok-put_outside.ensures)

pub returns-in_err-put_outside : goal.returns-in_err-put_outside
returns-in_err-put_outside g c =
    puts-each-stop c.from_residual.result c.from_residual.ensures.1
    (each-some-stopped (λ (r : Placed). outside_lines (outside_of c.args.other.now r)) c.loop-r.invariant.2
    c.in-Some.ensures.steps c.in_err-put_outside.ensures)

pub returns : goal.returns
returns g c =
    each-some-all (λ (r : Placed). outside_lines (outside_of c.args.other.now r)) c.loop-r.invariant.2 c.in-None.ensures.steps.0
