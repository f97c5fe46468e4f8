use Rattle.std.proofs.Common.{rules}
use Rattle.xls_arrays.specs.Held.{IsHeld}
use Rattle.xls_arrays.proofs.AnswerLemmas.{read-ends}
use Rattle.xls_arrays.proofs.reading.read.Goals as goal

pub returns : goal.returns
returns c =
    read-ends IsHeld c.fill-done.new.rooms c.fill-done.result c.fill-done.ensures.ok c.fill-done.ensures.err c.answer.ensures
    (search rules) (search rules) (search rules) (search rules) (search rules) (search rules)
