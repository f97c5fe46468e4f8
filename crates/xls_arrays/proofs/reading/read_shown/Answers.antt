use Rattle.std.proofs.Common.{rules}
use Rattle.xls_arrays.specs.Filled.{in_rooms}
use Rattle.xls_arrays.proofs.AnswerLemmas.{ends-as}
use Rattle.xls_arrays.proofs.reading.read_shown.Goals as goal

pub returns : goal.returns
returns c = (
  in_rooms c.fill_shown-done.new.rooms,
  search rules,
  search rules,
  ends-as c.fill_shown-done.result c.fill_shown-done.ensures.ok c.fill_shown-done.ensures.err c.answer.ensures,
)
