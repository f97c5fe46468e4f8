use Rattle.std.proofs.Common.{ℕ, List, sym}
use Rattle.std.proofs.lemmas.Result.{on_ok_weaker}
use Rattle.std.specs.Str.{chars}
use Rattle.xls_arrays.proofs.LaidLemmas.{lays-name}
use Rattle.xls_arrays.proofs.TextLemmas.{encodes}
use Rattle.xls_arrays.proofs.laying.lay_name.Goals as goal

pub returns-clause-ok : goal.returns-clause-ok
returns-clause-ok c =
    let reported : List ℕ × List ℕ = (chars c.args.name.now, chars c.args.formula.now) in
    on_ok_weaker c.lay_name_item.result
    (lays-name reported c.in_ok-name.ensures.ok c.in_ok-formula.ensures.ok
    (sym (encodes c.args.name.now c.utf8.name)) (sym (encodes c.args.formula.now c.utf8.formula)))
    c.lay_name_item.ensures.ok
