use Rattle.std.proofs.Common.{ℕ, List, IfOk, sym, subst}
use Rattle.xls_arrays.proofs.TextLemmas.{encodes}
use Rattle.xls_beside_arrays.specs.Filled.{LaysText}
use Rattle.xls_beside_arrays.proofs.rooms.lay_lent.Goals as goal

pub returns-clause-ok : goal.returns-clause-ok
returns-clause-ok g c =
    subst (λ (text : List ℕ). IfOk c.lay_text.result (LaysText c.args.rooms.now c.lay_text.new.rooms text))
    (sym (encodes c.args.text.now c.utf8.text)) c.lay_text.ensures.ok
