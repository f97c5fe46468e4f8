use Rattle.std.proofs.Common.{◌∷◌, ◌++◌, List, [], ℕ, ◌∙◌, ap, take}
use Rattle.xls_bytes.specs.Numbers.{le}
use Rattle.xls_comments.proofs.UnitLemmas.{wide_step}
use Rattle.xls_comments.proofs.units.push_wide.Goals as goal

pub units-preserved : goal.units-preserved
units-preserved c =
    let l = c.units in
    rw c.split_at.ensures.back (wide_step l.units.items c.push.new.self.items l.rest.now l.left c.units-test.true c.if-rest-ge2.true
    (c.in_ok-push.ensures.items ∙ ap (λ (n : ℕ). l.units.items ++ n ∷ []) (c.read_u16.ensures ∙ ap (λ (u : List ℕ). le (take 2 u)) c.split_at.ensures.front)) ∙ l.invariant)
