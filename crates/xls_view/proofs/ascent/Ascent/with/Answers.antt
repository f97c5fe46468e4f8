use Rattle.std.proofs.Common.{◌≡◌, ◌<◌, ℕ, refl, subst, arith}
use Rattle.std.specs.Prelude.{◌⊎◌}
use Rattle.xls_view.proofs.AscentLemmas.{ascends_with}
use Rattle.xls_view.proofs.ascent.Ascent.with.Goals as goal

pub returns-clause-steps : goal.returns-clause-steps
returns-clause-steps c = λ ps h.
    let p = c.args.position in
    record {
      none = λ z. absurd (omega (arith, z, c.saturating_add-count.ensures));
      some = λ l. record { prefix = ps; position = p; whole = refl; number = c.number_of-last.ensures.number; column = c.number_of-last.ensures.small };
      order = λ z.
          let before = c.falls_with.ensures z in
          ascends_with c.args.self ps p c.number_of-last.ensures.small h before.0
          (subst (λ (n : ℕ). (c.args.self.count ≡ 0) ⊎ (c.args.self.last < n)) c.number_of-last.ensures.number before.1);
    }
