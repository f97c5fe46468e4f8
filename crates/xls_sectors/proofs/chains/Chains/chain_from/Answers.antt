use Rattle.std.proofs.Common.{rules, ◌≡◌, None, Some, refl, arith, inl, inr, ◌++◌, ◌∷◌, []}
use Rattle.xls_sectors.specs.Streams.{next_in}
use Rattle.xls_sectors.proofs.ChainLemmas.{Path-push}
use Rattle.xls_sectors.proofs.SpaceLemmas.{full_loops}
use Rattle.xls_sectors.proofs.chains.Chains.chain_from.Goals as goal

pub sectors-init : goal.sectors-init
sectors-init c =
    let none : c.new-sectors.result.items ≡ [] = search rules in
    (rw none refl, omega arith)

pub returns-then-len-most-clause-exact : goal.returns-then-len-most-clause-exact
returns-then-len-most-clause-exact c =
    let more : next_in c.args.self.now c.sectors.number ≡ Some c.in-Some.after = search rules in
    inr (full_loops c.args.self.now c.args.first c.sectors.number c.in-Some.after c.sectors.sectors.items c.sectors.invariant.0 more (search rules), search rules)

pub sectors-smaller : goal.sectors-smaller
sectors-smaller c = omega (arith, c.in_ok-push.ensures.len)

pub sectors-preserved : goal.sectors-preserved
sectors-preserved c =
    let more : next_in c.args.self.now c.sectors.number ≡ Some c.in-Some.after = search rules in
    let pushed : c.push.new.self.items ≡ c.sectors.sectors.items ++ c.sectors.number ∷ [] = search rules in (
      rw pushed (Path-push (next_in c.args.self.now) c.args.first c.sectors.sectors.items c.sectors.number c.in-Some.after c.sectors.invariant.0 more),
      omega (arith, c.in_ok-push.ensures.len),
    )

pub returns-clause-exact : goal.returns-clause-exact
returns-clause-exact c =
    let stop : next_in c.args.self.now c.sectors.number ≡ None = search rules in
    inl (c.sectors.sectors.items, (c.sectors.number, record { path = c.sectors.invariant.0; stop = stop }, refl))

pub returns-clause-few : goal.returns-clause-few
returns-clause-few c = omega (arith, c.sectors.invariant.1)
