use Rattle.std.proofs.Common.{◌≡◌, sym, ◌∙◌, arith, drop}
use Rattle.xls_sectors.proofs.RunLemmas.{is_run_none}
use Rattle.xls_sectors.proofs.chains.Chains.is_run.Goals as goal

pub returns-then-left-eq0 : goal.returns-then-left-eq0
returns-then-left-eq0 c =
    let none : c.sectors.left ≡ 0 = omega arith in
    sym (is_run_none c.args.self.now.sector_size c.sectors.expected (drop c.sectors.sector-index c.args.sectors.now)) ∙ (rw none at c.sectors.invariant)
