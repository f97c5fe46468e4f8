use Rattle.std.proofs.Common.{◌≡◌, ◌≤◌, ◌-◌, get_or, length, arith, rules}
use Rattle.xls_props.proofs.NulLemmas.{nuls_less, nuls_end}
use Rattle.xls_props.proofs.texts.len_without_nuls.Goals as goal

pub returns-then-bytes-n-ne0-clause-prefix : goal.returns-then-bytes-n-ne0-clause-prefix
returns-then-bytes-n-ne0-clause-prefix c =
    nuls_end _ _ c.nuls-test.true c.nuls.invariant.within c.if-bytes-n-ne0.true c.nuls.invariant.prefix

pub nuls-preserved : goal.nuls-preserved
nuls-preserved c =
    let nul : get_or c.args.bytes.now (c.nuls.n - 1) 0 ≡ 0 = search rules in
    let within : c.nuls.n ≤ length c.args.bytes.now = c.nuls.invariant.within in
    record {
      within = omega arith;
      nul = λ _. nul;
      prefix = nuls_less _ _ c.nuls-test.true within nul c.nuls.invariant.prefix;
    }
