use Rattle.xls_passwords.proofs.KeyLemmas.{concat-replicate_more}
use Rattle.xls_passwords.proofs.keys.BlockKeys.rc4.Goals as goal

pub rounds-preserved : goal.rounds-preserved
rounds-preserved c =
    rw (concat-replicate_more c.rounds.counter c.first_5-start.result c.args.salt.now)
    (c.update-in-rounds.ensures _ (c.update.ensures _ c.rounds.invariant))
