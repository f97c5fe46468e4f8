use Rattle.xls_shown_dates.proofs.TextLemmas.{front_chars}
use Rattle.xls_shown_dates.proofs.texts.front.Goals as goal

pub returns : goal.returns
returns c = front_chars c.args.name.now c.split_at.result.0.now c.args.count c.requires.ascii c.split_at.ensures.front
