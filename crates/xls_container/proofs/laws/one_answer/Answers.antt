use Rattle.xls_container.proofs.AnswerLemmas.{one_answer_held}
use Rattle.xls_container.proofs.laws.one_answer.Goals as goal

pub returns : goal.returns
returns c =
    let sectors = c.one_answer.ensures in
    let listing = c.one_listing.ensures in
    one_answer_held sectors.files sectors.chains sectors.streams listing.listing listing.fault listing.either
