use Rattle.xls_sectors.proofs.AnswerLemmas.{stream_one, whole_chain_one, opens_one, stream_whole}
use Rattle.xls_sectors.proofs.laws.one_answer.Goals as goal

pub returns : goal.returns
returns c = record { streams = stream_one; chains = whole_chain_one; files = opens_one; whole = stream_whole }
