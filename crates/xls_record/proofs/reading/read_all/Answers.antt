use Rattle.xls_record.proofs.reading.read_all.Goals as goal

pub returns-clause-within : goal.returns-clause-within
returns-clause-within g c = c.read_by_pieces.ensures.within

pub returns-clause-all : goal.returns-clause-all
returns-clause-all g c = c.read_by_pieces.ensures.all

pub returns-clause-end : goal.returns-clause-end
returns-clause-end g c = c.read_by_pieces.ensures.end

pub returns-clause-ended : goal.returns-clause-ended
returns-clause-ended g c = c.read_by_pieces.ensures.ended

pub returns-clause-cause : goal.returns-clause-cause
returns-clause-cause g c = c.read_by_pieces.ensures.cause

pub returns-clause-prefix : goal.returns-clause-prefix
returns-clause-prefix g c = c.read_by_pieces.ensures.prefix

pub returns-clause-count : goal.returns-clause-count
returns-clause-count g c = c.read_by_pieces.ensures.count

pub returns-clause-faultless : goal.returns-clause-faultless
returns-clause-faultless g c = c.read_by_pieces.ensures.faultless
