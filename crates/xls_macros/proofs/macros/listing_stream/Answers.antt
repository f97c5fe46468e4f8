use Rattle.xls_macros.proofs.macros.listing_stream.Goals as goal

pub returns-clause-ok : goal.returns-clause-ok
returns-clause-ok c = rw c.all_but_last.ensures at c.stream_in.ensures.ok
