use Rattle.xls_stream.proofs.Outlines as shapes
use Rattle.xls_stream.proofs.laws.one_globals_part.Goals as goal

pub returns : goal.returns
returns c = shapes.one_globals_part
