use Rattle.xls_stream.proofs.Outlines as shapes
use Rattle.xls_stream.proofs.laws.same_globals.Goals as goal

pub returns : goal.returns
returns c = shapes.same_globals
