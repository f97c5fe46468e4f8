use Rattle.xls_stream.proofs.Outlines as shapes
use Rattle.xls_stream.proofs.laws.same_parts.Goals as goal

pub returns : goal.returns
returns c = shapes.same_parts
