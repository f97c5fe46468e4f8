use Rattle.xls_stream.proofs.TableReadings.{one_reading}
use Rattle.xls_stream.proofs.laws.one_table.Goals as goal

pub returns : goal.returns
returns c = one_reading
