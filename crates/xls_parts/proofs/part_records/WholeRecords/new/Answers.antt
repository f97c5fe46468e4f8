use Rattle.std.proofs.Common.{length}
use Rattle.xls_parts.proofs.PartRecordsLemmas.{few_within}
use Rattle.xls_parts.proofs.part_records.WholeRecords.new.Goals as goal

pub returns-clause-few : goal.returns-clause-few
returns-clause-few c = few_within (length c.args.bytes.now) c.args.offset c.args.bytes.now
