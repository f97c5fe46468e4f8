use Rattle.std.proofs.Common.{arith}
use Rattle.xls_props.proofs.EntryLemmas.{entries_none}
use Rattle.xls_props.proofs.entries.first_entry.Goals as goal

pub returns-then-bytes-lt8 : goal.returns-then-bytes-lt8
returns-then-bytes-lt8 c = λ n. entries_none n c.args.bytes.now (omega arith)
