use Rattle.xls_biff.specs.Walking.{group_of}
use Rattle.xls_open.proofs.RecordLemmas.{table_taken, only_memory}
use Rattle.xls_open.proofs.globals.Globals.take_table.Goals as goal

pub read_again-requires : goal.read_again-requires
read_again-requires c =
    let k = c.requires in only_memory (group_of c.args.r.now) k.2.0 c.parse_sst.result k.1 k.2.1 c.parse_sst.ensures k.2.2 k.3

pub returns : goal.returns
returns c = λ body g h.
    rw (← c.self.view_is)
    (table_taken _ body g (group_of c.args.r.now) h.0 _ h.1 (rw c.in_ok-self-inside.ensures at c.parse_sst.ensures) h.2)
