use Rattle.std.proofs.Common.{◌++◌, rules}
use Rattle.xls_other_books.specs.Entries.{entries_in}
use Rattle.xls_other_books.proofs.CiteLemmas.{entries_more}
use Rattle.xls_other_books.proofs.entries.add_entries.Goals as goal

pub entries-preserved : goal.entries-preserved
entries-preserved c =
    let l = c.entries in
    entries_more l.left l.rest.now c.split_at.result.1.now l.found.items c.push.new.self.items (c.args.found.now.items ++ entries_in c.args.count c.args.bytes.now) c.entry_at.result
    (search rules) (search rules) c.split_at.ensures.back c.entry_at.ensures c.in_ok-push.ensures.items l.invariant
