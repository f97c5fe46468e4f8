use Rattle.std.proofs.Common.{length, sym, ap, ◌∙◌}
use Rattle.xls_compound.proofs.DirectoryEntryLemmas.{length-entries_of}
use Rattle.xls_compound.proofs.directory_entry.Entries.len.Goals as goal

pub returns : goal.returns
returns c = sym (length-entries_of c.self.inside.is_wide c.self.inside.bytes.now) ∙ ap length c.self.view_is
