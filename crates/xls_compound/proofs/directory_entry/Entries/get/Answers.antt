use Rattle.std.proofs.Common.{◌<◌, ◌/◌, ◌∙◌, List, length, Some, sym, ap, arith}
use Rattle.std.specs.List.{slice_get}
use Rattle.xls_compound.specs.DirectoryEntries.{Entry, directory_entry_of}
use Rattle.xls_compound.proofs.DirectoryEntryLemmas.{length-entries_of, entry_within}
use Rattle.xls_compound.proofs.directory_entry.Entries.get.Goals as goal

pub split_at-requires : goal.split_at-requires
split_at-requires c = omega (arith, length-entries_of c.self.inside.is_wide c.self.inside.bytes.now, ap length c.self.view_is)

pub of-requires : goal.of-requires
of-requires c = omega (arith, length-entries_of c.self.inside.is_wide c.self.inside.bytes.now, ap length c.self.view_is)

-- the entry is the bytes at its number
pub returns : goal.returns
returns c =
    let within : c.args.number < length c.self.inside.bytes.now / 128 =
    omega (arith, length-entries_of c.self.inside.is_wide c.self.inside.bytes.now, ap length c.self.view_is) in
    ap (λ (e : Entry). Some e) (c.of.ensures ∙ ap (directory_entry_of c.self.inside.is_wide) c.split_at.ensures.back)
    ∙ sym (entry_within c.self.inside.is_wide c.self.inside.bytes.now c.args.number within)
    ∙ ap (λ (es : List Entry). slice_get es c.args.number) c.self.view_is
