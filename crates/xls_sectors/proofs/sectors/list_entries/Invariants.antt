use Rattle.std.proofs.Common.{◌≡◌, ◌++◌}
use Rattle.xls_bytes.specs.Numbers.{u32s_of}
use Rattle.xls_sectors.specs.Tables.{in_use}
use Rattle.xls_sectors.proofs.sectors.list_entries.Given as goal

-- what is listed, and what is left to list
abbrev pub invariant-entries : goal.invariant-entries
invariant-entries l = l.listed.items ++ in_use l.entry-iterator ≡ l.fn.listed.items ++ in_use (u32s_of l.block)
