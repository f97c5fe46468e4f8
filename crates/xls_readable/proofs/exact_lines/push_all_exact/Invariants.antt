use Rattle.std.proofs.Common.{◌≡◌, ◌++◌, take}
use Rattle.std.specs.List.{flat_map}
use Rattle.std.specs.String.{string_bytes}
use Rattle.xls_readable.specs.declared.items.Member.{Member}
use Rattle.xls_readable.specs.Items.{exact_tabbed, named_of}
use Rattle.xls_readable.proofs.exact_lines.push_all_exact.Given as goal

-- the fields so far are added
abbrev pub invariant-loop-member : goal.invariant-loop-member
invariant-loop-member l =
    string_bytes l.buf ≡ string_bytes l.fn.buf ++ flat_map (λ (m : Member). exact_tabbed (named_of m)) (take l.member-index l.members)
