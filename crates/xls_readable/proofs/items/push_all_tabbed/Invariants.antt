use Rattle.std.proofs.Common.{take}
use Rattle.std.specs.String.{string_bytes}
use Rattle.xls_output.specs.Added.{AddsText}
use Rattle.xls_readable.specs.declared.items.Member.{Member}
use Rattle.xls_output.specs.Each.{Concatenates}
use Rattle.xls_readable.specs.Items.{IsTabbed, named_of}
use Rattle.xls_readable.proofs.items.push_all_tabbed.Given as goal

-- the fields so far are added
abbrev pub invariant-loop-member : goal.invariant-loop-member
invariant-loop-member l =
    AddsText (Concatenates (λ (m : Member). IsTabbed (named_of m)) (take l.member-index l.members)) (string_bytes l.fn.buf) (string_bytes l.buf)
