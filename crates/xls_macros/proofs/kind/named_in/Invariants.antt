use Rattle.std.proofs.Common.{◌≡◌, ◌++◌, drop, map}
use Rattle.xls_macros.specs.Kinds.{entries_by, entry_views}
use Rattle.xls_macros.proofs.kind.named_in.Given as goal

-- the modules so far, with those that the lines left name, are all
abbrev pub invariant-lines : goal.invariant-lines
invariant-lines l = entry_views l.modules.items ++ entries_by (map (λ x. x.now) (drop l.line-index l.lines)) ≡ entries_by (map (λ x. x.now) l.lines)
