use Rattle.std.proofs.Common.{◌≡◌, drop}
use Rattle.xls_macros.specs.Kinds.{entry_views, kind_in}
use Rattle.xls_macros.proofs.kind.kind_in.Given as goal

-- the first of the modules left is the first of all
abbrev pub invariant-modules : goal.invariant-modules
invariant-modules l = kind_in (entry_views (drop l.module-index l.modules)) l.name ≡ kind_in (entry_views l.modules) l.name
