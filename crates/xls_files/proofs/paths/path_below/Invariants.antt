use Rattle.std.proofs.Common.{◌≡◌, ◌++◌, take}
use Rattle.std.specs.List.{flat_map}
use Rattle.std.specs.String.{string_bytes}
use Rattle.xls_files.specs.Paths.{below, kept_name}
use Rattle.xls_files.proofs.paths.path_below.Given as goal

abbrev pub invariant-loop-name : goal.invariant-loop-name
invariant-loop-name l = string_bytes l.path ≡ l.fn.out ++ flat_map (λ n. below (kept_name n.now)) (take l.name-index l.name-items)
