use Rattle.std.proofs.Common.{drop, map}
use Rattle.xls_open.specs.Workbook.{name_texts}
use Rattle.xls_arrays.specs.Arrays.{with_name}
use Rattle.xls_arrays.proofs.LaidLemmas.{IsPartly}
use Rattle.xls_arrays.proofs.laying.lay_names.Given as goal

-- the names so far are laid
abbrev pub invariant-loop-name : goal.invariant-loop-name
invariant-loop-name l =
    IsPartly with_name (map name_texts l.names) (map name_texts (drop l.name-index l.names)) l.fn.rooms l.rooms
