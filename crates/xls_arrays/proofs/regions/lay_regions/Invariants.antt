use Rattle.xls_arrays.specs.Arrays.{with_region}
use Rattle.xls_arrays.proofs.LaidLemmas.{IsPartly}
use Rattle.xls_arrays.proofs.regions.lay_regions.Given as goal

-- the regions so far are laid
abbrev pub invariant-loop-region : goal.invariant-loop-region
invariant-loop-region l = IsPartly with_region l.fn.regions l.region-iterator l.fn.rooms l.rooms
