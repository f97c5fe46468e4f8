-- Laws over counts of faults.
use Rattle.xls_output.specs.Causes.{Rose}

-- a count that is the constant 0 gives no cause for a fault
abbrev pub SteadyCount : Type 0
SteadyCount = ¬ Rose 0 0
