-- How many things of a topic are damaged.
use Rattle.std.specs.Prelude.{◌≡◌, ℕ, List}
use Rattle.xls_beside.specs.Damaged.{at_most_counted, damaged_among}
use Rattle.xls_beside.specs.declared.topics.Topic.{Topic}
use Rattle.xls_open.specs.Globals.{AreGlobals, State}
use Rattle.xls_open.specs.Workbook.{rules_of}
use Rattle.xls_open.specs.declared.options.XlsOptions.{XlsOptions}
use Rattle.xls_answers.specs.Answers.{lines_beside}

-- the number of lines of a topic that tell of something damaged
abbrev pub CountsDamaged : Topic → XlsOptions → List ℕ → ℕ → Type 0
CountsDamaged topic options bytes count =
    (globals : State) × AreGlobals (rules_of options) bytes globals
    × (count ≡ at_most_counted (damaged_among (lines_beside topic globals bytes)))
