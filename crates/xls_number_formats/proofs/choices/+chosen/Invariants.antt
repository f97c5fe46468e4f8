use Rattle.std.proofs.Common.{length}
use Rattle.xls_number_formats.proofs.choices.+chosen.Given as goal

abbrev pub decreases-chosen : goal.decreases-chosen
decreases-chosen l = length l.conditions.now
