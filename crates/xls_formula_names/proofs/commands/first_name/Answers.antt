use Rattle.std.specs.Str.{chars}
use Rattle.xls_formula_names.specs.Commands.{first_commands}
use Rattle.xls_formula_names.proofs.commands.first_name.Goals as goal

pub returns : goal.returns
unfolding chars first_commands
returns c = c.name_in.ensures
