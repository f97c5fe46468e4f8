use Rattle.std.specs.Str.{chars}
use Rattle.xls_formula_names.specs.Commands.{second_commands}
use Rattle.xls_formula_names.proofs.commands.second_name.Goals as goal

pub returns : goal.returns
unfolding chars second_commands
returns c = c.name_in.ensures
