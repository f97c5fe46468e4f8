use Rattle.std.specs.Str.{chars}
use Rattle.xls_formula_names.specs.Commands.{fourth_commands}
use Rattle.xls_formula_names.proofs.commands.fourth_name.Goals as goal

pub returns : goal.returns
unfolding chars fourth_commands
returns c = c.name_in.ensures
