use Rattle.std.specs.Str.{chars}
use Rattle.xls_formula_names.specs.Commands.{third_commands}
use Rattle.xls_formula_names.proofs.commands.third_name.Goals as goal

pub returns : goal.returns
unfolding chars third_commands
returns c = c.name_in.ensures
