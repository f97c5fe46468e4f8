use Rattle.std.specs.Str.{chars}
use Rattle.xls_formula_names.specs.Tables.{built_in_names}
use Rattle.xls_formula_names.proofs.tables.built_in_name.Goals as goal

pub returns : goal.returns
unfolding chars built_in_names
returns c = record { exact = c.name_in.ensures }
