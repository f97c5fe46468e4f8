use Rattle.xls_lay.proofs.FilledLemmas.{fills_string}
use Rattle.xls_lay.proofs.fill.Fill.add_string.Goals as goal

pub returns : goal.returns
returns c =
    fills_string c.args.self.now c.add.new.self c.add_units.new.self c.args.units.now c.is_all_narrow-is_wide.result c.is_all_narrow-is_wide.ensures c.add.ensures c.add_units.ensures
