use Rattle.std.proofs.Common.{rules}
use Rattle.xls_cell_formats.proofs.KeptLemmas.{kept_if}
use Rattle.xls_cell_formats.proofs.kept.KeptFormats.keep.Goals as goal

pub returns : goal.returns
returns c =
    kept_if c.put_place.result c.args.self.now.places.items c.put_place.new.places.items c.args.self.now.formats.items c.push.new.self.items
    c.args.identifier _ _ (search rules) (search rules) c.put_place.ensures
