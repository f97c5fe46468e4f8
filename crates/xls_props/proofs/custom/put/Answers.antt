use Rattle.std.proofs.Common.{string_bytes}
use Rattle.std.proofs.lemmas.Map.Text.{btree_map_updates_text}
use Rattle.xls_props.proofs.custom.put.Goals as goal

pub returns : goal.returns
returns c =
    btree_map_updates_text (string_bytes c.args.name) c.args.map.now c.insert.new.self _ c.in_ok-insert.ensures.updates
