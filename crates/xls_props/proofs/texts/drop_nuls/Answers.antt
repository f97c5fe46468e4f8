use Rattle.std.proofs.Common.{◌∙◌}
use Rattle.xls_props.proofs.texts.drop_nuls.Goals as goal

pub returns : goal.returns
returns c =
    let prefix = rw c.as_bytes.ensures.value at c.len_without_nuls-n.ensures.prefix in
    c.truncate.ensures.bytes ∙ prefix
