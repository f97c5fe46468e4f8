use Rattle.std.specs.Str.{chars}
use Rattle.xls_biff.specs.Records.BoundSheet.{without_nuls}
use Rattle.xls_strings.proofs.TextLemmas.{text_spelled}
use Rattle.xls_biff.proofs.records.bound_sheet.text_without_nuls.Goals as goal

pub returns : goal.returns
returns c = text_spelled c.in_ok-kept.kept (without_nuls (chars c.args.text.now)) c.in_ok-kept.ensures
