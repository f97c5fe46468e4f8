use Rattle.std.proofs.Common.{rules}
use Rattle.std.proofs.lemmas.Str.{chars_from_encodes}
use Rattle.xls_biff.proofs.records.bound_sheet.kept_characters.Goals as goal

pub returns : goal.returns
returns c = search (rules, chars_from_encodes)
