use Rattle.std.proofs.Common.{rules}
use Rattle.xls_csv.proofs.FieldLemmas.{text_field}
use Rattle.xls_csv.proofs.record.Record.push.Goals as goal

pub returns-in-String : goal.returns-in-String
returns-in-String c = search (rules, text_field)
