use Rattle.std.proofs.Common.{ap}
use Rattle.xls_data.specs.Data.{content_of}
use Rattle.xls_csv.proofs.FieldLemmas.{printed}
use Rattle.xls_csv.proofs.laws.printed_fields.Goals as goal

pub returns : goal.returns
returns c = λ value no_date. printed value (λ d e. no_date d (ap content_of e))
