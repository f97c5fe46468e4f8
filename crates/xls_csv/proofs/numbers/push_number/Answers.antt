use Rattle.std.proofs.Common.{rules}
use Rattle.xls_data.specs.Numeric.{numeric_content}
use Rattle.xls_csv.specs.Fields.{field}
use Rattle.xls_csv.proofs.BareLemmas.{bare_field, bare_numeric}
use Rattle.xls_csv.proofs.numbers.push_number.Goals as goal

pub returns : goal.returns
returns c =
    let n = c.args.number in
    rw (bare_field (field (numeric_content n)) (bare_numeric n)) (search rules)
