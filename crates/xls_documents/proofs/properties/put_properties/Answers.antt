use Rattle.std.proofs.Common.{ap}
use Rattle.std.specs.List.{flat_map}
use Rattle.xls_documents.specs.Lines.{IsLineText}
use Rattle.xls_documents.specs.Properties.{custom_lines, known_lines}
use Rattle.xls_output.proofs.EachLemmas.{each-stops-more, puts-as, puts-each-stop, puts-then}
use Rattle.xls_documents.proofs.properties.put_properties.Goals as goal

pub returns-in_err-put_known-clause-puts : goal.returns-in_err-put_known-clause-puts
returns-in_err-put_known-clause-puts g c =
    puts-each-stop c.from_residual.result c.from_residual.ensures.1 (each-stops-more _ c.in_err-put_known.ensures)

pub returns-clause-puts : goal.returns-clause-puts
returns-clause-puts g c =
    puts-then (IsLineText c.args.form) (known_lines c.args.properties.now) _ _ c.put_customs.result c.in_ok-put_known.ensures
    (puts-as (IsLineText c.args.form) _ _ c.put_customs.result (ap (flat_map custom_lines) c.iter-customs.ensures.rest) c.put_customs.ensures)
