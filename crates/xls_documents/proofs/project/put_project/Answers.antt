use Rattle.std.proofs.Common.{ap, map}
use Rattle.xls_documents.specs.Lines.{IsLineText}
use Rattle.xls_documents.specs.Projects.{reference_line}
use Rattle.xls_output.proofs.EachLemmas.{each-as, each-stops-as, each-stops-more, puts-each-stop, puts-then}
use Rattle.xls_documents.proofs.project.put_project.Goals as goal

pub returns-in_err-put_references : goal.returns-in_err-put_references
returns-in_err-put_references g c =
    puts-each-stop c.from_residual.result c.from_residual.ensures.1
    (each-stops-more _ (each-stops-as c.in_err-put_references.ensures (ap (map reference_line) c.get_references.ensures)))

pub returns : goal.returns
returns g c =
    puts-then (IsLineText c.args.form) (map reference_line c.args.project.now.references) _ _ c.put_modules.result
    (each-as c.in_ok-put_references.ensures (ap (map reference_line) c.get_references.ensures)) c.put_modules.ensures
