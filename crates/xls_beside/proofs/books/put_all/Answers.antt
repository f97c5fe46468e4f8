use Rattle.std.proofs.Common.{ap, map}
use Rattle.xls_open.specs.Globals.{listed_of}
use Rattle.xls_other_books.specs.Links.{Links}
use Rattle.xls_output.proofs.EachLemmas.{puts-as, puts-memory}
use Rattle.xls_beside.specs.Books.{linked_lines}
use Rattle.xls_beside.specs.Lines.{IsLineText}
use Rattle.xls_beside.proofs.books.put_all.Goals as goal

pub returns-in_err-other : goal.returns-in_err-other
returns-in_err-other g c = puts-memory (IsLineText c.args.form) _ _ _ _ _ c.from_residual.result c.from_residual.ensures.1

pub returns : goal.returns
returns g c =
    let sheets = map listed_of c.args.listed.now in
    let same = ap (λ (l : Links). linked_lines l c.args.version sheets c.args.stream.now) c.in_ok-other.ensures in
    puts-as (IsLineText c.args.form) _ _ c.put_linked_and_sheets.result same c.put_linked_and_sheets.ensures
