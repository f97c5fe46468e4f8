use Rattle.std.proofs.lemmas.Result.{err_from_is_err_and}
use Rattle.xls_vba.specs.References.{reference_views}
use Rattle.xls_vba.proofs.DirectoryLemmas.{fails_items, fails_modules}
use Rattle.xls_vba.proofs.project.VbaProject.from_dir.Goals as goal

pub returns-in_err-references : goal.returns-in_err-references
returns-in_err-references c =
    let p = err_from_is_err_and c.from_residual-in_err-references.result c.from_residual-in_err-references.ensures.1 in
    rw (p.1, p.2) (fails_items c.in_err-references.field-0.0 c.args.bytes.now c.in_ok-page.page c.in_ok-page.rest.now c.in_ok-page.ensures c.in_err-references.ensures)

pub returns-in_err-modules : goal.returns-in_err-modules
returns-in_err-modules c =
    let p = err_from_is_err_and c.from_residual-in_err-modules.result c.from_residual-in_err-modules.ensures.1 in
    rw (p.1, p.2) (fails_modules c.in_err-modules.field-0.0 c.args.bytes.now c.in_ok-page.page c.in_ok-page.rest.now c.in_ok-references.rest.now (reference_views c.in_ok-references.references.items) c.in_ok-page.ensures c.in_ok-references.ensures c.in_err-modules.ensures)
