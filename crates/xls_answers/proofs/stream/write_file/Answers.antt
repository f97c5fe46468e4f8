use Rattle.std.proofs.Common.{subst, sym}
use Rattle.xls_container.specs.Files.{HasWorkbook}
use Rattle.xls_answers.proofs.FileLemmas.{of-workbook, workbook-refused}
use Rattle.xls_answers.proofs.stream.write_file.Goals as goal

pub returns-in_err-bytes : goal.returns-in_err-bytes
returns-in_err-bytes g c =
    let a = c.from_residual-in_err-bytes in
    workbook-refused c.args.answer.now c.args.options.now c.args.file.now _ _ c.in_err-bytes.field-0.0 a.result a.ensures.1
    c.in_ok-container.ensures.ok c.in_err-bytes.ensures.err

pub returns : goal.returns
returns g c =
    of-workbook c.args.answer.now c.args.options.now c.args.file.now _ _ _ c.write_workbook.result
    (record { container = _; is_opened = c.in_ok-container.ensures.ok; has = subst (HasWorkbook _) (sym c.as_slice.ensures.value) c.in_ok-bytes.ensures.ok })
    c.write_workbook.ensures
