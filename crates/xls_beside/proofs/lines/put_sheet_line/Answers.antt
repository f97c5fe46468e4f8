use Rattle.std.proofs.Common.{refl}
use Rattle.std.specs.String.{string_bytes}
use Rattle.xls_data.specs.Sheets.{sheet_content}
use Rattle.xls_output.proofs.EachLemmas.{puts-memory, puts-one}
use Rattle.xls_beside.specs.Lines.{IsLineText, sheet}
use Rattle.xls_beside.proofs.LineLemmas.{sheet_added}
use Rattle.xls_beside.proofs.lines.put_sheet_line.Goals as goal

pub returns-in_err-push_sheet : goal.returns-in_err-push_sheet
returns-in_err-push_sheet g c = puts-memory (IsLineText c.args.form) _ _ _ _ _ c.from_residual.result c.from_residual.ensures.1

pub returns : goal.returns
returns g c =
    let s = c.args.sheet.now in
    let added = sheet_added c.args.form (sheet_content s) c.as_str.result.now (string_bytes s.name) _ _ c.as_str.utf8 c.as_str.ensures.value refl
    c.in_ok-push_sheet.ensures.ok in
    puts-one (IsLineText c.args.form) (sheet (sheet_content s)) _ _ _ _ _ c.pass.result added c.pass.ensures.puts
