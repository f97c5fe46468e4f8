use Rattle.std.proofs.Common.{◌≡◌, ◌∙◌, sym, ap, subst, take, drop, ℕ, List, Ok}
use Rattle.std.proofs.lemmas.Result.{err_from_is_err_and}
use Rattle.xls_bytes.specs.Numbers.{le}
use Rattle.xls_dates.specs.Classes.{class_of}
use Rattle.xls_dates.specs.declared.formats.CellFormat.{CellFormat}
use Rattle.xls_record.specs.Reading.{Fails}
use Rattle.xls_record.proofs.ReadingLemmas.{Fails-then}
use Rattle.xls_biff.specs.Records.Format.{format_id, format_text_at}
use Rattle.xls_biff.proofs.records.format.parse_format.Goals as goal

pub returns-in_err-text : goal.returns-in_err-text
returns-in_err-text c =
    let body = c.args.r.now.body.now in
    let fault = c.in_err-text.field-0.0 in
    let p = err_from_is_err_and c.from_residual-in_err-text.result c.from_residual-in_err-text.ensures.1 in
    let id : format_id (le (take 2 body)) ≡ Ok tt = ap format_id (sym c.read_u16-ifmt.ensures) ∙ c.in_ok-check_id.ensures in
    let text : Fails fault (format_text_at c.args.encoding.now c.args.biff (drop 2 body)) =
    subst (λ (bs : List ℕ). Fails fault (format_text_at c.args.encoding.now c.args.biff bs)) c.split_at.ensures.back c.in_err-text.ensures in
    rw (p.1, p.2, c.in_ok-need.ensures.exact, id) (Fails-then {Y = ℕ × CellFormat} fault (format_text_at c.args.encoding.now c.args.biff (drop 2 body)) (λ cs. Ok (le (take 2 body), class_of cs)) text)
