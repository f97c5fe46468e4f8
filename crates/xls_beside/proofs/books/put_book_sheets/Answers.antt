use Rattle.std.specs.Prelude.{String}
use Rattle.std.specs.Global.{Global}
use Rattle.xls_strings.specs.Texts.{text_of}
use Rattle.xls_beside.specs.Books.{book_sheet}
use Rattle.std.proofs.Common.{◌∷◌, [], ◌∙◌}
use Rattle.xls_output.proofs.EachLemmas.{each-as, each-item, each-item-stopped, each-none, each-stops-as, puts-each-stop}
use Rattle.xls_beside.specs.Lines.{IsLineText}
use Rattle.xls_beside.proofs.LineLemmas.{viewed_lines, whole_lines}
use Rattle.xls_beside.proofs.books.put_book_sheets.Goals as goal

pub loop-name-init : goal.loop-name-init
loop-name-init g c = each-none (IsLineText c.args.form) _

pub loop-name-preserved : goal.loop-name-preserved
loop-name-preserved g c =
    each-item (λ (s : String Global). book_sheet (text_of s) ∷ []) c.args.sheets.now c.loop-name.name-index _ c.loop-name-test.true
    c.loop-name.invariant (rw c.name-item.is at c.in_ok-put_named.ensures)

pub returns-in_err-put_named : goal.returns-in_err-put_named
returns-in_err-put_named g c =
    puts-each-stop c.from_residual.result c.from_residual.ensures.1
    (each-stops-as (each-item-stopped (λ (s : String Global). book_sheet (text_of s) ∷ []) c.args.sheets.now c.loop-name.name-index _
    c.loop-name-test.true c.loop-name.invariant (rw c.name-item.is at c.in_err-put_named.ensures))
    (viewed_lines book_sheet text_of c.args.sheets.now))

pub returns : goal.returns
returns g c =
    each-as c.loop-name.invariant
    (whole_lines (λ (s : String Global). book_sheet (text_of s) ∷ []) c.args.sheets.now _ c.loop-name-test.false
    ∙ viewed_lines book_sheet text_of c.args.sheets.now)
