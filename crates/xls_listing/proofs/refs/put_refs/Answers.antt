use Rattle.std.proofs.Common.{◌≤◌, arith, ap, length, refl, ◌∙◌}
use Rattle.xls_formula.specs.Context.{Context}
use Rattle.xls_refs.specs.Views.{sheets_cited}
use Rattle.xls_listing.proofs.LineLemmas.{some-all, some-first, some-next, some-stopped}
use Rattle.xls_listing.proofs.RefLemmas.{sheets_cited_end, sheets_cited_step}
use Rattle.xls_output.proofs.EachLemmas.{puts-each-stop}
use Rattle.xls_listing.proofs.refs.put_refs.Goals as goal

pub loop-sheet-init : goal.loop-sheet-init
loop-sheet-init g c = some-first (g.F.LineForm.is_text c.args.form.now) _ _ _ refl

pub returns-in_err-put_refs_at : goal.returns-in_err-put_refs_at
returns-in_err-put_refs_at g c =
    let view = c.args.view.now in
    puts-each-stop c.from_residual.result c.from_residual.ensures.1
    (some-stopped _ c.loop-sheet.invariant (sheets_cited_step view.context.sheets (sheets_cited view) c.loop-sheet.sheet) c.in_err-put_refs_at.ensures)

pub loop-sheet-preserved : goal.loop-sheet-preserved
loop-sheet-preserved g c =
    let view = c.args.view.now in
    some-next c.loop-sheet.invariant (sheets_cited_step view.context.sheets (sheets_cited view) c.loop-sheet.sheet) c.in_ok-put_refs_at.ensures

pub returns : goal.returns
returns g c =
    let view = c.args.view.now in
    let count = c.len-sheet-end.ensures ∙ ap (λ (x : Context). length x.sheets) c.naming.ensures in
    let all : length view.context.sheets ≤ c.loop-sheet.sheet = omega (arith, c.loop-sheet-test.false, count) in
    some-all c.loop-sheet.invariant (sheets_cited_end view c.loop-sheet.sheet all)
