use Rattle.std.proofs.Common.{refl}
use Rattle.xls_open.specs.Workbook.{name_texts}
use Rattle.xls_listing.specs.Listing.{name_line}
use Rattle.xls_listing.proofs.LineLemmas.{some-first, some-next, some-stopped}
use Rattle.xls_listing.proofs.DisplayedLemmas.{Reported, drop_step}
use Rattle.xls_output.proofs.EachLemmas.{puts-each-stop}
use Rattle.xls_listing.proofs.listing.put_names.Goals as goal

pub loop-name-init : goal.loop-name-init
loop-name-init g c = some-first (g.F.LineForm.is_text c.args.form.now) _ _ _ refl

pub loop-name-preserved : goal.loop-name-preserved
loop-name-preserved g c =
    some-next c.loop-name.invariant
    (drop_step (λ (n : Reported). name_line (name_texts n)) c.args.names.now c.loop-name.name-index _ c.loop-name-test.true c.name-item.is)
    c.in_ok-put_name.ensures

pub returns-in_err-put_name : goal.returns-in_err-put_name
returns-in_err-put_name g c =
    puts-each-stop c.from_residual.result c.from_residual.ensures.1
    (some-stopped _ c.loop-name.invariant
    (drop_step (λ (n : Reported). name_line (name_texts n)) c.args.names.now c.loop-name.name-index _ c.loop-name-test.true c.name-item.is)
    c.in_err-put_name.ensures)
