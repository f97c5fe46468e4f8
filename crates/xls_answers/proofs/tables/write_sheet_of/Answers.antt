use Rattle.std.proofs.Common.{refl, rules}
use Rattle.xls_open.specs.Workbook.{rules_of}
use Rattle.xls_output.specs.declared.stop.Stop.TheVariants.{Memory}
use Rattle.xls_answers.specs.declared.failure.Failure.TheVariants.{Stopped}
use Rattle.xls_answers.proofs.SheetLemmas.{no-sheet, not-read, sheet-stopped}
use Rattle.xls_answers.proofs.tables.write_sheet_of.Goals as goal

pub returns-in_err-index : goal.returns-in_err-index
returns-in_err-index g c =
    let residual = c.from_residual-in_err-index in
    no-sheet (rules_of c.args.options.now) c.args.bytes.now c.args.choice.now _ _ c.in_ok-view.view (g.K.Sink.state c.args.sink.now)
    c.in_err-index.field-0.0 residual.result residual.ensures.1 c.in_ok-view.ensures.ok c.in_err-index.ensures.err

-- out of memory for the formats of the cells
pub returns-in_err-formats : goal.returns-in_err-formats
returns-in_err-formats g c =
    let residual = c.from_residual-in_err-formats in
    no-sheet (rules_of c.args.options.now) c.args.bytes.now c.args.choice.now _ _ c.in_ok-view.view (g.K.Sink.state c.args.sink.now)
    (Stopped Memory) residual.result residual.ensures.1 c.in_ok-view.ensures.ok refl

-- out of memory for what is hidden
pub returns-in_err-hidden : goal.returns-in_err-hidden
returns-in_err-hidden g c =
    let residual = c.from_residual-in_err-hidden in
    no-sheet (rules_of c.args.options.now) c.args.bytes.now c.args.choice.now _ _ c.in_ok-view.view (g.K.Sink.state c.args.sink.now)
    (Stopped Memory) residual.result residual.ensures.1 c.in_ok-view.ensures.ok refl

-- the globals aren't read
pub returns-in_err-parts : goal.returns-in_err-parts
returns-in_err-parts g c =
    let residual = c.from_residual-in_err-parts in
    not-read (rules_of c.args.options.now) c.args.bytes.now c.args.choice.now _ _ c.in_ok-view.view (g.K.Sink.state c.args.sink.now)
    c.in_err-parts.field-0.0 residual.result residual.ensures.1 c.in_err-parts.ensures.err

pub returns-in_err-write_sheet_at : goal.returns-in_err-write_sheet_at
returns-in_err-write_sheet_at g c =
    let residual = c.from_residual-in_err-write_sheet_at in
    sheet-stopped (rules_of c.args.options.now) c.args.options.now c.args.bytes.now c.args.choice.now c.args.table.now c.args.sight c.in_ok-view.view
    c.in_ok-index.index c.in_ok-hidden.hidden (g.K.Sink.state c.args.sink.now) (g.K.Sink.state c.write_sheet_at.new.sink)
    c.in_err-write_sheet_at.field-0.0 residual.result residual.ensures.1 c.in_ok-view.ensures.ok c.in_ok-index.ensures.ok (search rules) (search rules)
