use Rattle.std.proofs.Common.{[], ◌∷◌}
use Rattle.std.proofs.lemmas.Result.{on_ok_weaker}
use Rattle.xls_arrays.specs.Classed.{classed_book}
use Rattle.xls_arrays.specs.Displayed.{each_with}
use Rattle.xls_arrays.specs.Laying.{LaysOne}
use Rattle.xls_arrays.proofs.DisplayedLemmas.{asked-all, asked-bare, asked-one}
use Rattle.xls_arrays.proofs.LaidLemmas.{lays-alone}
use Rattle.xls_arrays.proofs.laying.lay_asked_for.Goals as goal

pub returns-then-options-eq-ALL_SHEETS-clause-ok : goal.returns-then-options-eq-ALL_SHEETS-clause-ok
returns-then-options-eq-ALL_SHEETS-clause-ok c =
    let book = classed_book c.args.view.now in (
      each_with book.sheets book.contents,
      asked-all c.args.options.now book c.if-options-eq-ALL_SHEETS.true,
      c.in_ok-lay_whole_sheets.ensures.ok,
    )

pub returns-then-options-eq-ONE_SHEET-clause-ok : goal.returns-then-options-eq-ONE_SHEET-clause-ok
returns-then-options-eq-ONE_SHEET-clause-ok c =
    let book = classed_book c.args.view.now in
    on_ok_weaker c.lay_one.result
    (λ (one : LaysOne book c.args.options.now.sheet c.args.rooms.now c.lay_one.new.rooms).
    (one.0 ∷ [], asked-one c.args.options.now book one.0 c.if-options-eq-ONE_SHEET.true one.1, lays-alone one.0 one.2))
    c.lay_one.ensures.ok

pub returns-clause-ok : goal.returns-clause-ok
returns-clause-ok c =
    let book = classed_book c.args.view.now in (
      each_with book.sheets [],
      asked-bare c.args.options.now book c.if-options-eq-ALL_SHEETS.false c.if-options-eq-ONE_SHEET.false,
      c.in_ok-lay_bare_sheets.ensures.ok,
    )
