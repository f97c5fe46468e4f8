use Rattle.std.proofs.Common.{◌∙◌, ◌||◌, ap, add-one, arith, drop, suc, sym}
use Rattle.std.specs.List.{list_any}
use Rattle.std.specs.Str.{bytes_eq, chars}
use Rattle.xls_formula_books.proofs.ListLemmas.{any_end, any_step}
use Rattle.xls_formula_books.proofs.early_prefixes.has_sheet.Goals as goal

pub returns-then-has_name : goal.returns-then-has_name
returns-then-has_name c =
    let name = chars c.args.name.now in
    let sheets = c.args.sheets.now in
    let number = c.sheets.number in
    sym (sym c.sheets.invariant ∙ (any_step name sheets number ∙ ap (λ b. b || list_any (bytes_eq name) (drop (suc number) sheets)) (sym c.has_name.ensures ∙ c.if-has_name.true)))

pub sheets-preserved : goal.sheets-preserved
sheets-preserved c =
    let name = chars c.args.name.now in
    let sheets = c.args.sheets.now in
    let number = c.sheets.number in
    ap (λ k. list_any (bytes_eq name) (drop k sheets)) (add-one number)
    ∙ (sym (any_step name sheets number ∙ ap (λ b. b || list_any (bytes_eq name) (drop (suc number) sheets)) (sym c.has_name.ensures ∙ c.if-has_name.false))
    ∙ c.sheets.invariant)

pub returns : goal.returns
returns c =
    sym (any_end (chars c.args.name.now) c.args.sheets.now c.sheets.number (omega (arith, c.len-count.ensures, c.sheets-test.false))) ∙ c.sheets.invariant
