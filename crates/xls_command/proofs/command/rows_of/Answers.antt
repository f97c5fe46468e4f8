use Rattle.std.proofs.Common.{refl, sym, subst, ◌∙◌, arith}
use Rattle.xls_command.specs.Words.{BeginsWell}
use Rattle.xls_command.proofs.RowsLemmas.{rows_begin, rows_found, rows_parsed, rows_same}
use Rattle.xls_command.proofs.command.rows_of.Goals as goal

pub returns-then-not-begins_well : goal.returns-then-not-begins_well
returns-then-not-begins_well c n i =
    let well = c.if-not-begins_well.ensures.1 (subst BeginsWell (sym c.as_bytes.ensures.value) (rows_begin c.args.text.now n i)) in
    cc

pub returns-in-Ok : goal.returns-in-Ok
returns-in-Ok c =
    rows_found c.args.text.now c.in-Ok.rows c.parse.result (subst BeginsWell c.as_bytes.ensures.value (c.if-not-begins_well.ensures.0 refl)) c.parse.ensures.value.0 c.in-Ok.is c.if-rows-le-MAX_ROWS.true

-- more rows than there may be
pub returns-in_default : goal.returns-in_default
returns-in_default c n i =
    let same = rows_same c.parse.result n c.in-Ok.rows (rows_parsed c.args.text.now n c.parse.result c.parse.ensures.value.0 i) c.in-Ok.is in
    omega (arith, same, i.most, c.if-rows-le-MAX_ROWS.false)

-- no number
pub returns-in_default-2 : goal.returns-in_default-2
returns-in_default-2 c n i =
    let both = sym (rows_parsed c.args.text.now n c.parse.result c.parse.ensures.value.0 i) ∙ c.in_default.is in
    cc
