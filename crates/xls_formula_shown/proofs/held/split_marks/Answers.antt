use Rattle.std.proofs.Common.{sym}
use Rattle.std.specs.Str.{chars}
use Rattle.xls_formula_shown.proofs.MarkLemmas.{xlws_mark, xlfn_mark, both_marks}
use Rattle.xls_formula_shown.proofs.held.split_marks.Goals as goal

pub returns-in-Some-behind_text : goal.returns-in-Some-behind_text
unfolding chars
returns-in-Some-behind_text c =
    both_marks (chars c.args.name.now) (chars c.in-Some.rest.now) (chars c.in-Some-behind_text.last.now) (sym c.in-Some.ensures) (sym c.in-Some-behind_text.ensures)

pub returns-in-None-behind_text : goal.returns-in-None-behind_text
unfolding chars
returns-in-None-behind_text c = xlfn_mark (chars c.args.name.now) (chars c.in-Some.rest.now) (sym c.in-Some.ensures) (sym c.in-None-behind_text.ensures)

pub returns-in-Some-behind_text-2 : goal.returns-in-Some-behind_text-2
unfolding chars
returns-in-Some-behind_text-2 c =
    xlws_mark (chars c.args.name.now) (chars c.in-Some-behind_text-2.rest.now) (sym c.in-None.ensures) (sym c.in-Some-behind_text-2.ensures)
