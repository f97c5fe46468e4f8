use Rattle.std.proofs.Common.{rules, ◌≡◌, ◌∷◌, length, true, false}
use Rattle.std.specs.Char.Utf16.{is_high_surrogate, is_low_surrogate}
use Rattle.xls_text.proofs.UnitLemmas.{units_pair, units_alone, units_not_high, units_not_low}
use Rattle.xls_text.proofs.units.char_at.Goals as goal

pub returns-then-not-is_high-clause-text : goal.returns-then-not-is_high-clause-text
returns-then-not-is_high-clause-text c =
    let other : is_high_surrogate c.args.unit ≡ false = search rules in
    rw c.lone.ensures (units_not_high c.args.unit c.args.rest.now other)

pub returns-in_default-clause-text : goal.returns-in_default-clause-text
returns-in_default-clause-text c =
    let empty : length c.args.rest.now ≡ 0 = search rules in
    rw c.lone-in_default.ensures (units_alone c.args.unit c.args.rest.now empty)

pub returns-then-not-is_low-clause-text : goal.returns-then-not-is_low-clause-text
returns-then-not-is_low-clause-text c =
    let other : is_low_surrogate c.in-Some.next.now ≡ false = search rules in
    let high : is_high_surrogate c.args.unit ≡ true = search rules in
    let whole : c.args.rest.now ≡ c.in-Some.next.now ∷ c.in-Some.after.now = search rules in
    rw (c.lone-then-not-is_low.ensures, whole) (units_not_low c.args.unit c.in-Some.next.now c.in-Some.after.now other high)

pub returns-clause-text : goal.returns-clause-text
returns-clause-text c =
    let low : is_low_surrogate c.in-Some.next.now ≡ true = search rules in
    let high : is_high_surrogate c.args.unit ≡ true = search rules in
    let whole : c.args.rest.now ≡ c.in-Some.next.now ∷ c.in-Some.after.now = search rules in
    rw (c.pair.ensures, whole) (units_pair c.args.unit c.in-Some.next.now c.in-Some.after.now high low)
