use Rattle.std.proofs.Common.{◌-◌, arith, sym, ◌∙◌}
use Rattle.std.proofs.lemmas.Nat.{one_shl}
use Rattle.std.proofs.lemmas.Bool.{ne_eqb, eq-eqb}
use Rattle.xls_bytes.proofs.SizeLemmas.{size_zero, size_none_zero, size_none_far, size_between}
use Rattle.xls_bytes.proofs.doubles.size_of_fields.Goals as goal

pub returns-then-fraction-eq0-clause-value : goal.returns-then-fraction-eq0-clause-value
returns-then-fraction-eq0-clause-value c = rw (c.if-exponent-eq0.true, c.if-fraction-eq0.true) (sym size_zero)

pub returns-else-fraction-eq0-clause-value : goal.returns-else-fraction-eq0-clause-value
returns-else-fraction-eq0-clause-value c = rw c.if-exponent-eq0.true (sym (size_none_zero c.args.fraction (omega arith) (omega arith)))

pub returns-then-exponent-lt1023-clause-value : goal.returns-then-exponent-lt1023-clause-value
returns-then-exponent-lt1023-clause-value c = sym (size_none_far c.args.exponent c.args.fraction (omega arith) c.requires.fraction c.then-exponent-lt1023.either)

pub returns-then-size-step-ne0-clause-value : goal.returns-then-size-step-ne0-clause-value
returns-then-size-step-ne0-clause-value c =
    let shl = one_shl (1075 - c.args.exponent) 64 (omega arith) in
    let test = rw shl at c.if-size-step-ne0.true in
    sym (size_between c.args.exponent c.args.fraction (omega arith) (omega arith) c.requires.fraction ∙ rw (ne_eqb _ _ test))

pub returns-clause-value : goal.returns-clause-value
returns-clause-value c =
    let shl = one_shl (1075 - c.args.exponent) 64 (omega arith) in
    let test = rw shl at c.if-size-step-ne0.false in
    rw shl (sym (size_between c.args.exponent c.args.fraction (omega arith) (omega arith) c.requires.fraction ∙ rw (eq-eqb _ _ test)))
