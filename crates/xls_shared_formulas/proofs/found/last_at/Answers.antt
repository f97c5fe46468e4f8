use Rattle.std.proofs.Common.{◌-◌, leb, leb-true, arith, rules, sym, inl, inr}
use Rattle.std.proofs.lemmas.List.Sorted.{IsPartitionPoint-from_clause, IsPartitionedBy-leb}
use Rattle.std.proofs.lemmas.Bool.{leb-false, cases_lt}
use Rattle.xls_shared_formulas.specs.declared.fields.FormulaKind.TheVariants.{Shared}
use Rattle.xls_shared_formulas.specs.declared.found.RangeFormula.{RangeFormula}
use Rattle.xls_shared_formulas.specs.Found.{anchor_number, number}
use Rattle.xls_shared_formulas.proofs.FoundLemmas.{last_none, last_is}
use Rattle.xls_shared_formulas.proofs.found.last_at.Goals as goal

-- what stands for an element past the end
nothing : RangeFormula
nothing = record {
  offset = 0;
  kind = Shared;
  range = record { first_row = 0; last_row = 0; first_column = 0; last_column = 0 };
  anchor = record { row = 0; column = 0 };
}

pub returns-then-end-eq0 : goal.returns-then-end-eq0
returns-then-end-eq0 c =
    let n = number c.args.anchor in
    let parted = IsPartitionedBy-leb anchor_number _ n c.requires in
    let point = IsPartitionPoint-from_clause (λ f. leb (anchor_number f) n) _ _ c.partition_point-end.ensures.partitioned parted
    (λ a r q k. search rules) in
    sym (last_none n c.args.found.now nothing (λ k h e. absurd (
    let above = leb-false _ _ (point.1 k nothing (omega (arith, c.if-end-eq0.true)) h) in
    omega (arith, above, e)
    )))

pub returns-then-number-wanted : goal.returns-then-number-wanted
unfolding nothing
returns-then-number-wanted c =
    let n = number c.args.anchor in
    let end = c.partition_point-end.result in
    let parted = IsPartitionedBy-leb anchor_number _ n c.requires in
    let point = IsPartitionPoint-from_clause (λ f. leb (anchor_number f) n) _ _ c.partition_point-end.ensures.partitioned parted
    (λ a r q k. search rules) in
    sym (last_none n c.args.found.now nothing (λ k h e. elim (cases_lt k end) [
      | inl low ↦ absurd (
          let last = leb-true _ _ (point.0 (end - 1) nothing (omega arith) (omega (arith, low))) in
          let up = c.requires k (end - 1) nothing (omega (arith, low)) (omega (arith, low, c.partition_point-end.ensures.bound)) in
          omega (arith, last, up, e, c.if-number-wanted.true, c.number.ensures, c.number-wanted.ensures)
          )
      | inr high ↦ absurd (let above = leb-false _ _ (point.1 k nothing high h) in omega (arith, above, e))
    ]))

pub returns : goal.returns
unfolding nothing
returns c =
    let n = number c.args.anchor in
    let end = c.partition_point-end.result in
    let parted = IsPartitionedBy-leb anchor_number _ n c.requires in
    let point = IsPartitionPoint-from_clause (λ f. leb (anchor_number f) n) _ _ c.partition_point-end.ensures.partitioned parted
    (λ a r q k. search rules) in
    sym (last_is n c.args.found.now (end - 1) nothing (omega (arith, c.if-end-eq0.false, c.partition_point-end.ensures.bound))
    (omega (arith, c.if-number-wanted.false, c.number.ensures, c.number-wanted.ensures))
    (λ j low high e. absurd (let above = leb-false _ _ (point.1 j nothing (omega (arith, low, c.if-end-eq0.false)) high) in omega
    (arith, above, e))))
