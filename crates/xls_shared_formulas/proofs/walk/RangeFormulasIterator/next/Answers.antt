use Rattle.std.proofs.Common.{rules, sym, ap, ◌∙◌}
use Rattle.xls_parts.specs.PartRecords.{placed_of}
use Rattle.xls_shared_formulas.specs.Fields.{or_else}
use Rattle.xls_shared_formulas.specs.Found.{formulas_from, with_found}
use Rattle.xls_shared_formulas.proofs.WalkLemmas.{from_end, from_cell, from_other, one_fewer}
use Rattle.xls_shared_formulas.proofs.walk.RangeFormulasIterator.next.Goals as goal

pub records-preserved-then-r-eq-FORMULA : goal.records-preserved-then-r-eq-FORMULA
records-preserved-then-r-eq-FORMULA c =
    let s = c.records.self-inside in
    ap (λ a. formulas_from s.version s.offset s.part.now a c.next.new.self)
    (c.or_else-self-inside.ensures ∙ ap (λ a. or_else a s.anchor) c.formula_cell.ensures)
    ∙ sym (from_cell s.version s.offset s.part.now s.anchor (placed_of c.in-Some.r) c.next.new.self c.if-r-eq-FORMULA.true)
    ∙ ap (formulas_from s.version s.offset s.part.now s.anchor) (sym c.in-Some.ensures.steps) ∙ c.records.invariant

pub returns-in-Some-formula_at-clause-steps : goal.returns-in-Some-formula_at-clause-steps
returns-in-Some-formula_at-clause-steps c =
    let s = c.records.self-inside in
    sym c.self.view_is ∙ sym c.records.invariant ∙ ap (formulas_from s.version s.offset s.part.now s.anchor) c.in-Some.ensures.steps
    ∙ from_other s.version s.offset s.part.now s.anchor (placed_of c.in-Some.r) c.next.new.self c.if-r-eq-FORMULA.false
    ∙ ap (λ f. with_found f (formulas_from s.version s.offset s.part.now s.anchor c.next.new.self)) (sym c.in-Some-formula_at.ensures)

pub returns-in-Some-formula_at-clause-goes : goal.returns-in-Some-formula_at-clause-goes
returns-in-Some-formula_at-clause-goes c = let shorter = one_fewer _ _ _ (returns-in-Some-formula_at-clause-steps c) in search rules

pub records-preserved : goal.records-preserved
records-preserved c =
    let s = c.records.self-inside in
    ap (λ f. with_found f (formulas_from s.version s.offset s.part.now s.anchor c.next.new.self)) c.in_default-formula_at.ensures
    ∙ sym (from_other s.version s.offset s.part.now s.anchor (placed_of c.in-Some.r) c.next.new.self c.if-r-eq-FORMULA.false)
    ∙ ap (formulas_from s.version s.offset s.part.now s.anchor) (sym c.in-Some.ensures.steps) ∙ c.records.invariant

pub returns-clause-steps : goal.returns-clause-steps
returns-clause-steps c =
    let s = c.records.self-inside in
    let step = c.in_default.ensures.steps in (
      sym c.self.view_is ∙ sym c.records.invariant ∙ ap (formulas_from s.version s.offset s.part.now s.anchor) step.0
          ∙ from_end s.version s.offset s.part.now s.anchor,
      ap (formulas_from s.version s.offset s.part.now s.anchor) step.1 ∙ from_end s.version s.offset s.part.now s.anchor,
    )
