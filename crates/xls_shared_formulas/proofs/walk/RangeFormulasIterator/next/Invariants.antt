use Rattle.std.proofs.Common.{◌≡◌, length}
use Rattle.xls_shared_formulas.specs.Found.{formulas_from}
use Rattle.xls_shared_formulas.proofs.walk.RangeFormulasIterator.next.Given as goal

abbrev pub invariant-records : goal.invariant-records
invariant-records l =
    let now = l.self-inside in
    let first = l.initial.self-inside in
    formulas_from now.version now.offset now.part.now now.anchor now.records
    ≡ formulas_from first.version first.offset first.part.now first.anchor first.records

abbrev pub decreases-records : goal.decreases-records
decreases-records l = length l.self-inside.records
