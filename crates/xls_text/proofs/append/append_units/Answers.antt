use Rattle.std.proofs.Common.{rules, ◌≡◌, sym, ◌∙◌, append-nil, append_assoc, length}
use Rattle.std.specs.Char.{IsScalar}
use Rattle.xls_text.proofs.UnitLemmas.{units_none}
use Rattle.xls_bytes.proofs.GrownLemmas.{IsGrown-push}
use Rattle.xls_text.proofs.append.append_units.Goals as goal

pub units-preserved : goal.units-preserved
units-preserved c =
    let char : IsScalar c.in-Some.first = search rules in
    record {
      so_far = rw (c.in_ok-push.ensures.bytes, append_assoc) (rw c.in-Some.ensures.text at c.units.invariant.so_far);
      grown = IsGrown-push _ _ _ _ c.units.invariant.grown char c.in_ok-push.ensures.bytes;
    }

pub returns-clause-ok : goal.returns-clause-ok
returns-clause-ok c =
    let none : length c.units.rest.now ≡ 0 = search rules in
    sym (append-nil _) ∙ rw (units_none _ none) at c.units.invariant.so_far
