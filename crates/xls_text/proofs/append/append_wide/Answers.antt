use Rattle.std.proofs.Common.{rules, ◌≡◌, [], sym, ◌∙◌, append-nil, append_assoc}
use Rattle.std.specs.Char.{IsScalar}
use Rattle.xls_text.specs.Pages.{units_of}
use Rattle.xls_text.proofs.UnitLemmas.{units_nil}
use Rattle.xls_bytes.proofs.GrownLemmas.{IsGrown-push}
use Rattle.xls_text.proofs.append.append_wide.Goals as goal

pub units-preserved : goal.units-preserved
units-preserved c =
    let char : IsScalar c.in-Some.first = search rules in
    record {
      so_far = rw (c.in_ok-push.ensures.bytes, append_assoc) (rw c.in-Some.ensures.text at c.units.invariant.so_far);
      grown = IsGrown-push _ _ _ _ c.units.invariant.grown char c.in_ok-push.ensures.bytes;
    }

pub returns-clause-ok : goal.returns-clause-ok
returns-clause-ok c =
    let none : units_of c.units.rest.now ≡ [] = search rules in
    sym (append-nil _) ∙ rw (units_nil (units_of c.units.rest.now) none) at c.units.invariant.so_far
