use Rattle.std.proofs.Common.{◌+◌, List, ◌∷◌, drop, arith, refl, sym, ap, subst, ◌∙◌}
use Rattle.xls_range.specs.declared.sorted.Numbered.{Numbered}
use Rattle.xls_range.specs.Positions.{PutsEntry, numbered_entry, kept_cells}
use Rattle.xls_range.proofs.KeptLemmas.{at_index}
use Rattle.xls_range.proofs.PutLemmas.{SoFar, put_so_far}
use Rattle.xls_range.proofs.sorted.settle.Goals as goal

pub loop-i-preserved : goal.loop-i-preserved
loop-i-preserved g c =
    let l = c.loop-i in
    let all = c.sort_numbered.new.input.items in
    let xs = l.input.items in
    let ys = c.put-kept.new.input.items in
    let y = at_index xs l.i (omega (arith, c.loop-i-test.true, c.len-i-end.ensures, l.invariant.2)) in (
      put_so_far all (kept_cells l.kept xs) (kept_cells c.put-kept.result ys) y.0 (numbered_entry y.0) (drop (l.i + 1) ys) c.sort_numbered.ensures.order refl
          (subst (λ (r : List (Numbered g.row.T.Denot)). SoFar all (kept_cells l.kept xs) r) (y.1 ∙ ap (λ (r : List (Numbered g.row.T.Denot)). y.0 ∷ r) (sym c.put-kept.ensures.rest)) l.invariant.0)
          (subst (λ (z : Numbered g.row.T.Denot). PutsEntry (kept_cells l.kept xs) (numbered_entry z) (kept_cells c.put-kept.result ys)) (y.2 y.0) (c.put-kept.ensures.puts y.0)),
      c.put-kept.ensures.few,
      c.put-kept.ensures.len ∙ l.invariant.2,
    )
