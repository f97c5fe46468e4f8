use Rattle.std.proofs.Common.{◌≡◌, Bool, get_or, arith, sym, ap, subst, ◌∙◌}
use Rattle.std.specs.Prelude.{IsTrue}
use Rattle.xls_range.specs.declared.sorted.Numbered.{Numbered}
use Rattle.xls_range.specs.Positions.{EndsAt, Position, kept_cells}
use Rattle.xls_range.proofs.KeptLemmas.{at_index, ends_kept}
use Rattle.xls_range.proofs.sorted.ends_at.Goals as goal

pub returns-then-kept-gt0-clause-ends : goal.returns-then-kept-gt0-clause-ends
returns-then-kept-gt0-clause-ends g c = λ d.
    let xs = c.args.input.now in
    let ks = kept_cells c.args.kept xs in
    let y = at_index xs c.args.i c.requires.room in
    let q = c.get_position-then-kept-gt0.result in
    let here : q ≡ (get_or xs c.args.i d).cell.0 =
    c.get_position-then-kept-gt0.ensures ∙ ap (λ (x : Numbered g.row.T.Denot). x.cell.0) (y.2 c.index-input-i.result ∙ sym (y.2 d)) in
    subst (λ (p : Position). (IsTrue c.eq.result → EndsAt ks p.0 p.1) × (EndsAt ks p.0 p.1 → IsTrue c.eq.result)) here
    (subst (λ (b : Bool). (IsTrue b → EndsAt ks q.0 q.1) × (EndsAt ks q.0 q.1 → IsTrue b)) (sym c.eq.ensures)
    (ends_kept xs c.args.kept c.index-input-kept.result c.get_position.result q c.if-kept-gt0.true (omega (arith, c.requires.within, c.requires.room)) c.get_position.ensures))
