use Rattle.std.proofs.Common.{◌++◌, ◌-◌, ◌∙◌, ℕ, ap, sym, take}
use Rattle.xls_parts.specs.PartRecords.{placed_of}
use Rattle.xls_comments.specs.Units.{piece_units}
use Rattle.xls_comments.proofs.UnitLemmas.{piece_step}
use Rattle.xls_comments.proofs.units.units_of_pieces.Goals as goal

pub loop-r-preserved : goal.loop-r-preserved
loop-r-preserved c =
    let l = c.loop-r in
    piece_step c.args.count l.units.items c.push_piece.new.units.items _ (placed_of c.in-Some.r) c.next.new.self l.records
    (sym c.is_piece.ensures ∙ c.if-not-is_piece.false) c.in-Some.ensures.steps l.invariant.1
    (c.in_ok-push_piece.ensures ∙ ap (λ (n : ℕ). l.units.items ++ take (c.args.count - n) (piece_units c.in-Some.r.body.now)) (c.len-in-Some.ensures ∙ l.units.ok.0)) l.invariant.0
