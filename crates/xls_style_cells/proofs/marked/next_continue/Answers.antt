use Rattle.std.proofs.Common.{ℕ, List, ◌∷◌, ◌∙◌, sym, ap}
use Rattle.xls_parts.specs.PartRecords.{placed_of}
use Rattle.xls_style_cells.specs.Walking.{continues}
use Rattle.xls_style_cells.proofs.TableLemmas.{behind_first, leads_some}
use Rattle.xls_style_cells.proofs.marked.next_continue.Goals as goal

pub split_at-requires : goal.split_at-requires
split_at-requires c = (behind_first c.args.bytes.now (placed_of c.in-Some.r) c.next.new.self (sym c.new.ensures.value ∙ c.in-Some.ensures.steps)).fits

pub returns : goal.returns
returns c =
    leads_some c.args.bytes.now (placed_of c.in-Some.r) c.next.new.self (sym c.new.ensures.value ∙ c.in-Some.ensures.steps) c.if-r-ne-CONTINUE.false
    ∙ ap (λ (bs : List ℕ). c.in-Some.r.body.now ∷ continues bs) (sym c.split_at.ensures.back)
