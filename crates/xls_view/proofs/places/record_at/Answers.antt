use Rattle.std.proofs.Common.{List, ℕ, ap, ◌∙◌, arith}
use Rattle.xls_view.specs.Groups.{groups_in}
use Rattle.xls_view.specs.Placed.{first_kept}
use Rattle.xls_view.proofs.WalkLemmas.{drop_bytes}
use Rattle.xls_view.proofs.places.record_at.Goals as goal

pub first_of-requires : goal.first_of-requires
first_of-requires c =
    rw (c.new.ensures, c.part_at.ensures) (drop_bytes c.args.part.now c.args.at (λ i. omega (arith, c.type_inv.part i)))

pub returns : goal.returns
returns c =
    c.first_of.ensures ∙ ap (λ (x : List ℕ). first_kept (groups_in x).0) (c.new.ensures ∙ c.part_at.ensures)
