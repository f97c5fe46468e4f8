use Rattle.std.proofs.Common.{List, ℕ, ◌+◌, subst, sym}
use Rattle.xls_layouts.specs.LaidStrings.{marks_of_string}
use Rattle.xls_layouts.specs.Canonical.{canonical_string}
use Rattle.xls_lay.specs.Filling.{Fills}
use Rattle.xls_lay.proofs.StringLemmas.{Counted, counted_more}
use Rattle.xls_lay.proofs.units.fill_strings.Goals as goal

pub loop-size-preserved : goal.loop-size-preserved
loop-size-preserved c =
    let l = c.loop-size in
    let new = c.add_string.new.self in
    subst (λ (x : List ℕ). Counted c.args.fill.now new c.args.sizes.now c.args.units.now x (l.size-index + 1)) (sym c.split_at.ensures.back)
    (counted_more c.args.fill.now l.fill c.args.sizes.now c.args.units.now l.rest.now l.size-index l.invariant new c.loop-size-test.true
    (subst (λ (x : List ℕ). Fills l.fill (marks_of_string (canonical_string l.fill.used x)) new) c.split_at.ensures.front c.add_string.ensures))
