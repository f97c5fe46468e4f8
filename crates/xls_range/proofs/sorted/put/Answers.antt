use Rattle.std.proofs.Common.{◌+◌, sym, ap, subst, ◌∙◌, List, get_or}
use Rattle.std.proofs.lemmas.Bool.{false≢true}
use Rattle.xls_range.specs.declared.sorted.Numbered.{Numbered}
use Rattle.xls_range.specs.Positions.{EndsAt, PutsEntry, numbered_entry, kept_cells}
use Rattle.xls_range.proofs.KeptLemmas.{put_after, put_over}
use Rattle.xls_range.proofs.sorted.put.Goals as goal

pub returns-then-ends_at-clause-puts : goal.returns-then-ends_at-clause-puts
returns-then-ends_at-clause-puts g c = λ d.
    let xs = c.args.input.now.items in
    let ends = subst (λ (l : List (Numbered g.row.T.Denot)). EndsAt (kept_cells c.args.kept l) (get_or l c.args.i d).cell.0.0 (get_or l c.args.i d).cell.0.1)
    c.deref.ensures.value ((c.ends_at.ensures.ends d).0 c.if-ends_at.true) in
    subst (λ (l : List (Numbered g.row.T.Denot)). PutsEntry (kept_cells c.args.kept xs) (numbered_entry (get_or xs c.args.i d)) (kept_cells c.args.kept l))
    (sym c.swap.ensures.items)
    (put_over xs c.args.kept c.args.i d (c.ends_at.ensures.some c.if-ends_at.true) c.requires.within c.requires.room ends)

pub returns-clause-puts : goal.returns-clause-puts
returns-clause-puts g c = λ d.
    let xs = c.args.input.now.items in
    subst (λ (l : List (Numbered g.row.T.Denot)). PutsEntry (kept_cells c.args.kept xs) (numbered_entry (get_or xs c.args.i d)) (kept_cells (c.args.kept + 1) l))
    (sym c.swap-2.ensures.items)
    (put_after xs c.args.kept c.args.i d c.requires.within c.requires.room
    (λ ends. false≢true (sym c.if-ends_at.false ∙ (c.ends_at.ensures.ends d).1
    (subst (λ (l : List (Numbered g.row.T.Denot)). EndsAt (kept_cells c.args.kept l) (get_or l c.args.i d).cell.0.0 (get_or l c.args.i d).cell.0.1)
    (sym c.deref.ensures.value) ends))))
