use Rattle.std.proofs.Common.{List, ℕ, ◌++◌, ◌∙◌, ap, sym, subst}
use Rattle.xls_stream.specs.Listing.{Kept, sheet_entry}
use Rattle.xls_lay.specs.Counted.{CountedEntry}
use Rattle.xls_lay.proofs.PushLemmas.{fits_pushed, sheet_fits}
use Rattle.xls_lay.proofs.logical.Logical.push_sheet.Goals as goal

pub invariant_of-self-2 : goal.invariant_of-self-2
invariant_of-self-2 c =
    fits_pushed c.self.inside.entries.items c.push.new.self.items _ c.in_ok-push.ensures.items c.self.invariant
    (subst (λ (x : List ℕ). CountedEntry (sheet_entry c.args.state c.args.kind x c.new.result)) (sym (c.in_ok-extend_from_slice.ensures.items ∙ ap (λ (x : List ℕ). x ++ c.args.name.now) c.new-copy.ensures.items))
    (subst (λ (ks : List Kept). CountedEntry (sheet_entry c.args.state c.args.kind c.args.name.now ks)) (sym c.new.ensures)
    (sheet_fits c.args.state c.args.kind c.args.name.now c.ranges.state.fits c.ranges.kind.fits c.requires.size (λ i. (c.type_inv.name i).fits))))
