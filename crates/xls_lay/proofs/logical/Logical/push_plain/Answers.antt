use Rattle.std.proofs.Common.{List, ℕ, ◌++◌, ◌∙◌, ap, sym, subst}
use Rattle.xls_stream.specs.Listing.{plain_entry}
use Rattle.xls_lay.specs.Counted.{CountedEntry}
use Rattle.xls_lay.proofs.PushLemmas.{fits_pushed, plain_fits}
use Rattle.xls_lay.proofs.logical.Logical.push_plain.Goals as goal

pub invariant_of-self-2 : goal.invariant_of-self-2
invariant_of-self-2 c =
    fits_pushed c.self.inside.entries.items c.push.new.self.items _ c.in_ok-push.ensures.items c.self.invariant
    (subst (λ (x : List ℕ). CountedEntry (plain_entry c.args.typ x)) (sym (c.in_ok-extend_from_slice.ensures.items ∙ ap (λ (x : List ℕ). x ++ c.args.body.now) c.new-copy.ensures.items))
    (plain_fits c.args.typ c.args.body.now c.requires.typ c.requires.size (λ i. (c.type_inv.body i).fits)))
