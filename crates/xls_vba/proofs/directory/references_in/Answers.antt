use Rattle.std.proofs.Common.{rules, ◌≡◌, ◌++◌, ◌∷◌, [], Some, None, Ok, ap, ◌∙◌, append_assoc, append-nil}
use Rattle.xls_vba.specs.Items.{element_of, item_from}
use Rattle.xls_vba.specs.References.{references_of}
use Rattle.xls_vba.proofs.DirectoryLemmas.{Prefix-push}
use Rattle.xls_vba.proofs.directory.references_in.Goals as goal

pub returns-in_default : goal.returns-in_default
returns-in_default c =
    let step : item_from c.args.page c.items.rest.now ≡ Ok (None, c.in_ok-item.after.now) = search rules in
    record {
      elements = c.items.invariant.0;
      items = (c.items.rest.now, c.items.invariant.1, step);
      read_off = c.in_ok-references.ensures ∙ c.items.invariant.2 [] ∙ ap references_of (append-nil c.items.invariant.0);
    }

pub items-preserved : goal.items-preserved
items-preserved c =
    let step : item_from c.args.page c.items.rest.now ≡ Ok (Some (element_of c.in-Some.item), c.in_ok-item.after.now) = search rules in (
      c.items.invariant.0 ++ element_of c.in-Some.item ∷ [],
      Prefix-push c.args.page c.args.bytes.now c.items.rest.now c.in_ok-item.after.now c.items.invariant.0 (element_of c.in-Some.item) c.items.invariant.1 step,
      λ more. rw append_assoc (c.in_ok-listing.ensures more ∙ c.items.invariant.2 (element_of c.in-Some.item ∷ more)),
    )
