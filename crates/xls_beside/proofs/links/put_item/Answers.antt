use Rattle.std.proofs.Common.{◌∷◌, [], ap, sym}
use Rattle.xls_links.specs.Items.{item_of}
use Rattle.xls_links.specs.declared.items.LinkItem.{LinkItem}
use Rattle.xls_output.proofs.EachLemmas.{puts-as}
use Rattle.xls_beside.specs.Links.{link}
use Rattle.xls_beside.specs.Lines.{IsLineText}
use Rattle.xls_beside.proofs.links.put_item.Goals as goal

pub returns-in-Link : goal.returns-in-Link
returns-in-Link g c =
    puts-as (IsLineText c.args.form) _ _ c.put_link.result (ap (λ (item : LinkItem). link (item_of item) ∷ []) (sym c.in-Link.is)) c.put_link.ensures
