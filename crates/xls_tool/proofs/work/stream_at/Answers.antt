use Rattle.std.proofs.Common.{◌≡◌, ◌∙◌, ap, ℕ, List, map, Some, None, Bor, subst, sym}
use Rattle.std.specs.Option.{option_map}
use Rattle.xls_compound.specs.Entries.{entry_at}
use Rattle.xls_compound.specs.Items.{find_from}
use Rattle.xls_tool.proofs.BesideLemmas.{stream-at}
use Rattle.xls_tool.proofs.work.stream_at.Goals as goal

pub returns-in-Some-clause-ok : goal.returns-in-Some-clause-ok
returns-in-Some-clause-ok c =
    let listing = c.args.compound.now.listing in
    stream-at c.args.compound.now c.args.path.now c.in-Some.entry
    (subst (λ names. option_map (entry_at listing) (find_from listing.items None names) ≡ Some c.in-Some.entry)
    (ap (map (λ (it : Bor (List ℕ)). it.now)) c.as_slice.ensures.value ∙ c.in_ok-names.ensures)
    (sym c.find.ensures ∙ c.in-Some.is))
    (λ item is. sym c.if-is_stream.true ∙ c.is_stream.ensures item is)
