use Rattle.std.proofs.Common.{refl, sym, ap, ◌∙◌}
use Rattle.std.specs.Option.{option_copied}
use Rattle.xls_view.proofs.IndexLemmas.{found_at, looked}
use Rattle.xls_view.proofs.index.find_named.Goals as goal

pub returns-in-Some : goal.returns-in-Some
returns-in-Some g c =
    let at = c.get-in-Some.ensures.lookup in
    found_at c.args.sheets.now c.args.each.now c.args.name.now _ _ c.utf8.name c.requires.each
    (sym (c.requires.index c.args.name.now) ∙ sym c.get.ensures.value ∙ ap option_copied c.in-Some.is) (looked c.args.each.now c.in-Some.place.now c.get-in-Some.result at.0 at.1)

pub returns-in-None : goal.returns-in-None
returns-in-None g c =
    found_at c.args.sheets.now c.args.each.now c.args.name.now _ _ c.utf8.name c.requires.each
    (sym (c.requires.index c.args.name.now) ∙ sym c.get.ensures.value ∙ ap option_copied c.in-None.is) refl
