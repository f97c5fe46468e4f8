use Rattle.std.proofs.Common.{◌∙◌, List, [], ◌∷◌, ap, map}
use Rattle.std.proofs.lemmas.List.{map-append}
use Rattle.xls_formula_books.specs.ExternNames.{Name, name_view}
use Rattle.xls_formula_books.specs.Sources.{source_view, with_names}
use Rattle.xls_formula_books.proofs.ListLemmas.{name_added}
use Rattle.xls_formula_books.proofs.lists.add_name.Goals as goal

pub returns : goal.returns
returns c =
    let last = c.in-Some.last in
    let names = ap (map name_view) c.in_ok-push.ensures.items ∙ map-append name_view last.names.items (c.args.name ∷ []) in
    name_added (name_view c.args.name) c.args.found.now.items c.pop.new.self.items c.push-2.new.self.items last _ c.in-Some.ensures.items
    (ap (λ (ns : List Name). with_names ns (source_view last)) names) c.in_ok-push-2.ensures.items
