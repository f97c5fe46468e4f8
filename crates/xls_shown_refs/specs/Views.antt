-- What code holds of formulas and citations, as definitions have it.
use Rattle.std.specs.Prelude.{List, map}
use Rattle.xls_formula_books.specs.Places.{cited_text, place_view}
use Rattle.xls_shown_refs.specs.Origins.{Origin}
use Rattle.xls_shown_refs.specs.Items.{Citation, Item, cells, name}
use Rattle.xls_shown_refs.specs.declared.citation.Citation.{Citation as CitationFields}
use Rattle.xls_shown_refs.specs.declared.items.Item.{Item as ItemFields}
use Rattle.xls_shown_refs.specs.declared.items.Item.TheVariants as code
use Rattle.xls_shown_refs.specs.declared.items.Origin.{Origin as OriginFields}

abbrev pub origin_view : OriginFields → Origin
origin_view o = record { biff = o.biff; place = o.place; is_name = o.is_name; here = o.here.now }

abbrev pub citation_view : CitationFields → Citation
citation_view c = record { sheet = cited_text (place_view c.sheets); first = c.first; last = c.last }

abbrev pub item_view : ItemFields → Item
item_view (code.Cells citation) = cells (citation_view citation)
item_view (code.Name number) = name number

abbrev pub items_view : List ItemFields → List Item
items_view items = map item_view items

abbrev pub citations_view : List CitationFields → List Citation
citations_view citations = map citation_view citations
