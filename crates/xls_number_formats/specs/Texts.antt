-- What texts are shown as under a number format.
use Rattle.std.specs.Prelude.{ℕ, List, [], Option, Some, None, option_and_then}
use Rattle.std.specs.List.{flat_map, slice_get}
use Rattle.xls_number_formats.specs.declared.items.Item.{Item}
use Rattle.xls_number_formats.specs.declared.items.Item.TheVariants as item
use Rattle.xls_number_formats.specs.Grammar.{Token, items}
use Rattle.xls_number_formats.specs.Sections.{sections_of}
use Rattle.xls_number_formats.specs.Choices.{texts_at}
use Rattle.xls_number_formats.specs.Formats.{first_codes}

-- an item with its own text: `@` shows the text of the cell, a place and elapsed time nothing, every
-- other item stands for itself
abbrev pub shown_by : Item → List ℕ → List ℕ → List ℕ
shown_by item.Text own text = text
shown_by (item.Place place) own text = []
shown_by (item.Elapsed letter) own text = []
shown_by other own text = own

abbrev pub shown_token : List ℕ → Token → List ℕ
shown_token text t = shown_by t.0 t.1 text

-- the code from the section for texts on
abbrev pub texts_code : List ℕ → Option (List ℕ)
texts_code cs = option_and_then (slice_get (first_codes 4 cs)) (texts_at (sections_of cs))

-- without such a section a text is shown as it is
abbrev pub shown_under : Option (List ℕ) → List ℕ → List ℕ
shown_under None text = text
shown_under (Some section) text = flat_map (shown_token text) (items section)

abbrev pub shown_text : List ℕ → List ℕ → List ℕ
shown_text cs text = shown_under (texts_code cs) text
