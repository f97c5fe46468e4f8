-- The lines of a compound file's streams.
use Rattle.std.specs.Prelude.{◌≡◌, ℕ, List, [], ◌∷◌, codes, Bool, true, false, Result}
use Rattle.std.specs.List.{join_by}
use Rattle.xls_compound.specs.Items.{Item, IsPath}
use Rattle.xls_compound.specs.Entries.{Entry, IsItem}
use Rattle.xls_output.specs.Output.{Output}
use Rattle.xls_output.specs.declared.stop.Stop.{Stop}
use Rattle.xls_output.specs.Each.{PutsEach}
use Rattle.xls_readable.specs.Items.{NamedItem, text, count}
use Rattle.xls_readable.specs.Lines.{IsLine}
use Rattle.xls_readable.specs.declared.forms.Form.{Form}

-- the names of a path, separated by `/`
abbrev pub path_text : List (List ℕ) → List ℕ
path_text names = join_by (λ name. name) (codes "/") names

-- its size in bytes, and its path
abbrev pub stream_members : ℕ → List (List ℕ) → List NamedItem
stream_members size path = (codes "size", count size) ∷ (codes "path", text (path_text path)) ∷ []

-- a stream, or else a storage, which has no line
abbrev pub IsItemLine : Form → Entry → Bool → ℕ → List ℕ → Type 0
IsItemLine form entry true size out = (path : List (List ℕ)) × IsPath entry.listing.items entry.place path
    × IsLine form (codes "stream") (stream_members size path) out
IsItemLine form entry false size out = out ≡ []

-- the text of an entry, by the item at its place
abbrev pub IsEntryText : Form → Entry → List ℕ → Type 0
IsEntryText form entry out = (item : Item) → IsItem entry item → IsItemLine form entry item.is_stream item.size out

-- ---- for the contracts of one step

abbrev pub IsStream : Entry → Type 0
IsStream entry = (item : Item) → IsItem entry item → item.is_stream ≡ true

-- the texts of these entries were gathered; or, where it was given up, a prefix of those of the first so many was written
abbrev pub PutsEntries : {X : Type 0} → Form → List Entry → Output → Output → Result X Stop → Type 0
PutsEntries form entries before after result = PutsEach (IsEntryText form) entries before after result
