-- What is counted fits.
use Rattle.std.proofs.Common.{List, [], ◌∷◌}
use Rattle.xls_stream.specs.Listing.{ListEntry, plain_entry, table_entry, sheet_entry}
use Rattle.xls_layouts.specs.Canonical.{Fits}
use Rattle.xls_lay.specs.Counted.{Counted}

pub counted_fits : (list : List ListEntry) → Counted list → Fits list
counted_fits [] h = tt
counted_fits (plain_entry typ body ∷ list) h = (h.0, counted_fits list h.1)
counted_fits (table_entry strings ∷ list) h = (h.0.1, counted_fits list h.1)
counted_fits (sheet_entry state kind name kept ∷ list) h = (h.0, counted_fits list h.1)
