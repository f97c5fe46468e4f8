-- Arrays that are filled as far as they go.
use Rattle.std.specs.Prelude.{◌≡◌, ℕ, ◌≤◌, List, take, length}
use Rattle.xls_arrays.specs.Arrays.{Arrays, with_text}
use Rattle.xls_arrays.specs.declared.items.Span.{Span}
use Rattle.xls_arrays.specs.declared.rooms.Rooms.{Rooms}

-- so many items were laid, and the array begins with those of them that it has room for
pub record IsFilled {X : Type 0} (room : List X) (laid : ℕ) (items : List X) : Type 0 where
  pub count : laid ≡ length items
  pub begins : take laid room ≡ take (length room) items

-- these arrays were laid
pub record RoomsHold (rooms : Rooms) (a : Arrays) : Type 0 where
  pub sheets : IsFilled rooms.sheets.now rooms.laid.sheets a.sheets
  pub names : IsFilled rooms.names.now rooms.laid.names a.names
  pub cells : IsFilled rooms.cells.now rooms.laid.cells a.cells
  pub formulas : IsFilled rooms.formulas.now rooms.laid.formulas a.formulas
  pub regions : IsFilled rooms.regions.now rooms.laid.regions a.regions
  pub texts : IsFilled rooms.texts.now rooms.laid.text_bytes a.texts

-- the same arrays of the caller
pub record KeepsRooms (before after : Rooms) : Type 0 where
  pub sheets : before.sheets.ghost_name ≡ after.sheets.ghost_name
  pub names : before.names.ghost_name ≡ after.names.ghost_name
  pub cells : before.cells.ghost_name ≡ after.cells.ghost_name
  pub formulas : before.formulas.ghost_name ≡ after.formulas.ghost_name
  pub regions : before.regions.ghost_name ≡ after.regions.ghost_name
  pub texts : before.texts.ghost_name ≡ after.texts.ghost_name
  pub epoch : before.laid.is_1904 ≡ after.laid.is_1904
  pub reserved : before.laid.reserved ≡ after.laid.reserved

-- after what was laid before, so much more was
abbrev pub Lays : Rooms → Rooms → (Arrays → Arrays) → Type 0
Lays before after step = (a : Arrays) → RoomsHold before a → RoomsHold after (step a)

-- a text was, and this is where
abbrev pub LaysText : Rooms → Rooms → List ℕ → Span → Type 0
LaysText before after text span = (a : Arrays) → RoomsHold before a
    → RoomsHold after (with_text a text) × (span ≡ record { offset = length a.texts; length = length text })

-- arrays as long as these have room for those
pub record FitsBefore (before a : Arrays) : Type 0 where
  pub sheets : length a.sheets ≤ length before.sheets
  pub names : length a.names ≤ length before.names
  pub cells : length a.cells ≤ length before.cells
  pub formulas : length a.formulas ≤ length before.formulas
  pub regions : length a.regions ≤ length before.regions
  pub texts : length a.texts ≤ length before.texts

-- what the arrays of the caller have
abbrev pub in_rooms : Rooms → Arrays
in_rooms rooms =
    record {
      sheets = rooms.sheets.now;
      names = rooms.names.now;
      cells = rooms.cells.now;
      formulas = rooms.formulas.now;
      regions = rooms.regions.now;
      texts = rooms.texts.now;
    }
