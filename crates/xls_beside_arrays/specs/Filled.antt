-- Arrays that are filled as far as they go.
use Rattle.std.specs.Prelude.{◌≡◌, ℕ, ◌≤◌, List, length}
use Rattle.xls_arrays.specs.Filled.{IsFilled}
use Rattle.xls_arrays.specs.declared.items.Span.{Span}
use Rattle.xls_beside_arrays.specs.Arrays.{Arrays, next_span, with_text}
use Rattle.xls_beside_arrays.specs.declared.rooms.Rooms.{Rooms}

-- these arrays were laid
pub record RoomsHold {X : Type 0} (rooms : Rooms X) (a : Arrays X) : Type 0 where
  pub items : IsFilled rooms.items.now rooms.laid.items a.items
  pub damages : IsFilled rooms.damages.now rooms.laid.damages a.damages
  pub texts : IsFilled rooms.texts.now rooms.laid.text_bytes a.texts

-- the same arrays of the caller
pub record KeepsRooms {X : Type 0} (before after : Rooms X) : Type 0 where
  pub items : before.items.ghost_name ≡ after.items.ghost_name
  pub damages : before.damages.ghost_name ≡ after.damages.ghost_name
  pub texts : before.texts.ghost_name ≡ after.texts.ghost_name

-- after what was laid before, so much more was
abbrev pub Lays : {X : Type 0} → Rooms X → Rooms X → (Arrays X → Arrays X) → Type 0
Lays {X} before after step = (a : Arrays X) → RoomsHold before a → RoomsHold after (step a)

-- a text was, and this is where
abbrev pub LaysText : {X : Type 0} → Rooms X → Rooms X → List ℕ → Span → Type 0
LaysText {X} before after text span =
    (a : Arrays X) → RoomsHold before a → RoomsHold after (with_text a text) × (span ≡ next_span a text)

-- the arrays have room for all that was laid
pub record HasRoom {X : Type 0} (rooms : Rooms X) : Type 0 where
  pub items : rooms.laid.items ≤ length rooms.items.now
  pub damages : rooms.laid.damages ≤ length rooms.damages.now
  pub texts : rooms.laid.text_bytes ≤ length rooms.texts.now

-- what the arrays of the caller have
abbrev pub in_rooms : {X : Type 0} → Rooms X → Arrays X
in_rooms rooms =
    record {
      items = rooms.items.now;
      damages = rooms.damages.now;
      texts = rooms.texts.now;
    }
