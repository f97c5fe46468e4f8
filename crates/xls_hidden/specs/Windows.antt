-- The first window of a sheet: frozen panes, and zeros that aren't shown.
use Rattle.std.specs.Prelude.{List, [], ◌∷◌, Bool, false, not, ◌&&◌, ◌==◌, if◌then◌else◌, Option, Some, None}
use Rattle.xls_hidden.specs.declared.fields.Pane.{Pane}
use Rattle.xls_hidden.specs.declared.fields.Window.{Window}
use Rattle.xls_hidden.specs.declared.said.Said.{Said}
use Rattle.xls_hidden.specs.declared.said.Said.TheVariants as says

-- the Pane before the next Window2
abbrev pub pane_in : List Said → Option Pane
pane_in [] = None
pane_in (says.Window w ∷ ss) = None
pane_in (says.Pane p ∷ ss) = Some p
pane_in (s ∷ ss) = pane_in ss

-- the first Window2, with the Pane between it and the second
abbrev pub FirstWindow : Type 0
FirstWindow = Option (Window × Option Pane)

abbrev pub first_window : List Said → FirstWindow
first_window [] = None
first_window (says.Window w ∷ ss) = Some (w, pane_in ss)
first_window (s ∷ ss) = first_window ss

-- the frozen panes of a window: so many rows above and columns on the left, not both 0
abbrev pub frozen_at : Window → Option Pane → Option Pane
frozen_at w None = None
frozen_at w (Some p) = if w.is_frozen && not (p.rows == 0 && p.columns == 0) then Some p else None

abbrev pub frozen_by : FirstWindow → Option Pane
frozen_by None = None
frozen_by (Some x) = frozen_at x.0 x.1

-- whether cells that are zero are shown as empty
abbrev pub hides_zeros_by : FirstWindow → Bool
hides_zeros_by None = false
hides_zeros_by (Some x) = not x.0.shows_zeros
