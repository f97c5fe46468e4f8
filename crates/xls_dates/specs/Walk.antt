-- For the proofs: what a walk over a format's characters has still to decide.
use Rattle.std.specs.Prelude.{ℕ, ◌≡◌, ◌≤◌, ◌+◌, List, ◌∷◌}
use Rattle.xls_dates.specs.Classes.{plain_from, outside_from, class_by}
use Rattle.xls_dates.specs.declared.formats.CellFormat.{CellFormat}
use Rattle.xls_dates.specs.declared.classes.Walk.{Walk}
use Rattle.xls_dates.specs.declared.classes.Step.{Step}
use Rattle.xls_dates.specs.declared.classes.Step.TheVariants.{Next, Done}

-- the class of a format of which these characters are left
abbrev pub class_left : Walk → List ℕ → CellFormat
class_left w cs =
    class_by w.half_day
    (outside_from w.depth w.duration (plain_from w.escaped w.quoted w.before cs))

-- a step over a character leaves the class to the others, with at most one bracket more open, or
-- knows it
abbrev pub StepLeads : Walk → ℕ → Step → Type 0
StepLeads w c (Next v) =
    ((cs : List ℕ) → class_left w (c ∷ cs) ≡ class_left v cs) × (v.depth ≤ w.depth + 1)
StepLeads w c (Done class) = (cs : List ℕ) → class_left w (c ∷ cs) ≡ class
