-- For the proofs: what has been seen of a section.
use Rattle.std.specs.Prelude.{◌≡◌, ℕ, false, ◌||◌, List, [], ◌∷◌, drop, Option, Some, None}
use Rattle.xls_number_formats.specs.declared.items.Letter.{Letter}
use Rattle.xls_shown_dates.specs.declared.fields.Field.{Field}
use Rattle.xls_shown_dates.specs.declared.clocks.Clock.{Clock}
use Rattle.xls_shown_dates.specs.Fields.{first, is_time, is_tenths, is_hundredths, is_thousandths, is_half_day, is_elapsed_hours, is_elapsed_minutes, is_elapsed_seconds}

abbrev pub no_fields : Clock
no_fields = record {
  has_time = false;
  has_tenths = false;
  has_hundredths = false;
  has_thousandths = false;
  has_half_days = false;
  has_elapsed_hours = false;
  has_elapsed_minutes = false;
  has_elapsed_seconds = false;
}

abbrev pub scanned : Clock → Field → Clock
scanned c f = record {
  has_time = c.has_time || is_time f;
  has_tenths = c.has_tenths || is_tenths f;
  has_hundredths = c.has_hundredths || is_hundredths f;
  has_thousandths = c.has_thousandths || is_thousandths f;
  has_half_days = c.has_half_days || is_half_day f;
  has_elapsed_hours = c.has_elapsed_hours || is_elapsed_hours f;
  has_elapsed_minutes = c.has_elapsed_minutes || is_elapsed_minutes f;
  has_elapsed_seconds = c.has_elapsed_seconds || is_elapsed_seconds f;
}

abbrev pub scan_all : Clock → List (Field × List ℕ) → Clock
scan_all c [] = c
scan_all c (f ∷ fs) = scan_all (scanned c f.0) fs

-- behind letters the next ones are looked for: those found before, and the letters that are left
abbrev pub LooksAhead : Option Letter → Option Letter → List Letter → Option Letter → List Letter → Type 0
LooksAhead None behind left result now = (result ≡ behind) × (now ≡ left)
LooksAhead (Some letter) behind left result now = (result ≡ first left) × (now ≡ drop 1 left)
