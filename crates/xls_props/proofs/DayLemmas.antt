use Rattle.std.proofs.Common.{◌≡◌, ℕ, refl, arith, pos, negsuc}
use Rattle.jiff_core.proofs.SignedLemmas.{signed_arith}
use Rattle.jiff_core.specs.Calendar.{days_from_civil, day_count, days_of_years, days_of_months}
use Rattle.jiff.specs.Words.{epoch_day, IsYmd}
use Rattle.jiff_core.specs.declared.civil.date.Date.{Date}

pub known : days_from_civil (pos 1601) 1 1 ≡ negsuc 134_773
unfolding days_from_civil day_count days_of_years days_of_months
known = refl

-- a date with these parts has their number
pub numbered : (d : Date) (y m k : ℕ) → IsYmd (pos y) (pos m) (pos k) d → epoch_day d ≡ days_from_civil (pos y) m k
numbered d y m k h =
    let month : d.month ≡ m = omega (arith, signed_arith, h.1) in
    let day : d.day ≡ k = omega (arith, signed_arith, h.2) in
    rw (h.0, month, day)
