-- For the proofs: what marks add to the bytes of a string table.
use Rattle.std.specs.Prelude.{◌≡◌, ℕ, ◌+◌, ◌≤◌, List, Bool, true, false}
use Rattle.xls_stream.specs.StringTable.{Mark}
use Rattle.xls_layouts.specs.Canonical.{passes, record_limit, fill_from, used_after}
use Rattle.xls_lay.specs.Writing.{saturated}
use Rattle.xls_lay.specs.Cutting.{marks_size}
use Rattle.xls_lay.specs.declared.fill.Fill.{Fill}

-- no more is used of a record body or piece than there may be
abbrev pub IsFilled : Fill → Type 0
IsFilled fill = fill.used ≤ record_limit

-- after these marks
pub record Fills (old : Fill) (ms : List Mark) (new : Fill) : Type 0 where
  pub used : new.used ≡ fill_from old.used ms
  pub size : new.size ≡ saturated (old.size + marks_size ms)
  pub room : IsFilled new

-- the bytes of a head or unit, in the same piece or in a new one that begins with so many
abbrev pub size_after : Bool → ℕ → ℕ → ℕ
size_after true prefix more = 4 + prefix + more
size_after false prefix more = more

-- after a head or unit of so many bytes
pub record TakesMarks (old : Fill) (prefix more : ℕ) (new : Fill) : Type 0 where
  pub used : new.used ≡ used_after (passes old.used more) prefix old.used more
  pub size : new.size ≡ saturated (old.size + size_after (passes old.used more) prefix more)
  pub room : IsFilled new
