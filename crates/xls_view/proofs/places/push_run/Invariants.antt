use Rattle.std.proofs.Common.{◌≡◌, ◌++◌, ◌+◌, ℕ, map, take}
use Rattle.std.specs.List.{range_with_len}
use Rattle.xls_bytes.specs.Numbers.{le}
use Rattle.xls_biff.specs.Records.Rk.{first_column}
use Rattle.xls_view.specs.Formats.{xf_at}
use Rattle.xls_view.specs.Placed.{FormattedPlace}
use Rattle.xls_view.proofs.places.push_run.Given as goal

-- the places so far
abbrev pub invariant-loop-i : goal.invariant-loop-i
invariant-loop-i l =
    l.places ≡ l.fn.places ++ map {B = FormattedPlace} (λ (i : ℕ). ((le (take 2 l.body), first_column l.body + i), record { offset = l.offset; xf = xf_at l.body i })) (range_with_len 0 l.i)
