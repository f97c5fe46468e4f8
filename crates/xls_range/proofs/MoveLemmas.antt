use Rattle.std.proofs.Common.{◌≡◌, ℕ, ◌+◌, ◌*◌, ◌<◌, ◌≤◌, arith, List, length, inl, inr, get_or, ◌≢◌, get_or-set_other, get_or-set_same}
use Rattle.std.proofs.Math.ListN.{set}
use Rattle.std.proofs.lemmas.Bool.{cases_lt}
use Rattle.std.proofs.lemmas.Nat.{same_from_place}
use Rattle.xls_range.specs.Moves.{IsMoved, IsLeft, LeavesOthers}

-- two different places of a box have different indexes
pub apart : (r c row column wide : ℕ) → c < wide → column < wide → ((r ≡ row) × (c ≡ column) → ⊥) → r * wide + c ≢ row * wide + column
apart r c row column wide p q ne e = ne (same_from_place r c row column wide p q e)

pub moved_step : {T : Type 0} (rows columns wide row column : ℕ) (old cells grown : List T) (y : T) → columns ≤ wide → column < columns → row < rows
    → row * wide + column < length grown
    → IsMoved columns wide row column old grown → ((d : T) → y ≡ get_or old (row * columns + column) d)
    → IsMoved columns wide row (column + 1) old (set grown (row * wide + column) y)
moved_step rows columns wide row column old cells grown y narrow cp rp room moved is r c d p (inl below) =
    let ne : r * wide + c ≢ row * wide + column = apart r c row column wide (omega arith) (omega arith) (λ e. absurd (omega (arith, e.0))) in
    rw get_or-set_other (moved r c d p (inl below))
moved_step rows columns wide row column old cells grown y narrow cp rp room moved is r c d p (inr (same, q)) =
    elim (cases_lt c column) [
      | inl before ↦
          let ne : r * wide + c ≢ row * wide + column = apart r c row column wide (omega arith) (omega arith) (λ e. absurd (omega (arith, e.1))) in
          rw get_or-set_other (moved r c d p (inr (same, before)))
      | inr from ↦
          let here : c ≡ column = omega arith in
          rw (same, here, get_or-set_same) (is d)
    ]

pub left_step : {T : Type 0} (rows columns row column : ℕ) (old cells : List T) (x : T) → column < columns
    → IsLeft rows columns row column old cells → IsLeft rows columns row (column + 1) old (set cells (row * columns + column) x)
left_step rows columns row column old cells x cp left r c d rp p (inl above) =
    let ne : r * columns + c ≢ row * columns + column = apart r c row column columns p cp (λ e. absurd (omega (arith, e.0))) in
    rw get_or-set_other (left r c d rp p (inl above))
left_step rows columns row column old cells x cp left r c d rp p (inr (same, q)) =
    let ne : r * columns + c ≢ row * columns + column = apart r c row column columns p cp (λ e. absurd (omega (arith, e.1))) in
    let q' : column ≤ c = omega arith in
    rw get_or-set_other (left r c d rp p (inr (same, q')))

pub others_step : {T : Type 0} (rows columns wide row column : ℕ) (old grown : List T) (y : T) → row < rows → column < columns
    → LeavesOthers rows columns wide old grown → LeavesOthers rows columns wide old (set grown (row * wide + column) y)
others_step rows columns wide row column old grown y rp cp others k d far =
    let ne : k ≢ row * wide + column = far row column rp cp in
    rw get_or-set_other (others k d far)
