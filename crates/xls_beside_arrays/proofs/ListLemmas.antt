-- Lists by their index.
use Rattle.std.proofs.Common.{◌≡◌, ℕ, suc, ◌+◌, ◌-◌, ◌<◌, ◌≤◌, List, [], ◌∷◌, length, get_or, drop, drop-cons, add-one, ap, arith}
use Rattle.std.specs.List.{range_with_len}

-- what is left of a list
pub drop-next : {X : Type 0} (xs : List X) (k : ℕ) (x : X) → k < length xs → drop k xs ≡ get_or xs k x ∷ drop (k + 1) xs
drop-next xs k x l = rw add-one (drop-cons xs k x l)

-- the indexes from one on
pub range-next : (i n : ℕ) → i < n → range_with_len i (n - i) ≡ i ∷ range_with_len (i + 1) (n - (i + 1))
range-next i n l =
    let one_more : n - i ≡ suc (n - (i + 1)) = omega arith in
    ap (range_with_len i) one_more

pub range-end : (i n : ℕ) → n ≤ i → range_with_len i (n - i) ≡ []
range-end i n l =
    let no_more : n - i ≡ 0 = omega arith in
    ap (range_with_len i) no_more
