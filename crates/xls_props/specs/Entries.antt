-- The entries of a property section ([MS-OLEPS] PropertySet): a number and an offset each.
use Rattle.std.specs.Prelude.{ℕ, zero, suc, List, [], ◌∷◌, length, take, drop, Option, Some, None, nat_lt, ◌==◌, if◌then◌else◌}
use Rattle.std.specs.Option.{option_or, unwrap_or}
use Rattle.xls_bytes.specs.Numbers.{le}
use Rattle.xls_props.specs.Bytes.{u32_at}

-- a property's number, and where its type stands in the section
abbrev pub Entry : Type 0
Entry = ℕ × ℕ

-- at most n entries of eight bytes, up to the first that isn't whole
abbrev pub entries_from : ℕ → List ℕ → List Entry
entries_from zero bytes = []
entries_from (suc n) bytes =
    if nat_lt (length bytes) 8 then []
    else (le (take 4 bytes), le (take 4 (drop 4 bytes))) ∷ entries_from n (drop 8 bytes)

-- the entries of a section: their count at 4, where a missing count is 0, and the entries from 8 on
abbrev pub entries_of : List ℕ → List Entry
entries_of section = entries_from (unwrap_or (u32_at section 4) 0) (drop 8 section)

-- where the first entry of a number points
abbrev pub first_of : ℕ → List Entry → Option ℕ
first_of n [] = None
first_of n (e ∷ es) = if e.0 == n then Some e.1 else first_of n es

-- what the last pair of a number has, as where the last entry of a number points
abbrev pub last_of : {A : Type 0} → ℕ → List (ℕ × A) → Option A
last_of n [] = None
last_of n (e ∷ es) = option_or (last_of n es) (if e.0 == n then Some e.1 else None)
