-- Tokens that are read alike in the exact reading of a formula and where it is shown as Excel does, by their bytes ([MS-XLS] 2.5.198).
use Rattle.std.specs.Prelude.{ℕ, zero, suc, ◌%◌, List, [], ◌∷◌, drop, slice_index, Bool, true, not, ◌&&◌, ◌||◌, nat_lt, nat_le, ◌==◌}
use Rattle.std.specs.Prelude.{if◌then◌else◌, Ok, Err}
use Rattle.xls_record.specs.Version.{is_biff8}
use Rattle.xls_record.specs.declared.version.Biff.{Biff}
use Rattle.xls_ptg.specs.Fields.{word_at}
use Rattle.xls_ptg.specs.Readings.{Reading}
use Rattle.xls_ptg.specs.Tokens.{ptg_at}
use Rattle.xls_formula_shown.specs.Scope.{Scope}
use Rattle.xls_formula_laws.specs.Alike.{is_alike}

-- below 20: not PtgExp, labels (PtgElf..), white space and the attribute 00
abbrev pub is_shared_attribute : ℕ → Bool
is_shared_attribute attribute = not ((attribute == 0x00) || ((attribute == 0x40) || (attribute == 0x41)))

abbrev pub is_shared_basic : ℕ → List ℕ → Bool
is_shared_basic token rest =
    if token == 0x19 then is_shared_attribute (slice_index rest 0) else not ((token == 0x01) || (token == 0x18))

-- 22 (PtgFuncVar) with a count in 7 bits, and an index of a function other than 00FF, which is a call by name
abbrev pub is_plain_call : List ℕ → Bool
is_plain_call rest = nat_lt (slice_index rest 0) 0x80 && (nat_lt (word_at 1 rest) 0x8000 && not (word_at 1 rest == 0xFF))

-- from 20 to 7F, by the low five bits: tokens that hold the places of others (06 to 09, 0E and 0F), offsets (0C and 0D), and names,
-- cells and areas by reference (19 to 1D)
abbrev pub is_own : ℕ → Bool
is_own low = (nat_le 0x06 low && nat_le low 0x09) || ((nat_le 0x0C low && nat_le low 0x0F) || (nat_le 0x19 low && nat_le low 0x1D))

-- not those; and areas (25) of BIFF8 alone, whose flags are read otherwise before
abbrev pub is_shared_class : Biff → ℕ → List ℕ → Bool
is_shared_class biff low rest =
    if low == 0x02 then is_plain_call rest
    else if low == 0x05 then is_biff8 biff
    else not (is_own low)

-- by the first byte and the bytes after it; from 80 on both know none
abbrev pub is_shared_by : Biff → ℕ → List ℕ → Bool
is_shared_by biff token rest =
    if nat_lt token 0x20 then is_shared_basic token rest
    else if nat_lt token 0x80 then is_shared_class biff (token % 0x20) rest
    else true

abbrev pub is_shared : Biff → List ℕ → Bool
is_shared biff bytes = is_shared_by biff (slice_index bytes 0) (drop 1 bytes)

-- ---- all tokens

-- the exact reading has a token that is alike, and what follows it is so; or it has none
abbrev pub is_alike_reading : Scope → (ℕ → Bool) → Reading → Bool
is_alike_reading scope follows (Ok x) = is_alike scope x.0 && follows x.1
is_alike_reading scope follows (Err e) = true

-- each token in turn is shared, and alike by the exact reading; so many bytes belong to the last one still
abbrev pub are_shared : Scope → List ℕ → ℕ → Bool
are_shared scope [] more = true
are_shared scope (b ∷ bytes) (suc more) = are_shared scope bytes more
are_shared scope (b ∷ bytes) zero =
    is_shared scope.biff (b ∷ bytes) && is_alike_reading scope (λ n. are_shared scope bytes n) (ptg_at scope.biff (b ∷ bytes))
