-- What the tokens of a formula cite through references ([MS-XLS] 2.5.198): PtgNameX, PtgRef3d, PtgArea3d, PtgRefErr3d and
-- PtgAreaErr3d in each class. Sizes before BIFF8 are this project's rule.
use Rattle.std.specs.Prelude.{ℕ, zero, suc, ◌%◌, List, [], ◌∷◌, ◌++◌, drop, length, slice_index, Bool, false, not, ◌&&◌, ◌||◌, nat_lt, nat_le, ◌==◌, if◌then◌else◌, Option, Some, None, Ok, Err}
use Rattle.std.specs.Option.{option_to_list}
use Rattle.xls_record.specs.Version.{is_biff8}
use Rattle.xls_record.specs.declared.version.Biff.{Biff}
use Rattle.xls_ptg.specs.Fields.{word_at}
use Rattle.xls_ptg.specs.Readings.{Reading}
use Rattle.xls_ptg.specs.Tokens.{ptg_at}
use Rattle.xls_other_books.specs.declared.cites.Cite.{Cite}

-- ---- how many bytes of a token stand behind its first

abbrev pub more_if : ℕ → List ℕ → Option ℕ
more_if size rest = if nat_lt (length rest) size then None else Some size

abbrev pub size_in : Reading → Option ℕ
size_in (Ok x) = Some x.1
size_in (Err e) = None

-- of those that formulas are spelled by
abbrev pub spelled_more : Biff → List ℕ → Option ℕ
spelled_more version tokens = size_in (ptg_at version tokens)

abbrev pub by_version : Biff → ℕ → ℕ → ℕ
by_version version size before = if is_biff8 version then size else before

-- of PtgMemArea, PtgMemErr and PtgMemNoMem, of PtgMemFunc, of PtgRefN, PtgAreaN and PtgNameX, by the low five bits
abbrev pub classed_size : Biff → ℕ → Option ℕ
classed_size version low =
    if low == 0x06 || low == 0x07 || low == 0x08 then Some 6
    else if low == 0x09 then Some 2
    else if low == 0x0C then Some (by_version version 4 3)
    else if low == 0x0D then Some (by_version version 8 6)
    else if low == 0x19 then Some (by_version version 6 24)
    else None

-- of PtgTbl, of PtgErr, and of classed tokens
abbrev pub known_size : Biff → ℕ → Option ℕ
known_size version token =
    if token == 0x02 then Some 4
    else if token == 0x1C then Some 1
    else if nat_lt token 0x20 || nat_le 0x80 token then None
    else classed_size version (token % 0x20)

-- an attribute, but for PtgAttrChoose, has two bytes
abbrev pub is_plain_attribute : List ℕ → Bool
is_plain_attribute [] = false
is_plain_attribute (a ∷ rest) = not (a == 0x04)

abbrev pub sized_more : Biff → List ℕ → Option ℕ → Option ℕ
sized_more version tokens (Some size) = more_if size (drop 1 tokens)
sized_more version tokens None = spelled_more version tokens

-- none where the token isn't known or is cut
abbrev pub token_more : Biff → List ℕ → Option ℕ
token_more version tokens =
    if slice_index tokens 0 == 0x19 && is_plain_attribute (drop 1 tokens) then more_if 3 (drop 1 tokens)
    else sized_more version tokens (known_size version (slice_index tokens 0))

-- ---- what is cited

abbrev pub cite_by : ℕ → List ℕ → Option Cite
cite_by low rest =
    if low == 0x19 then Some (record { reference = word_at 0 rest; name = Some (word_at 2 rest) })
    else if low == 0x1A || low == 0x1B || low == 0x1C || low == 0x1D then Some (record { reference = word_at 0 rest; name = None })
    else None

-- by a token and the bytes behind it
abbrev pub cite_at : Biff → ℕ → List ℕ → Option Cite
cite_at version token rest =
    if nat_lt token 0x20 || nat_le 0x80 token || nat_lt (length rest) 4 then None else cite_by (token % 0x20) rest

-- a token's own, and what on gives of the others, unless the walk ends here
abbrev pub walked : (ℕ → List Cite) → Option Cite → Option ℕ → List Cite
walked on cite None = []
walked on cite (Some more) = option_to_list cite ++ on more

-- what is cited behind so many bytes more
abbrev pub cites_from : Biff → ℕ → List ℕ → List Cite
cites_from version skipped [] = []
cites_from version (suc n) (b ∷ bs) = cites_from version n bs
cites_from version zero (b ∷ bs) = walked (λ more. cites_from version more bs) (cite_at version b bs) (token_more version (b ∷ bs))

abbrev pub cites_in : Biff → List ℕ → List Cite
cites_in version tokens = cites_from version 0 tokens
