-- The class of a number format of one's own, in two steps: which of its characters are visible, and
-- which of these decides. Upper and lower case are one. These are calamine's rules; [MS-XLS] gives
-- the format's text alone (Format 2.4.126).
use Rattle.std.specs.Prelude.{ℕ, ◌+◌, ◌-◌, List, [], ◌∷◌, map, codes, Bool, true, false, not, ◌==◌, ◌&&◌, ◌||◌, if◌then◌else◌}
use Rattle.std.specs.Char.{to_ascii_lowercase}
use Rattle.xls_dates.specs.declared.formats.CellFormat.{CellFormat}
use Rattle.xls_dates.specs.declared.formats.CellFormat.TheVariants.{Other, DateTime, TimeDelta}

infix 40 ◌∈◌
-- a character is one of these
abbrev pub ◌∈◌ : ℕ → List ℕ → Bool
c ∈ [] = false
c ∈ (x ∷ xs) = (c == x) || c ∈ xs

-- ---- which characters are visible

-- The plain characters up to the first plain `;`, each with the one before it in the text. Plain are
-- those that are neither quoted nor escaped, and that neither quote nor escape: `_`, `\` and `*`
-- escape the next, in quotes too.
abbrev pub plain_from : Bool → Bool → ℕ → List ℕ → List (ℕ × ℕ)
plain_from escaped quoted before [] = []
plain_from escaped quoted before (c ∷ cs) =
    if escaped then plain_from false quoted c cs
    else if c ∈ codes "_\\*" then plain_from true quoted c cs
    else if c ∈ codes "\"" then plain_from false (not quoted) c cs
    else if quoted then plain_from false true c cs
    else if c ∈ codes ";" then []
    else (before, c) ∷ plain_from false false c cs

-- Whether a duration has just been read: `h`, `m` or `s` right after a `[`, or after a duration the
-- character before once more. Brackets and characters that are not plain leave this as it is.
abbrev pub duration_after : Bool → ℕ → ℕ → Bool
duration_after duration before c =
    (before ∈ codes "[" && c ∈ codes "hms") || (duration && (c == before))

-- the plain characters outside brackets, and the `]` that ends a duration in one bracket
abbrev pub outside_from : ℕ → Bool → List (ℕ × ℕ) → List ℕ
outside_from depth duration [] = []
outside_from depth duration ((before, c) ∷ rest) =
    if c ∈ codes "[" then outside_from (depth + 1) duration rest
    else if c ∈ codes "]"
    then (if (depth == 1) && duration then c ∷ [] else outside_from (depth - 1) duration rest)
    else if depth == 0 then c ∷ outside_from 0 (duration_after duration before c) rest
    else outside_from depth (duration_after duration before c) rest

-- the visible characters of a format, in lower case; a space stands before the first
abbrev pub visible_of : List ℕ → List ℕ
visible_of cs = outside_from 0 false (plain_from false false 0x20 (map to_ascii_lowercase cs))

-- ---- which of them decides

-- The first that decides: the end of a duration; a letter of a date; after an `a` in place of these
-- letters the `p` or `m` or `/` that makes it AM/PM or a/p.
abbrev pub class_by : Bool → List ℕ → CellFormat
class_by half_day [] = Other
class_by half_day (c ∷ cs) =
    if c ∈ codes "]" then TimeDelta
    else if c ∈ (if half_day then codes "pm/" else codes "dmhys") then DateTime
    else class_by (half_day || c ∈ codes "a") cs

-- the class of a format's characters
abbrev pub class_of : List ℕ → CellFormat
class_of cs = class_by false (visible_of cs)

-- ---- the first section

-- after these characters the next is neither escaped nor quoted
abbrev pub ends_plain : Bool → Bool → List ℕ → Bool
ends_plain escaped quoted [] = not escaped && not quoted
ends_plain escaped quoted (c ∷ cs) =
    if escaped then ends_plain false quoted cs
    else if c ∈ codes "_\\*" then ends_plain true quoted cs
    else if c ∈ codes "\"" then ends_plain false (not quoted) cs
    else ends_plain false quoted cs
