-- Numbers under a section with an exponent, as `0.00E+00` (ECMA-376 part 1, 18.8.31; what it leaves open is
-- this project's rule, after Excel), as lists of characters. Places before the exponent show the mantissa, as
-- a section of places shows a number; those behind it the exponent.
use Rattle.std.specs.Prelude.{ℕ, ◌+◌, ◌*◌, ◌/◌, Bool, true, false, not, ◌||◌, ◌==◌, nat_lt, if◌then◌else◌, ℤ, pos, negsuc, ◌+ℤ◌, ◌-ℤ◌, neg_ℤ, unsigned_abs, List, [], ◌∷◌, ◌++◌, take, codes}
use Rattle.xls_rounding.specs.declared.decimals.Decimal.{Decimal}
use Rattle.xls_rounding.specs.Rounding.{rounded_at, magnitude_of}
use Rattle.xls_number_formats.specs.declared.items.Place.TheVariants as place
use Rattle.xls_number_formats.specs.declared.items.Item.{Item}
use Rattle.xls_number_formats.specs.declared.items.Item.TheVariants as item
use Rattle.xls_number_formats.specs.Grammar.{Token, is_place}
use Rattle.xls_number_formats.specs.Sections.{is_exponent, kinds}
use Rattle.xls_shown_numbers.specs.declared.plain.Seen.{Seen}
use Rattle.xls_shown_numbers.specs.declared.plain.Plain.{Plain}
use Rattle.xls_shown_numbers.specs.declared.exponent.Exponent.{Exponent}
use Rattle.xls_shown_numbers.specs.Plain.{none_seen, seen_after, plain_of, size, written_place, text_from}

-- the items before the first exponent
abbrev pub mantissa : List Token → List Token
mantissa [] = []
mantissa ((item.Exponent plus, own) ∷ ts) = []
mantissa (t ∷ ts) = t ∷ mantissa ts

-- ---- the exponent

-- the greatest multiple of w that isn't above k
abbrev pub multiple : ℕ → ℤ → ℤ
multiple w (pos k) = pos (w * (k / w))
multiple w (negsuc k) = neg_ℤ (pos (w * (k / w + 1)))

-- that of a number whose first digit counts 10 ^ k, of so many whole places
abbrev pub first_exponent : ℕ → ℤ → ℤ
first_exponent w k = if w == 0 then k +ℤ pos 1 else multiple w k

-- the mantissa as a natural: its last digits are those of the decimal places
abbrev pub mantissa_at : Plain → Decimal → ℤ → ℕ
mantissa_at p d e = rounded_at d (pos p.seen.decimals -ℤ e)

-- it grows where rounding gives a digit more than there are places
abbrev pub grown : Plain → ℕ → ℤ → ℤ
grown p n e = if nat_lt (p.seen.whole + p.seen.decimals) (size n) then e +ℤ pos (if p.seen.whole == 0 then 1 else p.seen.whole) else e

abbrev pub exponent_of : Plain → Decimal → ℤ
exponent_of p d =
    let first = first_exponent p.seen.whole (magnitude_of d) in
    if d.digits == 0 then pos 0 else grown p (mantissa_at p d first) first

-- ---- the text

-- of 0, each whole place shows a 0
abbrev pub zeroed : Bool → Item → Item
zeroed point (item.Place kind) = item.Place (if point then kind else place.Zero)
zeroed point other = other

abbrev pub zeroed_from : Seen → List Token → List Token
zeroed_from s [] = []
zeroed_from s (t ∷ ts) = (zeroed s.point t.0, t.1) ∷ zeroed_from (seen_after s t.0) ts

abbrev pub mantissa_text : List Token → Plain → Decimal → ℤ → List ℕ
mantissa_text ts p d e =
    if d.digits == 0 then text_from p 0 none_seen (zeroed_from none_seen ts)
    else text_from p (mantissa_at p d e) none_seen ts

-- before the first place of the exponent
abbrev pub sign_text : Bool → ℤ → List ℕ
sign_text plus (pos e) = if plus then codes "+" else []
sign_text plus (negsuc e) = codes "-"

abbrev pub places_in : List Token → ℕ
places_in [] = 0
places_in (t ∷ ts) = if is_place t.0 then places_in ts + 1 else places_in ts

-- those behind the first exponent
abbrev pub places_behind : List Token → ℕ
places_behind [] = 0
places_behind (t ∷ ts) = if is_exponent t.0 then places_in ts else places_behind ts

-- what a section with an exponent needs of its items
abbrev pub needs_of : List Token → Exponent
needs_of ts = record { mantissa = plain_of (kinds (mantissa ts)); places = places_behind ts }

-- an item behind the exponent: a place takes digits of it as a whole place does; commas, `@` and elapsed time
-- show nothing, every other item stands for itself. Whether it has had a place, and how many follow
abbrev pub behind_text : Bool → ℤ → Bool → ℕ → Item → List ℕ → List ℕ
behind_text plus e placed left (item.Place place) own =
    (if placed then [] else sign_text plus e) ++ written_place true (unsigned_abs e) (not placed) place left
behind_text plus e placed left item.Comma own = []
behind_text plus e placed left item.Text own = []
behind_text plus e placed left (item.Elapsed letter) own = []
behind_text plus e placed left other own = own

abbrev pub behind_from : Bool → ℤ → Bool → List Token → List ℕ
behind_from plus e placed [] = []
behind_from plus e placed (t ∷ ts) =
    behind_text plus e placed (places_in ts) t.0 t.1
    ++ behind_from plus e (placed || is_place t.0) ts

-- the letter as it is written, and what follows the first exponent
abbrev pub exponent_from : ℤ → List Token → List ℕ
exponent_from e [] = []
exponent_from e ((item.Exponent plus, own) ∷ ts) = take 1 own ++ behind_from plus e false ts
exponent_from e (t ∷ ts) = exponent_from e ts

-- percents of the mantissa don't multiply, and its commas don't divide
abbrev pub exponent_text : List Token → Decimal → List ℕ
exponent_text ts d =
    let p = plain_of (kinds (mantissa ts)) in
    mantissa_text (mantissa ts) p d (exponent_of p d) ++ exponent_from (exponent_of p d) ts
