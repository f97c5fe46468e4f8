-- Numbers under a section of places, as `#,##0.00` (ECMA-376 part 1, 18.8.31; what it leaves open is this
-- project's rule, after Excel), as lists of characters. Places before the first point are whole places,
-- those behind it decimal places.
use Rattle.std.specs.Prelude.{ℕ, zero, suc, ◌+◌, ◌-◌, ◌*◌, ◌/◌, ◌%◌, ◌^◌, Bool, true, false, not, ◌&&◌, ◌||◌, ◌==◌, nat_lt, nat_le, if◌then◌else◌, pos, ◌+ℤ◌, ◌-ℤ◌, List, [], ◌∷◌, ◌++◌, codes}
use Rattle.xls_rounding.specs.declared.decimals.Decimal.{Decimal}
use Rattle.xls_rounding.specs.Fractions.{places_up_to}
use Rattle.xls_rounding.specs.Rounding.{rounded}
use Rattle.xls_number_formats.specs.declared.items.Place.{Place}
use Rattle.xls_number_formats.specs.declared.items.Place.TheVariants as place
use Rattle.xls_number_formats.specs.declared.items.Item.{Item}
use Rattle.xls_number_formats.specs.declared.items.Item.TheVariants as item
use Rattle.xls_number_formats.specs.Grammar.{Token, is_place}
use Rattle.xls_number_formats.specs.Sections.{is_shown, kinds}
use Rattle.xls_shown_numbers.specs.declared.plain.Seen.{Seen}
use Rattle.xls_shown_numbers.specs.declared.plain.Plain.{Plain}

abbrev pub is_point : Item → Bool
is_point item.Point = true
is_point other = false

abbrev pub is_comma : Item → Bool
is_comma item.Comma = true
is_comma other = false

abbrev pub is_percent : Item → Bool
is_percent item.Percent = true
is_percent other = false

abbrev pub is_zero : Item → Bool
is_zero (item.Place place.Zero) = true
is_zero other = false

-- ---- the items so far

abbrev pub one_more : Bool → ℕ → ℕ
one_more counts n = if counts then n + 1 else n

abbrev pub none_seen : Seen
none_seen = record { whole = 0; decimals = 0; zeros = 0; percents = 0; point = false; touches = false }

-- after an item more: its places before and behind the point, the decimal places up to the last `0`, its
-- percents, whether it has had a point, and whether a place stood last, before commas and brackets alone
abbrev pub seen_after : Seen → Item → Seen
seen_after s i = record {
  whole = one_more (is_place i && not s.point) s.whole;
  decimals = one_more (is_place i && s.point) s.decimals;
  zeros = if is_zero i && s.point then s.decimals + 1 else s.zeros;
  percents = one_more (is_percent i) s.percents;
  point = s.point || is_point i;
  touches = is_place i || (s.touches && (is_comma i || not (is_shown i)));
}

abbrev pub seen_all : Seen → List Item → Seen
seen_all s [] = s
seen_all s (i ∷ is) = seen_all (seen_after s i) is

-- ---- commas

-- another place follows on the same side of the point
abbrev pub follows : Seen → Seen → Bool
follows all s = if s.point then nat_lt s.decimals all.decimals else nat_lt s.whole all.whole

-- a comma behind a place of the section groups by thousands where a place follows; else one that stands
-- right behind a place, or behind such a comma, divides by 1000; any other stands for itself
abbrev pub is_placed : Seen → Bool
is_placed s = nat_lt 0 (s.whole + s.decimals)

abbrev pub groups : Seen → Seen → Bool
groups all s = is_placed s && follows all s

abbrev pub divides : Seen → Seen → Bool
divides all s = s.touches && not (follows all s)

-- one of the commas groups
abbrev pub grouping_from : Seen → Seen → List Item → Bool
grouping_from all s [] = false
grouping_from all s (i ∷ is) = (is_comma i && groups all s) || grouping_from all (seen_after s i) is

-- how many divide
abbrev pub thousands_from : Seen → Seen → List Item → ℕ
thousands_from all s [] = 0
thousands_from all s (i ∷ is) = one_more (is_comma i && divides all s) (thousands_from all (seen_after s i) is)

-- what a section needs of its items
abbrev pub plain_of : List Item → Plain
plain_of is =
    let all = seen_all none_seen is in
    record { seen = all; thousands = thousands_from all none_seen is; grouping = grouping_from all none_seen is }

-- ---- digits

-- a number times 100 for each percent and over 1000 for each comma that divides, rounded at the last
-- decimal place, as a natural: its last digits are those of the decimal places
abbrev pub number_under : Plain → Decimal → ℕ
number_under p d =
    rounded d.digits (d.exponent +ℤ pos (2 * p.seen.percents + p.seen.decimals) -ℤ pos (3 * p.thousands))

-- the number of digits of a natural, none of 0
abbrev pub size : ℕ → ℕ
size n = places_up_to n n

abbrev pub digit : ℕ → ℕ → ℕ
digit n p = 48 + n / 10 ^ p % 10

-- behind whole place i from the right, where the whole part is grouped
abbrev pub separates : Bool → ℕ → Bool
separates grouping i = grouping && (nat_lt 0 i && (i % 3 == 0))

abbrev pub separator : Bool → ℕ → List ℕ → List ℕ
separator grouping i text = if separates grouping i then text else []

-- without a digit
abbrev pub filler : Bool → Place → ℕ → List ℕ
filler grouping place.Zero i = codes "0" ++ separator grouping i (codes ",")
filler grouping place.Question i = codes " " ++ separator grouping i (codes " ")
filler grouping place.Hash i = []

-- so many digits of the whole part from place i on, of a number with so many decimals
abbrev pub whole_digits : Bool → ℕ → ℕ → ℕ → ℕ → List ℕ
whole_digits grouping n decimals i zero = []
whole_digits grouping n decimals i (suc count) =
    digit n (decimals + (i + count)) ∷ separator grouping (i + count) (codes ",") ++ whole_digits grouping n decimals i count

-- whole place i from the right takes one digit, the leftmost all that are left
abbrev pub whole_place : Bool → ℕ → ℕ → Bool → Place → ℕ → List ℕ
whole_place grouping n decimals leftmost place i =
    if nat_le (size n) (decimals + i) then filler grouping place i
    else whole_digits grouping n decimals i (if leftmost then size n - (decimals + i) else 1)

-- whole place i from the right, without groups; where it is written, 0 has the digit 0
abbrev pub written_place : Bool → ℕ → Bool → Place → ℕ → List ℕ
written_place is_written n leftmost place i =
    if is_written && ((n == 0) && (i == 0)) then codes "0" else whole_place false n 0 leftmost place i

-- without a digit behind the point
abbrev pub no_decimal : Place → List ℕ
no_decimal place.Zero = codes "0"
no_decimal place.Question = codes " "
no_decimal place.Hash = []

-- decimal place i from the right: a digit, up to the last one that isn't 0 and the last `0` of the code
abbrev pub decimal_place : ℕ → Bool → Place → ℕ → List ℕ
decimal_place n is_kept place i =
    if is_kept || not (n % 10 ^ (i + 1) == 0) then digit n i ∷ [] else no_decimal place

-- ---- the text

abbrev pub place_text : Plain → ℕ → Seen → Place → List ℕ
place_text p n s place =
    if s.point then decimal_place n (nat_lt s.decimals p.seen.zeros) place (p.seen.decimals - s.decimals - 1)
    else whole_place p.grouping n p.seen.decimals (s.whole == 0) place (p.seen.whole - s.whole - 1)

-- without whole places, the whole part stands before the first point
abbrev pub whole_before : Plain → ℕ → Seen → List ℕ
whole_before p n s =
    if not s.point && (p.seen.whole == 0)
    then whole_digits p.grouping n p.seen.decimals 0 (size n - p.seen.decimals) else []

abbrev pub comma_text : Plain → Seen → List ℕ → List ℕ
comma_text p s own = if groups p.seen s || divides p.seen s then [] else own

-- every other item stands for itself, but `@` and elapsed time show nothing
abbrev pub item_text : Plain → ℕ → Seen → Item → List ℕ → List ℕ
item_text p n s (item.Place place) own = place_text p n s place
item_text p n s item.Point own = whole_before p n s ++ own
item_text p n s item.Comma own = comma_text p s own
item_text p n s item.Text own = []
item_text p n s (item.Elapsed letter) own = []
item_text p n s other own = own

abbrev pub text_from : Plain → ℕ → Seen → List Token → List ℕ
text_from p n s [] = []
text_from p n s (t ∷ ts) = item_text p n s t.0 t.1 ++ text_from p n (seen_after s t.0) ts

-- without a place items stand for themselves: nothing of the number is shown
abbrev pub number_shown : Plain → Decimal → ℕ
number_shown p d = if is_placed p.seen then number_under p d else 0

abbrev pub plain_text : List Token → Decimal → List ℕ
plain_text ts d =
    let p = plain_of (kinds ts) in
    text_from p (number_shown p d) none_seen ts
