-- Items before and behind an exponent.
use Rattle.std.proofs.Common.{◌≡◌, ℕ, ◌+◌, ◌<◌, ◌≤◌, ◌^◌, Bool, true, false, ◌&&◌, ◌||◌, if◌then◌else◌, List, [], ◌∷◌, ◌++◌, length, refl, arith, ap, sym, ◌∙◌, append_assoc}
use Rattle.std.specs.Prelude.{ℤ}
use Rattle.std.proofs.lemmas.Bool.{false≢true}
use Rattle.xls_number_formats.specs.declared.items.Place.TheVariants as place
use Rattle.xls_number_formats.specs.declared.items.Item.{Item}
use Rattle.xls_number_formats.specs.declared.items.Item.TheVariants as item
use Rattle.xls_number_formats.specs.Grammar.{Token, is_place}
use Rattle.xls_number_formats.specs.Sections.{is_exponent, kinds}
use Rattle.xls_shown_numbers.specs.declared.parts.Part.{Part}
use Rattle.xls_shown_numbers.specs.declared.parts.Part.TheVariants as part
use Rattle.xls_shown_numbers.specs.declared.plain.Seen.{Seen}
use Rattle.xls_shown_numbers.specs.declared.plain.Plain.{Plain}
use Rattle.xls_shown_numbers.specs.Plain.{one_more, none_seen, seen_after, seen_all, item_text, text_from}
use Rattle.xls_shown_numbers.specs.Exponent.{mantissa, zeroed, zeroed_from, places_in, places_behind, needs_of, behind_text, behind_from, exponent_from}
use Rattle.xls_shown_numbers.specs.Parts.{part_of, filled}
use Rattle.xls_shown_numbers.proofs.PlainLemmas.{one_within}
use Rattle.xls_shown_numbers.proofs.ShownLemmas.{text_more}

mantissa_len : (ts : List Token) → length (mantissa ts) ≤ length ts
mantissa_len [] = omega arith
mantissa_len ((item.Exponent plus, own) ∷ ts) = omega arith
mantissa_len ((other, own) ∷ ts) = let less = mantissa_len ts in omega (arith, less)

pub part_len : (p : Part) (ts : List Token) → length (part_of p ts) ≤ length ts
part_len part.Whole ts = omega arith
part_len part.Mantissa ts = mantissa_len ts

-- places of the exponent among the items left
abbrev pub left_behind : Bool → List Token → ℕ
left_behind true ts = places_in ts
left_behind false ts = places_behind ts

left_one : (behind place exponent : Bool) (n in_ts behind_ts : ℕ)
    → one_more (behind && place) n + (if behind || exponent then in_ts else behind_ts) ≡ n + (if behind then (if place then in_ts + 1 else in_ts) else if exponent then in_ts else behind_ts)
left_one true true exponent n in_ts behind_ts = omega arith
left_one true false exponent n in_ts behind_ts = refl
left_one false place true n in_ts behind_ts = refl
left_one false place false n in_ts behind_ts = refl

left_is : (behind : Bool) (ts : List Token) → left_behind behind ts ≡ (if behind then places_in ts else places_behind ts)
left_is true ts = refl
left_is false ts = refl

pub left_more : (behind : Bool) (n now whole : ℕ) (t : Token) (ts left : List Token) → left ≡ t ∷ ts → now ≡ one_more (behind && is_place t.0) n
    → n + left_behind behind left ≡ whole → now + left_behind (behind || is_exponent t.0) ts ≡ whole
left_more behind n now whole t ts left e is so =
    ap (λ k. k + left_behind (behind || is_exponent t.0) ts) is ∙ ap (λ k. one_more (behind && is_place t.0) n + k) (left_is (behind || is_exponent t.0) ts)
    ∙ left_one behind (is_place t.0) (is_exponent t.0) n (places_in ts) (places_behind ts)
    ∙ sym (ap (λ k. n + k) (left_is behind (t ∷ ts))) ∙ sym (ap (λ xs. n + left_behind behind xs) e) ∙ so

-- ---- zeros in the whole places

-- what has been seen is the same
zeroed_seen : (s : Seen) (i : Item) (b : Bool) → b ≡ s.point → seen_after s (zeroed b i) ≡ seen_after s i
zeroed_seen s (item.Place kind) true e = refl
zeroed_seen s (item.Place place.Zero) false e = refl
zeroed_seen s (item.Place place.Hash) false e = rw (← e) refl
zeroed_seen s (item.Place place.Question) false e = rw (← e) refl
zeroed_seen s other b e = refl

-- an item more of those left, filled or not
pub filled_more : (fills : Bool) (p : Plain) (n : ℕ) (s : Seen) (old now whole : List ℕ) (t : Token) (ts left : List Token) → left ≡ t ∷ ts
    → now ≡ old ++ item_text p n s (if fills then zeroed s.point t.0 else t.0) t.1
    → old ++ text_from p n s (filled fills s left) ≡ whole → now ++ text_from p n (seen_after s t.0) (filled fills (seen_after s t.0) ts) ≡ whole
filled_more true p n s old now whole t ts left e f all =
    ap (λ q. now ++ text_from p n q (zeroed_from (seen_after s t.0) ts)) (sym (zeroed_seen s t.0 s.point refl))
    ∙ text_more p n s old now whole (zeroed s.point t.0, t.1) (zeroed_from (seen_after s t.0) ts) (zeroed_from s left) (ap (zeroed_from s) e) f all
filled_more false p n s old now whole t ts left e f all = text_more p n s old now whole t ts left e f all

-- ---- behind the exponent

pub place_left : (n : ℕ) (t : Token) (ts left : List Token) → left ≡ t ∷ ts → n ≡ places_in left → is_place t.0 ≡ true → 0 < n
place_left n t ts left e is place = let all : n ≡ places_in ts + 1 = is ∙ ap places_in e ∙ ap (λ b. if b then places_in ts + 1 else places_in ts) place in omega (arith, all)

less_one : (b : Bool) (n r p : ℕ) → n ≡ (if b then r + 1 else r) → n ≡ (if b then p + 1 else p) → r ≡ p
less_one true n r p e f = omega (arith, e, f)
less_one false n r p e f = sym e ∙ f

pub one_less : (n r : ℕ) (t : Token) (ts left : List Token) → left ≡ t ∷ ts → n ≡ places_in left → n ≡ (if is_place t.0 then r + 1 else r) → r ≡ places_in ts
one_less n r t ts left e is f = less_one (is_place t.0) n r (places_in ts) f (is ∙ ap places_in e)

pub behind_more : (plus : Bool) (e : ℤ) (placed : Bool) (n : ℕ) (old now whole : List ℕ) (t : Token) (ts left : List Token) → left ≡ t ∷ ts → n ≡ places_in ts
    → now ≡ old ++ behind_text plus e placed n t.0 t.1
    → old ++ behind_from plus e placed left ≡ whole → now ++ behind_from plus e (placed || is_place t.0) ts ≡ whole
behind_more plus e placed n old now whole t ts left f is g all =
    ap (λ xs. xs ++ behind_from plus e (placed || is_place t.0) ts) (g ∙ ap (λ k. old ++ behind_text plus e placed k t.0 t.1) is)
    ∙ append_assoc old (behind_text plus e placed (places_in ts) t.0 t.1) (behind_from plus e (placed || is_place t.0) ts)
    ∙ sym (ap (λ xs. old ++ behind_from plus e placed xs) f) ∙ all

-- ---- before it

pub exponent_later : (e : ℤ) (i : Item) (own : List ℕ) (ts : List Token) → is_exponent i ≡ false → exponent_from e ((i, own) ∷ ts) ≡ exponent_from e ts
exponent_later e (item.Exponent plus) own ts none = absurd (false≢true (sym none))
exponent_later e other own ts none = refl

-- no more whole places than items
seen_whole : (s : Seen) (ts : List Token) (all : ℕ) → s.whole + length ts ≤ all → (seen_all s (kinds ts)).whole ≤ all
seen_whole s [] all p = omega (arith, p)
seen_whole s (t ∷ ts) all p = seen_whole (seen_after s t.0) ts all (one_within _ s.whole (length ts) all (omega (arith, p)))

pub few_whole : (ts : List Token) → length ts < 2 ^ 63 → (needs_of ts).mantissa.seen.whole < 2 ^ 63
few_whole ts few =
    let less = mantissa_len ts in
    let whole = seen_whole none_seen (mantissa ts) (length ts) (omega (arith, less)) in
    omega (arith, few, whole)
