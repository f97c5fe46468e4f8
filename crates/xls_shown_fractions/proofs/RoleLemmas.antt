-- Counts and flags over the items of a section with a fraction.
use Rattle.std.proofs.Common.{◌≡◌, ℕ, suc, ◌+◌, ◌^◌, ◌<◌, ◌≤◌, Bool, true, false, ◌||◌, if◌then◌else◌, List, [], ◌∷◌, length, refl, arith, ap, sym, ◌∙◌}
use Rattle.std.specs.Prelude.{IfSome}
use Rattle.xls_number_formats.specs.declared.items.Item.{Item}
use Rattle.xls_number_formats.specs.Grammar.{Token, is_place}
use Rattle.xls_number_formats.specs.Sections.{is_shown, kinds}
use Rattle.xls_shown_numbers.specs.Plain.{is_zero}
use Rattle.xls_shown_fractions.specs.declared.roles.Spot.{Spot}
use Rattle.xls_shown_fractions.specs.declared.needs.Scan.{Scan}
use Rattle.xls_shown_fractions.specs.Roles.{at_start, one_more, spot_next, spot_after, spot_all, role_of}
use Rattle.xls_shown_fractions.specs.Needs.{is_question, is_denominator, in_numerator, in_denominator, last_whole, any_from, count_from, digit_more, spelled_from, fixed_of, whole_of, needs_in, needs_of}
use Rattle.xls_shown_fractions.specs.Scans.{no_items, scanned, scan_from, scan_of, needs_by}

-- counts of no more than the items so far, with so many left
pub record IsWithin (s : Spot) (left all : ℕ) : Type 0 where
  pub placed : s.placed + left ≤ all
  pub run : s.run + left ≤ all

pub within_none : (all : ℕ) → IsWithin at_start all all
within_none all = record { placed = omega arith; run = omega arith }

one_within : (counts : Bool) (n left all : ℕ) → n + suc left ≤ all → one_more counts n + left ≤ all
one_within true n left all p = omega arith
one_within false n left all p = omega arith

run_within : (place : Bool) (n left all : ℕ) → n + suc left ≤ all → (if place then n + 1 else 0) + left ≤ all
run_within true n left all p = omega arith
run_within false n left all p = omega arith

within_by : (shown : Bool) (s : Spot) (i : Item) (n all : ℕ) → s.placed + suc n ≤ all → s.run + suc n ≤ all → IsWithin (if shown then spot_next s i else s) n all
within_by true s i n all p q = record { placed = one_within _ s.placed n all p; run = run_within (is_place i) s.run n all q }
within_by false s i n all p q = record { placed = omega (arith, p); run = omega (arith, q) }

pub within_more : (s : Spot) (t : Token) (ts left : List Token) (all : ℕ) → left ≡ t ∷ ts → IsWithin s (length left) all → IsWithin (spot_after s t.0) (length ts) all
within_more s t ts left all e w =
    let more : length left ≡ suc (length ts) = ap length e in
    within_by (is_shown t.0) s t.0 (length ts) all (omega (arith, w.placed, more)) (omega (arith, w.run, more))

pub within_small : (s : Spot) (t : Token) (ts left : List Token) (all : ℕ) → left ≡ t ∷ ts → IsWithin s (length left) all → all < 2 ^ 63
    → (s.placed < 2 ^ 63) × (s.run < 2 ^ 63)
within_small s t ts left all e w few =
    let more : length left ≡ suc (length ts) = ap length e in
    (omega (arith, w.placed, more, few), omega (arith, w.run, more, few))

pub counted_more : (counts : Bool) (n now all : ℕ) (t : Token) (ts left : List Token) → left ≡ t ∷ ts → now ≡ one_more counts n → n + length left ≤ all → now + length ts ≤ all
counted_more counts n now all t ts left e is so =
    let more : length left ≡ suc (length ts) = ap length e in
    rw is (one_within counts n (length ts) all (omega (arith, so, more)))

pub counted_small : (n all : ℕ) (t : Token) (ts left : List Token) → left ≡ t ∷ ts → n + length left ≤ all → all < 2 ^ 63 → n < 2 ^ 63
counted_small n all t ts left e so few = let more : length left ≡ suc (length ts) = ap length e in omega (arith, so, more, few)

-- an item more of those left
pub spot_more : (s now all : Spot) (t : Token) (ts left : List Token) → left ≡ t ∷ ts → now ≡ spot_after s t.0 → spot_all s (kinds left) ≡ all → spot_all now (kinds ts) ≡ all
spot_more s now all t ts left e is so = ap (λ q. spot_all q (kinds ts)) is ∙ sym (ap (λ xs. spot_all s (kinds xs)) e) ∙ so

pub scan_more : (scan now all : Scan) (whole : ℕ) (s next : Spot) (t : Token) (ts left : List Token) → left ≡ t ∷ ts → now ≡ scanned scan whole s t.0 t.1 → next ≡ spot_after s t.0
    → scan_from scan whole s left ≡ all → scan_from now whole next ts ≡ all
scan_more scan now all whole s next t ts left e is at so =
    ap (λ q. scan_from q whole next ts) is ∙ ap (λ q. scan_from (scanned scan whole s t.0 t.1) whole q ts) at ∙ sym (ap (λ xs. scan_from scan whole s xs) e) ∙ so

-- ---- what has been seen of all items is what they have

or_none : (a : Bool) → a ≡ (a || false)
or_none true = refl
or_none false = refl

or_assoc : (a b c : Bool) → ((a || b) || c) ≡ (a || (b || c))
or_assoc true b c = refl
or_assoc false b c = refl

one_moved : (counts : Bool) (n rest : ℕ) → one_more counts n + rest ≡ n + one_more counts rest
one_moved true n rest = omega arith
one_moved false n rest = refl

flag_is : (f : Scan → Bool) (p : ℕ → Spot → Item → Bool) → ((scan : Scan) (whole : ℕ) (s : Spot) (i : Item) (own : List ℕ) → f (scanned scan whole s i own) ≡ (f scan || p whole s i))
    → (scan : Scan) (whole : ℕ) (s : Spot) (ts : List Token) → f (scan_from scan whole s ts) ≡ (f scan || any_from p whole s (kinds ts))
flag_is f p step scan whole s [] = or_none (f scan)
flag_is f p step scan whole s (t ∷ ts) =
    flag_is f p step (scanned scan whole s t.0 t.1) whole (spot_after s t.0) ts
    ∙ ap (λ b. b || any_from p whole (spot_after s t.0) (kinds ts)) (step scan whole s t.0 t.1)
    ∙ or_assoc (f scan) (p whole s t.0) (any_from p whole (spot_after s t.0) (kinds ts))

count_is : (f : Scan → ℕ) (p : ℕ → Spot → Item → Bool) → ((scan : Scan) (whole : ℕ) (s : Spot) (i : Item) (own : List ℕ) → f (scanned scan whole s i own) ≡ one_more (p whole s i) (f scan))
    → (scan : Scan) (whole : ℕ) (s : Spot) (ts : List Token) → f (scan_from scan whole s ts) ≡ f scan + count_from p whole s (kinds ts)
count_is f p step scan whole s [] = omega arith
count_is f p step scan whole s (t ∷ ts) =
    count_is f p step (scanned scan whole s t.0 t.1) whole (spot_after s t.0) ts
    ∙ ap (λ n. n + count_from p whole (spot_after s t.0) (kinds ts)) (step scan whole s t.0 t.1)
    ∙ one_moved (p whole s t.0) (f scan) (count_from p whole (spot_after s t.0) (kinds ts))

spelled_is : (scan : Scan) (whole : ℕ) (s : Spot) (ts : List Token) → (scan_from scan whole s ts).spelled ≡ spelled_from whole s scan.spelled ts
spelled_is scan whole s [] = refl
spelled_is scan whole s (t ∷ ts) = spelled_is (scanned scan whole s t.0 t.1) whole (spot_after s t.0) ts

none_more : (n : ℕ) → 0 + n ≡ n
none_more n = omega arith

pub needs_is : (all : Spot) (ts : List Token) → needs_by all (whole_of all) (scan_of (whole_of all) ts) ≡ needs_in all ts
needs_is all ts =
    let w = whole_of all in
    let scan = scan_of w ts in
    let places : scan.places ≡ count_from (in_denominator is_place) w at_start (kinds ts) = count_is (λ x. x.places) (in_denominator is_place) (λ a b c d e. refl) no_items w at_start ts ∙ none_more _ in
    let zeros : scan.zeros ≡ count_from (in_denominator is_zero) w at_start (kinds ts) = count_is (λ x. x.zeros) (in_denominator is_zero) (λ a b c d e. refl) no_items w at_start ts ∙ none_more _ in
    let spelled : scan.spelled ≡ spelled_from w at_start 0 ts = spelled_is no_items w at_start ts in
    let one : scan.has_numerator_zero ≡ any_from (in_numerator is_zero) w at_start (kinds ts) = flag_is (λ x. x.has_numerator_zero) (in_numerator is_zero) (λ a b c d e. refl) no_items w at_start ts in
    let two : scan.has_numerator_question ≡ any_from (in_numerator is_question) w at_start (kinds ts) = flag_is (λ x. x.has_numerator_question) (in_numerator is_question) (λ a b c d e. refl) no_items w at_start ts in
    let three : scan.has_denominator_question ≡ any_from (in_denominator is_question) w at_start (kinds ts) = flag_is (λ x. x.has_denominator_question) (in_denominator is_question) (λ a b c d e. refl) no_items w at_start ts in
    let four : scan.ends_in_zero ≡ any_from (last_whole is_zero) w at_start (kinds ts) = flag_is (λ x. x.ends_in_zero) (last_whole is_zero) (λ a b c d e. refl) no_items w at_start ts in
    let five : scan.ends_in_question ≡ any_from (last_whole is_question) w at_start (kinds ts) = flag_is (λ x. x.ends_in_question) (last_whole is_question) (λ a b c d e. refl) no_items w at_start ts in
    rw (places, zeros, spelled, one, two, three, four, five) refl

-- ---- a fixed denominator

digit_small : (b : Bool) (n : ℕ) (own : List ℕ) → n ≤ 10 ^ 15 → (if b then digit_more n own else n) ≤ 10 ^ 15
digit_small true n own p = omega arith
digit_small false n own p = p

spelled_small : (whole : ℕ) (s : Spot) (n : ℕ) (ts : List Token) → n ≤ 10 ^ 15 → spelled_from whole s n ts ≤ 10 ^ 15
spelled_small whole s n [] p = p
spelled_small whole s n (t ∷ ts) p = spelled_small whole (spot_after s t.0) _ ts (digit_small (is_denominator (role_of whole s t.0)) n t.1 p)

fixed_by : (b : Bool) (n : ℕ) → n ≤ 10 ^ 15 → IfSome (fixed_of b n) (λ d. d ≤ 2 ^ 53)
fixed_by true n p = omega (arith, p)
fixed_by false n p = tt

pub fixed_small : (ts : List Token) → IfSome (needs_of ts).fixed (λ d. d ≤ 2 ^ 53)
fixed_small ts = fixed_by _ _ (spelled_small _ at_start 0 ts (omega arith))
