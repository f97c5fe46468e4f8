-- For the proofs: what has been seen of a section with a fraction, and what it decides.
use Rattle.std.specs.Prelude.{ℕ, false, ◌||◌, if◌then◌else◌, List, [], ◌∷◌}
use Rattle.xls_number_formats.specs.declared.items.Item.{Item}
use Rattle.xls_number_formats.specs.Grammar.{Token, is_place}
use Rattle.xls_shown_numbers.specs.Plain.{is_zero}
use Rattle.xls_shown_fractions.specs.declared.roles.Spot.{Spot}
use Rattle.xls_shown_fractions.specs.declared.needs.Fraction.{Fraction}
use Rattle.xls_shown_fractions.specs.declared.needs.Scan.{Scan}
use Rattle.xls_shown_fractions.specs.Roles.{at_start, one_more, spot_after, role_of}
use Rattle.xls_shown_fractions.specs.Needs.{is_question, is_denominator, in_numerator, in_denominator, last_whole, digit_more, fixed_of}

abbrev pub no_items : Scan
no_items = record {
  places = 0;
  zeros = 0;
  spelled = 0;
  has_numerator_zero = false;
  has_numerator_question = false;
  has_denominator_question = false;
  ends_in_zero = false;
  ends_in_question = false;
}

abbrev pub scanned : Scan → ℕ → Spot → Item → List ℕ → Scan
scanned scan whole s i own = record {
  places = one_more (in_denominator is_place whole s i) scan.places;
  zeros = one_more (in_denominator is_zero whole s i) scan.zeros;
  spelled = if is_denominator (role_of whole s i) then digit_more scan.spelled own else scan.spelled;
  has_numerator_zero = scan.has_numerator_zero || in_numerator is_zero whole s i;
  has_numerator_question = scan.has_numerator_question || in_numerator is_question whole s i;
  has_denominator_question = scan.has_denominator_question || in_denominator is_question whole s i;
  ends_in_zero = scan.ends_in_zero || last_whole is_zero whole s i;
  ends_in_question = scan.ends_in_question || last_whole is_question whole s i;
}

abbrev pub scan_from : Scan → ℕ → Spot → List Token → Scan
scan_from scan whole s [] = scan
scan_from scan whole s (t ∷ ts) = scan_from (scanned scan whole s t.0 t.1) whole (spot_after s t.0) ts

abbrev pub scan_of : ℕ → List Token → Scan
scan_of whole ts = scan_from no_items whole at_start ts

abbrev pub needs_by : Spot → ℕ → Scan → Fraction
needs_by all whole scan = record {
  whole = whole;
  numerator = all.last;
  places = scan.places;
  zeros = scan.zeros;
  fixed = fixed_of all.fixed scan.spelled;
  has_numerator_zero = scan.has_numerator_zero;
  has_numerator_question = scan.has_numerator_question;
  has_denominator_question = scan.has_denominator_question;
  ends_in_zero = scan.ends_in_zero;
  ends_in_question = scan.ends_in_question;
}
