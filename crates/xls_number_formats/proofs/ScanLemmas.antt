-- What has been seen of a section is what its items have.
use Rattle.std.proofs.Common.{◌≡◌, Bool, true, false, not, ◌&&◌, ◌||◌, if◌then◌else◌, List, [], ◌∷◌, ap, ap₂, sym, refl, ◌∙◌, Option, Some, None}
use Rattle.xls_number_formats.specs.declared.items.Condition.{Condition}
use Rattle.xls_number_formats.specs.declared.items.Item.{Item}
use Rattle.xls_number_formats.specs.declared.sections.Scan.{Scan}
use Rattle.xls_number_formats.specs.Grammar.{is_place}
use Rattle.xls_number_formats.specs.Sections.{is_date_item, is_year_item, is_elapsed, is_general, is_text, is_slash, is_exponent, is_value, is_part, is_shown, own_condition, later, has, before, behind, condition_of, section_of}
use Rattle.xls_number_formats.specs.Scans.{no_items, scanned, scan_all, section_by}

or_assoc : (a b c : Bool) → ((a || b) || c) ≡ (a || (b || c))
or_assoc true b c = refl
or_assoc false b c = refl

or_false : (a : Bool) → (a || false) ≡ a
or_false true = refl
or_false false = refl

-- a flag that an item with p sets
any_all : (f : Scan → Bool) (p : Item → Bool) → ((s : Scan) (i : Item) → f (scanned s i) ≡ (f s || p i)) → (s : Scan) (is : List Item) → f (scan_all s is) ≡ (f s || has p is)
any_all f p step s [] = sym (or_false (f s))
any_all f p step s (i ∷ is) = any_all f p step (scanned s i) is ∙ ap (λ b. b || has p is) (step s i) ∙ or_assoc (f s) (p i) (has p is)

-- what stands behind the first item with q, or all where one has been seen
abbrev behind_if : Bool → (Item → Bool) → List Item → List Item
behind_if seen q is = if seen then is else behind q is

behind_more : (p q : Item → Bool) (seen : Bool) (i : Item) (is : List Item) → ((seen && p i) || has p (behind_if (seen || q i) q is)) ≡ has p (behind_if seen q (i ∷ is))
behind_more p q true i is = refl
behind_more p q false i is = refl

-- a flag that an item with p behind one with q sets
behind_all : (f g : Scan → Bool) (p q : Item → Bool) → ((s : Scan) (i : Item) → f (scanned s i) ≡ (f s || (g s && p i))) → ((s : Scan) (i : Item) → g (scanned s i) ≡ (g s || q i))
    → (s : Scan) (is : List Item) → f (scan_all s is) ≡ (f s || has p (behind_if (g s) q is))
behind_all f g p q step seen s [] = sym (by_test (g s) ∙ or_false (f s)) where
  by_test : (t : Bool) → (f s || has p (behind_if t q [])) ≡ (f s || false)
  by_test true = refl
  by_test false = refl
behind_all f g p q step seen s (i ∷ is) =
    behind_all f g p q step seen (scanned s i) is ∙ ap₂ (λ a b. a || has p (behind_if b q is)) (step s i) (seen s i)
    ∙ or_assoc (f s) (g s && p i) _ ∙ ap (λ b. f s || b) (behind_more p q (g s) i is)

-- a flag that an item with p before each with q sets
before_more : (p q : Item → Bool) (seen : Bool) (i : Item) (is : List Item) → ((not (seen || q i) && p i) || (not (seen || q i) && has p (before q is))) ≡ (not seen && has p (before q (i ∷ is)))
before_more p q true i is = refl
before_more p q false i is = by_test (q i) where
  by_test : (t : Bool) → ((not t && p i) || (not t && has p (before q is))) ≡ has p (if t then [] else i ∷ before q is)
  by_test true = refl
  by_test false = refl

before_all : (f g : Scan → Bool) (p q : Item → Bool) → ((s : Scan) (i : Item) → f (scanned s i) ≡ (f s || (not (g s || q i) && p i))) → ((s : Scan) (i : Item) → g (scanned s i) ≡ (g s || q i))
    → (s : Scan) (is : List Item) → f (scan_all s is) ≡ (f s || (not (g s) && has p (before q is)))
before_all f g p q step seen s [] = sym (by_test (g s) ∙ or_false (f s)) where
  by_test : (t : Bool) → (f s || (not t && false)) ≡ (f s || false)
  by_test true = refl
  by_test false = refl
before_all f g p q step seen s (i ∷ is) =
    before_all f g p q step seen (scanned s i) is ∙ ap₂ (λ a b. a || (not b && has p (before q is))) (step s i) (seen s i)
    ∙ or_assoc (f s) (not (g s || q i) && p i) _ ∙ ap (λ b. f s || b) (before_more p q (g s) i is)

later_assoc : (a b c : Option Condition) → later (later a b) c ≡ later a (later b c)
later_assoc a b None = refl
later_assoc a b (Some c) = refl

condition_all : (s : Scan) (is : List Item) → (scan_all s is).condition ≡ later s.condition (condition_of is)
condition_all s [] = refl
condition_all s (i ∷ is) = condition_all (scanned s i) is ∙ later_assoc s.condition (own_condition i) (condition_of is)

only : (o : Option Condition) → later None o ≡ o
only None = refl
only (Some c) = refl

-- what has been seen of all items decides what the section is
pub section_by_all : (is : List Item) → section_by (scan_all no_items is) ≡ section_of is
section_by_all is =
    let date = any_all (λ s. s.date) is_date_item (λ s i. refl) no_items is in
    let year = any_all (λ s. s.year) is_year_item (λ s i. refl) no_items is in
    let value = any_all (λ s. s.value) is_value (λ s i. refl) no_items is in
    let general = any_all (λ s. s.general) is_general (λ s i. refl) no_items is in
    let text = any_all (λ s. s.text) is_text (λ s i. refl) no_items is in
    let shown = any_all (λ s. s.shown) is_shown (λ s i. refl) no_items is in
    let elapsed = any_all (λ s. s.elapsed) is_elapsed (λ s i. refl) no_items is in
    let slash = any_all (λ s. s.slash) is_slash (λ s i. refl) no_items is in
    let second = behind_all (λ s. s.second_slash) (λ s. s.slash) is_slash is_slash (λ s i. refl) (λ s i. refl) no_items is in
    let place = before_all (λ s. s.place_before) (λ s. s.slash) is_place is_slash (λ s i. refl) (λ s i. refl) no_items is in
    let part = behind_all (λ s. s.part_behind) (λ s. s.slash) is_part is_slash (λ s i. refl) (λ s i. refl) no_items is in
    let scaled = behind_all (λ s. s.exponent_place) (λ s. s.exponent) is_place is_exponent (λ s i. refl) (λ s i. refl) no_items is in
    let condition = condition_all no_items is ∙ only (condition_of is) in
    rw (date, year, value, general, text, shown, elapsed, slash, second, place, part, scaled, condition) refl
