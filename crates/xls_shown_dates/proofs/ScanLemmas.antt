-- What has been seen of a section is what its fields have.
use Rattle.std.proofs.Common.{◌≡◌, ℕ, Bool, true, false, ◌||◌, List, [], ◌∷◌, drop, length, ap, ap₂, sym, refl, ◌∙◌, Option, Some, None}
use Rattle.xls_number_formats.specs.declared.items.Letter.{Letter}
use Rattle.xls_number_formats.specs.Grammar.{Token}
use Rattle.xls_shown_dates.specs.declared.fields.Field.{Field}
use Rattle.xls_shown_dates.specs.declared.clocks.Clock.{Clock}
use Rattle.xls_shown_dates.specs.Fields.{letter_in, with_letter, letters, first, letter_after, zeros_after, field_of, fields_from, has, is_time, is_tenths, is_hundredths, is_thousandths, is_half_day, is_elapsed_hours, is_elapsed_minutes, is_elapsed_seconds, clock_of}
use Rattle.xls_shown_dates.specs.Scans.{no_fields, scanned, scan_all, LooksAhead}

or_assoc : (a b c : Bool) → ((a || b) || c) ≡ (a || (b || c))
or_assoc true b c = refl
or_assoc false b c = refl

or_false : (a : Bool) → (a || false) ≡ a
or_false true = refl
or_false false = refl

-- a flag that a field with p sets
any_all : (f : Clock → Bool) (p : Field → Bool) → ((c : Clock) (x : Field) → f (scanned c x) ≡ (f c || p x)) → (c : Clock) (xs : List (Field × List ℕ)) → f (scan_all c xs) ≡ (f c || has p xs)
any_all f p step c [] = sym (or_false (f c))
any_all f p step c (x ∷ xs) = any_all f p step (scanned c x.0) xs ∙ ap (λ b. b || has p xs) (step c x.0) ∙ or_assoc (f c) (p x.0) (has p xs)

-- what has been seen of all fields is what the section needs
pub clock_all : (xs : List (Field × List ℕ)) → scan_all no_fields xs ≡ clock_of xs
clock_all xs =
    let time = any_all (λ c. c.has_time) is_time (λ c x. refl) no_fields xs in
    let tenths = any_all (λ c. c.has_tenths) is_tenths (λ c x. refl) no_fields xs in
    let hundredths = any_all (λ c. c.has_hundredths) is_hundredths (λ c x. refl) no_fields xs in
    let thousandths = any_all (λ c. c.has_thousandths) is_thousandths (λ c x. refl) no_fields xs in
    let half_days = any_all (λ c. c.has_half_days) is_half_day (λ c x. refl) no_fields xs in
    let hours = any_all (λ c. c.has_elapsed_hours) is_elapsed_hours (λ c x. refl) no_fields xs in
    let minutes = any_all (λ c. c.has_elapsed_minutes) is_elapsed_minutes (λ c x. refl) no_fields xs in
    let seconds = any_all (λ c. c.has_elapsed_seconds) is_elapsed_seconds (λ c x. refl) no_fields xs in
    rw (sym time, sym tenths, sym hundredths, sym thousandths, sym half_days, sym hours, sym minutes, sym seconds) refl

-- ---- letters behind

behind_with : (l : Option Letter) (behind result : Option Letter) (left now ls : List Letter) → LooksAhead l behind left result now
    → behind ≡ first (with_letter l ls) → left ≡ drop 1 (with_letter l ls) → (result ≡ first ls) × (now ≡ drop 1 ls)
behind_with None behind result left now ls h e f = (h.0 ∙ e, h.1 ∙ f)
behind_with (Some l) behind result left now ls h e f = (h.0 ∙ ap first f, h.1 ∙ ap (drop 1) f)

-- the letters behind an item are those found, and those that are left
pub behind_step : (t : Token) (ts left : List Token) (behind result : Option Letter) (ahead now : List Letter) → left ≡ t ∷ ts → LooksAhead (letter_in t.0) behind ahead result now
    → behind ≡ first (letters left) → ahead ≡ drop 1 (letters left) → (result ≡ first (letters ts)) × (now ≡ drop 1 (letters ts))
behind_step t ts left behind result ahead now e h f g =
    behind_with (letter_in t.0) behind result ahead now (letters ts) h (f ∙ ap (λ xs. first (letters xs)) e) (g ∙ ap (λ xs. drop 1 (letters xs)) e)

-- ---- a field more

pub fields_step : (t : Token) (ts left : List Token) (before after behind : Option Letter) (zeros next : Option ℕ) (f : Field) → left ≡ t ∷ ts → behind ≡ first (letters ts)
    → f ≡ field_of before behind zeros t.0 (length t.1) → after ≡ letter_after before t.0 → next ≡ zeros_after zeros t.0
    → fields_from before zeros left ≡ (f, t.1) ∷ fields_from after next ts
fields_step t ts left before after behind zeros next f e b g a z =
    ap (fields_from before zeros) e
    ∙ ap₂ (λ x xs. (x, t.1) ∷ xs) (sym (g ∙ ap (λ l. field_of before l zeros t.0 (length t.1)) b)) (ap₂ (λ l n. fields_from l n ts) (sym a) (sym z))

pub scan_step : (t : Token) (ts left : List Token) (before after : Option Letter) (zeros next : Option ℕ) (behind : Option Letter) (f : Field) (old now all : Clock) → left ≡ t ∷ ts
    → behind ≡ first (letters ts) → f ≡ field_of before behind zeros t.0 (length t.1) → now ≡ scanned old f → after ≡ letter_after before t.0 → next ≡ zeros_after zeros t.0
    → scan_all old (fields_from before zeros left) ≡ all → scan_all now (fields_from after next ts) ≡ all
scan_step t ts left before after zeros next behind f old now all e b g n a z h =
    ap (λ c. scan_all c (fields_from after next ts)) n ∙ sym (ap (scan_all old) (fields_step t ts left before after behind zeros next f e b g a z)) ∙ h
