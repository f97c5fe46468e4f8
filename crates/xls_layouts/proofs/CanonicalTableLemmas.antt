-- The canonical cuts of a string table are valid.
use Rattle.std.proofs.Common.{◌≡◌, ℕ, suc, ◌+◌, ◌^◌, ◌<◌, ◌≤◌, Bool, true, false, List, [], ◌∷◌, ◌++◌, length, Some, None, refl, sym, ap, subst, ◌∙◌, arith, lit<, lit≤}
use Rattle.std.specs.Prelude.{nat_lt, not, ◌&&◌}
use Rattle.std.specs.List.{AllByRecursion}
use Rattle.std.proofs.lemmas.Bool.{ltb-true, ltb-false}
use Rattle.std.proofs.lemmas.List.{append-nil}
use Rattle.xls_stream.specs.StringTable.{Mark, prefix_of}
use Rattle.xls_layouts.specs.LaidStrings.{Step, put, marks_of_steps, units_of_steps, FitsWidth, AreSteps, marks_of_break, marks_of_string, IsLaidString, marks_of_strings, lists_of, pieces_of}
use Rattle.xls_layouts.specs.Canonical.{passes, fill_from, unit_size, cut_if, used_after, canonical_steps, is_narrow, canonical_string, canonical_strings, IsUnit, FitsString}

-- ---- units are those of the string

pub same_units : (wide : Bool) (used : ℕ) (us : List ℕ) → units_of_steps (canonical_steps wide used us) ≡ us
same_units wide used [] = refl
same_units wide used (u ∷ us) = put_units (passes used (unit_size wide)) wide u us (canonical_steps wide (used_after (passes used (unit_size wide)) 1 used (unit_size wide)) us) (same_units wide (used_after (passes used (unit_size wide)) 1 used (unit_size wide)) us)
  where
    put_units : (p wide : Bool) (u : ℕ) (us : List ℕ) (steps : List Step) → units_of_steps steps ≡ us → units_of_steps (cut_if p wide (put u ∷ steps)) ≡ u ∷ us
    put_units true wide u us steps e = ap (λ (x : List ℕ). u ∷ x) e
    put_units false wide u us steps e = ap (λ (x : List ℕ). u ∷ x) e

pub same_lists : (used : ℕ) (strings : List (List ℕ)) → lists_of (canonical_strings used strings) ≡ strings
same_lists used [] = refl
same_lists used (us ∷ strings) =
    ap (λ (x : List ℕ). x ∷ lists_of (canonical_strings (fill_from used (marks_of_string (canonical_string used us))) strings)) (same_units (not (is_narrow us)) (used_after (passes used 3) 0 used 3) us)
    ∙ ap (λ (xs : List (List ℕ)). us ∷ xs) (same_lists (fill_from used (marks_of_string (canonical_string used us))) strings)

-- ---- each string is valid

steps_over : (p wide : Bool) (u : ℕ) (steps : List Step) → FitsWidth wide u → AreSteps wide steps → AreSteps wide (cut_if p wide (put u ∷ steps))
steps_over true wide u steps f h = (omega arith, (f, h))
steps_over false wide u steps f h = (f, h)

are_steps : (wide : Bool) (used : ℕ) (us : List ℕ) → AllByRecursion (FitsWidth wide) us → AreSteps wide (canonical_steps wide used us)
are_steps wide used [] h = tt
are_steps wide used (u ∷ us) h =
    let after = used_after (passes used (unit_size wide)) 1 used (unit_size wide) in
    steps_over (passes used (unit_size wide)) wide u (canonical_steps wide after us) h.0 (are_steps wide after us h.1)

both_true : (a b : Bool) → (a && b) ≡ true → (a ≡ true) × (b ≡ true)
both_true true b e = (refl, e)
both_true false b e = absurd cc

all_narrow : (us : List ℕ) → is_narrow us ≡ true → AllByRecursion (FitsWidth false) us
all_narrow [] e = tt
all_narrow (u ∷ us) e = let h = both_true (nat_lt u 256) (is_narrow us) e in (ltb-true u 256 h.0, all_narrow us h.1)

pub fit_width : (us : List ℕ) (narrow : Bool) → is_narrow us ≡ narrow → AllByRecursion IsUnit us → AllByRecursion (FitsWidth (not narrow)) us
fit_width us true e h = all_narrow us e
fit_width us false e h = h

laid_one : (used : ℕ) (us : List ℕ) → FitsString us → IsLaidString (canonical_string used us)
laid_one used us h =
    let wide = not (is_narrow us) in
    let from = used_after (passes used 3) 0 used 3 in
    record {
      count = subst (λ (x : List ℕ). length x < 2 ^ 16) (sym (same_units wide from us)) h.count;
      steps = are_steps wide from us (fit_width us (is_narrow us) refl h.are_units);
      runs = lit< tt;
      extension = lit< tt;
      cut_well = tt;
      all_after = refl;
    }

pub laid_canonical : (used : ℕ) (strings : List (List ℕ)) → AllByRecursion FitsString strings → AllByRecursion IsLaidString (canonical_strings used strings)
laid_canonical used [] h = tt
laid_canonical used (us ∷ strings) h = (laid_one used us h.0, laid_canonical (fill_from used (marks_of_string (canonical_string used us))) strings h.1)

-- ---- no body or piece is longer than 8,224 bytes

abbrev pub Within : ℕ → List Mark → Type 0
Within used [] = used ≤ 8224
Within used (None ∷ ms) = (used ≤ 8224) × Within 0 ms
Within used (Some b ∷ ms) = Within (suc used) ms

within-append : (used : ℕ) (ms more : List Mark) → Within used ms → Within (fill_from used ms) more → Within used (ms ++ more)
within-append used [] more a b = b
within-append used (None ∷ ms) more a b = (a.0, within-append 0 ms more a.1 b)
within-append used (Some x ∷ ms) more a b = within-append (suc used) ms more a b

fill_within : (used : ℕ) (ms : List Mark) → Within used ms → fill_from used ms ≤ 8224
fill_within used [] h = h
fill_within used (None ∷ ms) h = fill_within 0 ms h.1
fill_within used (Some x ∷ ms) h = fill_within (suc used) ms h

after_fits : (p : Bool) (prefix used more : ℕ) → prefix + more ≤ 8224 → passes used more ≡ p → used_after p prefix used more ≤ 8224
after_fits true prefix used more h e = h
after_fits false prefix used more h e = ltb-false 8224 (used + more) e

units_over : (p wide : Bool) (used u : ℕ) (steps : List Step) → used ≤ 8224 → Within (used_after p 1 used (unit_size wide)) (marks_of_steps wide steps) → Within used (marks_of_steps wide (cut_if p wide (put u ∷ steps)))
units_over true true used u steps h w = (h, w)
units_over true false used u steps h w = (h, w)
units_over false true used u steps h w = let e : used + 2 ≡ suc (suc used) = omega arith in subst (λ (n : ℕ). Within n (marks_of_steps true steps)) e w
units_over false false used u steps h w = let e : used + 1 ≡ suc used = omega arith in subst (λ (n : ℕ). Within n (marks_of_steps false steps)) e w

unit_fits : (wide : Bool) → 1 + unit_size wide ≤ 8224
unit_fits true = lit≤ tt
unit_fits false = lit≤ tt

units_within : (wide : Bool) (used : ℕ) (us : List ℕ) → used ≤ 8224 → Within used (marks_of_steps wide (canonical_steps wide used us))
units_within wide used [] h = h
units_within wide used (u ∷ us) h =
    let p = passes used (unit_size wide) in
    let after = used_after p 1 used (unit_size wide) in
    units_over p wide used u (canonical_steps wide after us) h (units_within wide after us (after_fits p 1 used (unit_size wide) (unit_fits wide) refl))

string_over : (p : Bool) (used a b c : ℕ) (ms : List Mark) → used ≤ 8224 → Within (used_after p 0 used 3) ms → Within used (marks_of_break p ++ (Some a ∷ Some b ∷ Some c ∷ ms))
string_over true used a b c ms h w = (h, w)
string_over false used a b c ms h w = let e : used + 3 ≡ suc (suc (suc used)) = omega arith in subst (λ (n : ℕ). Within n ms) e w

string_within : (used : ℕ) (us : List ℕ) → used ≤ 8224 → Within used (marks_of_string (canonical_string used us))
string_within used us h =
    let wide = not (is_narrow us) in
    let from = used_after (passes used 3) 0 used 3 in
    let ms = marks_of_steps wide (canonical_steps wide from us) in
    let w : Within from (ms ++ []) = subst (λ (x : List Mark). Within from x) (sym (append-nil ms)) (units_within wide from us (after_fits (passes used 3) 0 used 3 (lit≤ tt) refl)) in
    string_over (passes used 3) used _ _ _ (ms ++ []) h w

strings_within : (used : ℕ) (strings : List (List ℕ)) → used ≤ 8224 → Within used (marks_of_strings (canonical_strings used strings))
strings_within used [] h = h
strings_within used (us ∷ strings) h =
    let ms = marks_of_string (canonical_string used us) in
    let w = string_within used us h in
    within-append used ms (marks_of_strings (canonical_strings (fill_from used ms) strings)) w (strings_within (fill_from used ms) strings (fill_within used ms w))

abbrev IsShort : List ℕ → Type 0
IsShort body = length body ≤ 8224

prefix_short : (used : ℕ) (ms : List Mark) → Within used ms → used + length (prefix_of ms) ≤ 8224
prefix_short used [] h = omega arith
prefix_short used (None ∷ ms) h = let x = h.0 in omega arith
prefix_short used (Some b ∷ ms) h = omega (arith, prefix_short (suc used) ms h)

pieces_short : (used : ℕ) (ms : List Mark) → Within used ms → AllByRecursion IsShort (pieces_of ms)
pieces_short used [] h = tt
pieces_short used (None ∷ ms) h = (omega (arith, prefix_short 0 ms h.1), pieces_short 0 ms h.1)
pieces_short used (Some b ∷ ms) h = pieces_short (suc used) ms h

pub canonical_prefix : (strings : List (List ℕ)) → 8 + length (prefix_of (marks_of_strings (canonical_strings 8 strings))) ≤ 8224
canonical_prefix strings = prefix_short 8 (marks_of_strings (canonical_strings 8 strings)) (strings_within 8 strings (lit< tt))

pub canonical_pieces : (strings : List (List ℕ)) → AllByRecursion IsShort (pieces_of (marks_of_strings (canonical_strings 8 strings)))
canonical_pieces strings = pieces_short 8 (marks_of_strings (canonical_strings 8 strings)) (strings_within 8 strings (lit< tt))
