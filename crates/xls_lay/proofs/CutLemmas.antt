-- The canonical cuts, one unit after the other.
use Rattle.std.proofs.Common.{◌≡◌, ℕ, suc, ◌+◌, ◌<◌, Bool, true, false, List, [], ◌∷◌, ◌++◌, length, map, drop, get_or, Some, None, refl, ap, ◌∙◌, append_assoc, arith}
use Rattle.std.specs.Prelude.{not}
use Rattle.std.proofs.Math.Seq.{drop-cons}
use Rattle.std.proofs.lemmas.List.{append-nil}
use Rattle.xls_stream.specs.StringTable.{Mark}
use Rattle.xls_layouts.specs.LaidStrings.{Step, put, head_bytes, marks_of_break, marks_of_steps, marks_of_string}
use Rattle.xls_layouts.specs.Canonical.{passes, fill_from, unit_size, cut_if, used_after, canonical_steps, canonical_string, is_narrow}
use Rattle.xls_layouts.proofs.CanonicalTableLemmas.{same_units}
use Rattle.xls_lay.specs.Cutting.{marks_size}
use Rattle.xls_lay.specs.Filling.{size_after}

-- what one unit adds
abbrev pub unit_marks : Bool → ℕ → ℕ → List Mark
unit_marks wide used u = marks_of_steps wide (cut_if (passes used (unit_size wide)) wide (put u ∷ []))

marks_over : (p wide : Bool) (u : ℕ) (steps : List Step)
    → marks_of_steps wide (cut_if p wide (put u ∷ steps)) ≡ marks_of_steps wide (cut_if p wide (put u ∷ [])) ++ marks_of_steps wide steps
marks_over true true u steps = refl
marks_over true false u steps = refl
marks_over false true u steps = refl
marks_over false false u steps = refl

fill_over : (p wide : Bool) (used u : ℕ)
    → fill_from used (marks_of_steps wide (cut_if p wide (put u ∷ []))) ≡ used_after p 1 used (unit_size wide)
fill_over true true used u = refl
fill_over true false used u = refl
fill_over false true used u = omega arith
fill_over false false used u = omega arith

size_over : (p wide : Bool) (u : ℕ)
    → marks_size (marks_of_steps wide (cut_if p wide (put u ∷ []))) ≡ size_after p 1 (unit_size wide)
size_over true true u = refl
size_over true false u = refl
size_over false true u = refl
size_over false false u = refl

-- the marks of units are those of the first one, and then those of the others
abbrev pub units_marks : Bool → ℕ → List ℕ → List Mark
units_marks wide used us = marks_of_steps wide (canonical_steps wide used us)

pub marks_next : (wide : Bool) (used u : ℕ) (us : List ℕ)
    → units_marks wide used (u ∷ us) ≡ unit_marks wide used u ++ units_marks wide (used_after (passes used (unit_size wide)) 1 used (unit_size wide)) us
marks_next wide used u us =
    let p = passes used (unit_size wide) in
    marks_over p wide u (canonical_steps wide (used_after p 1 used (unit_size wide)) us)

pub fill_unit : (wide : Bool) (used u : ℕ)
    → fill_from used (unit_marks wide used u) ≡ used_after (passes used (unit_size wide)) 1 used (unit_size wide)
fill_unit wide used u = fill_over (passes used (unit_size wide)) wide used u

pub size_unit : (wide : Bool) (used u : ℕ)
    → marks_size (unit_marks wide used u) ≡ size_after (passes used (unit_size wide)) 1 (unit_size wide)
size_unit wide used u = size_over (passes used (unit_size wide)) wide u

pub next_is : (units : List ℕ) (i : ℕ) → i < length units → drop i units ≡ get_or units i 0 ∷ drop (i + 1) units
next_is units i lt =
    let e : suc i ≡ i + 1 = omega arith in
    drop-cons units i 0 lt ∙ ap (λ (k : ℕ). get_or units i 0 ∷ drop k units) e

-- ---- a string: its head, and its units

abbrev pub head_marks : Bool → Bool → ℕ → List Mark
head_marks p wide count = marks_of_break p ++ map Some (head_bytes wide count None None)

pub fill_head : (p wide : Bool) (used count : ℕ) → fill_from used (head_marks p wide count) ≡ used_after p 0 used 3
fill_head true wide used count = refl
fill_head false wide used count = omega arith

pub size_head : (p wide : Bool) (count : ℕ) → marks_size (head_marks p wide count) ≡ size_after p 0 3
size_head true wide count = refl
size_head false wide count = refl

join : (a b c : List Mark) → a ++ (b ++ (c ++ [])) ≡ (a ++ b) ++ c
join a b c = simp (append_assoc, append-nil)

pub string_marks : (used : ℕ) (us : List ℕ) → marks_of_string (canonical_string used us)
    ≡ head_marks (passes used 3) (not (is_narrow us)) (length us)
    ++ units_marks (not (is_narrow us)) (used_after (passes used 3) 0 used 3) us
string_marks used us =
    let wide = not (is_narrow us) in
    let from = used_after (passes used 3) 0 used 3 in
    let units = units_marks wide from us in
    ap (λ (k : ℕ). marks_of_break (passes used 3) ++ (map Some (head_bytes wide k None None) ++ (units ++ []))) (ap length (same_units wide from us))
    ∙ join (marks_of_break (passes used 3)) (map Some (head_bytes wide (length us) None None)) units
