-- Known values of what a number is shown by, so that a wrong rule in the definitions does not check.
use Rattle.std.proofs.Common.{◌≡◌, ℕ, Bool, true, false, List, [], ◌∷◌, ◌++◌, map, replicate, refl, codes, Some, None, pos, negsuc}
use Rattle.std.specs.Float.{fin}
use Rattle.std.specs.Float.Ieee.{of_bits, of_fields, odd, lt, le, eq, ne}
use Rattle.std.proofs.lemmas.Float.Parse.{parse_float_on_literals}
use Rattle.xls_number_formats.specs.declared.choices.TheConstants.{ZERO}
use Rattle.xls_number_formats.specs.declared.choices.Choice.{Choice}
use Rattle.xls_number_formats.specs.declared.choices.Choice.TheVariants.{General, Hashes, Section}
use Rattle.xls_number_formats.specs.declared.classes.Class.TheVariants.{Number, Date, Elapsed}
use Rattle.xls_number_formats.specs.Sections.{sections_of}
use Rattle.xls_number_formats.specs.Choices.{choice_of, texts_at, counted}
use Rattle.xls_number_formats.specs.Classes.{class_of}
use Rattle.xls_number_formats.specs.Builtins.{built_in_code}
use Rattle.xls_number_formats.specs.Texts.{shown_text}

-- what -1, 0 and 1 are shown by
abbrev pub around : List ℕ → List (Choice × Bool)
around cs = map (choice_of (sections_of cs)) (fin true 1 (pos 0) ∷ fin false 0 (pos 0) ∷ fin false 1 (pos 0) ∷ [])

pub known_zero : ZERO ≡ fin false 0 (pos 0)
unfolding of_bits of_fields odd
known_zero = refl

-- of no section for numbers, of one, of two and of three, with one for texts and without
pub known_none : around (codes "@") ≡ (General, true) ∷ (General, false) ∷ (General, false) ∷ []
unfolding of_bits of_fields odd lt le
known_none = refl

pub known_one : map around (codes "0" ∷ codes "0;@" ∷ codes "y@" ∷ []) ≡ replicate 3 ((Section 0, true) ∷ (Section 0, false) ∷ (Section 0, false) ∷ [])
unfolding of_bits of_fields odd lt le
known_one = refl

pub known_two : map around (codes "0;0" ∷ codes "0;0;@" ∷ codes "0;" ∷ codes ";0" ∷ codes "0;y@" ∷ []) ≡ replicate 5 ((Section 1, false) ∷ (Section 0, false) ∷ (Section 0, false) ∷ [])
unfolding of_bits of_fields odd lt le
known_two = refl

pub known_three : map around (codes "0;0;0" ∷ codes "0;0;0;0" ∷ codes "0;0;0;@" ∷ codes ";;;" ∷ codes "0;0;[>5]0" ∷ codes "0;0;0;0;0" ∷ codes "0;0;y@" ∷ []) ≡ replicate 7 ((Section 1, false) ∷ (Section 2, false) ∷ (Section 0, false) ∷ [])
unfolding of_bits of_fields odd lt le parse_float_on_literals
known_three = refl

-- a section's own condition comes first; where none is met, one is General and two are `########`
pub known_unmet : map around (codes "[>5]0" ∷ codes "[>5]0;[>5]0" ∷ codes "[>5]0;[>5]0;@" ∷ codes "[>5]0;[>5]0;0" ∷ [])
    ≡ ((General, true) ∷ (General, false) ∷ (General, false) ∷ []) ∷ replicate 3 (Hashes, false) ∷ replicate 3 (Hashes, false) ∷ ((Section 2, true) ∷ (Section 2, false) ∷ (Section 2, false) ∷ []) ∷ []
unfolding of_bits of_fields odd lt le parse_float_on_literals
known_unmet = refl

-- each comparison with 0
pub known_comparisons : map around (codes "[<0]0" ∷ codes "[<=0]0" ∷ codes "[=0]0" ∷ codes "[>=0]0" ∷ codes "[>0]0" ∷ codes "[<>0]0" ∷ [])
    ≡ ((Section 0, false) ∷ (General, false) ∷ (General, false) ∷ []) ∷ ((Section 0, true) ∷ (Section 0, false) ∷ (General, false) ∷ []) ∷ ((General, true) ∷ (Section 0, false) ∷ (General, false) ∷ [])
    ∷ ((General, true) ∷ (Section 0, false) ∷ (Section 0, false) ∷ []) ∷ ((General, true) ∷ (General, false) ∷ (Section 0, false) ∷ []) ∷ ((Section 0, true) ∷ (General, false) ∷ (Section 0, false) ∷ []) ∷ []
unfolding of_bits of_fields odd lt le eq ne parse_float_on_literals
known_comparisons = refl

-- a sole section without items is General; beside others it shows nothing
pub known_empty : map around (codes "" ∷ codes "[Red]" ∷ codes "[$-409]" ∷ codes "[<0]" ∷ [])
    ≡ replicate 3 ((General, true) ∷ (General, false) ∷ (General, false) ∷ []) ++ ((General, false) ∷ (General, false) ∷ (General, false) ∷ []) ∷ []
unfolding of_bits of_fields odd lt le parse_float_on_literals
known_empty = refl

-- ---- the minus of -1

abbrev pub minus_of : List ℕ → Choice × Bool
minus_of cs = choice_of (sections_of cs) (fin true 1 (pos 0))

-- its own condition is met by negative numbers only: `<` 0, `<=` and `=` below 0; not the next ones
pub known_own : map minus_of (codes "[<0]0" ∷ codes "[<-0.5]0" ∷ codes "[<1]0" ∷ codes "[<=-1]0" ∷ codes "[<=0]0" ∷ codes "[=-1]0" ∷ codes "[>-2]0" ∷ codes "[>=-1]0" ∷ codes "[<>0]0" ∷ [])
    ≡ (Section 0, false) ∷ (Section 0, false) ∷ (Section 0, true) ∷ (Section 0, false) ∷ (Section 0, true) ∷ (Section 0, false) ∷ (Section 0, true) ∷ (Section 0, true) ∷ (Section 0, true) ∷ []
unfolding of_bits of_fields odd lt le eq ne parse_float_on_literals
known_own = refl

-- one before it is failed by negative numbers only: `>` and `>=` 0, `<>` below 0; not the next ones
pub known_before : map minus_of (codes "[>0]0;0" ∷ codes "[>=0]0;0" ∷ codes "[>-0.5]0;0" ∷ codes "[>=-0.5]0;0" ∷ codes "[<>-1]0;0" ∷ codes "[>1]0;0" ∷ codes "[>=1]0;0" ∷ codes "[=0]0;0" ∷ codes "[>1]0;[>0]0;0" ∷ codes "[>0]0;[>1]0;0" ∷ codes "[>1]0;[>1]0;0" ∷ [])
    ≡ replicate 5 (Section 1, false) ++ replicate 3 (Section 1, true) ++ (Section 2, false) ∷ (Section 2, false) ∷ (Section 2, true) ∷ []
unfolding of_bits of_fields odd lt le eq ne parse_float_on_literals
known_before = refl

-- of two the first is met by negative numbers only; of three that is nothing to the third
pub known_first : map minus_of (codes "[<-5]0;0" ∷ codes "[=-5]0;0" ∷ codes "[<-5]0;0;@" ∷ codes "[<-5]0;[<-5]0;0" ∷ codes "[<5]0;[<-5]0" ∷ codes "[=5]0;[<-5]0;0" ∷ [])
    ≡ (Section 1, false) ∷ (Section 1, false) ∷ (Section 1, false) ∷ (Section 2, true) ∷ (Section 0, true) ∷ (Section 2, true) ∷ []
unfolding of_bits of_fields odd lt le eq ne parse_float_on_literals
known_first = refl

-- negative zero and subnormal numbers count as 0, the least normal number as itself
pub known_counted : map counted (0 ∷ 0x8000_0000_0000_0000 ∷ 1 ∷ 0x800f_ffff_ffff_ffff ∷ 0x0010_0000_0000_0000 ∷ 0xbff0_0000_0000_0000 ∷ [])
    ≡ replicate 4 (fin false 0 (pos 0)) ++ fin false 1 (negsuc 1021) ∷ fin true 1 (pos 0) ∷ []
unfolding of_bits of_fields odd
known_counted = refl

-- ---- the section for texts

pub known_texts : map (λ cs. texts_at (sections_of cs)) (codes "" ∷ codes "@" ∷ codes "0" ∷ codes "0;@" ∷ codes "0;0;@" ∷ codes "0;0;0" ∷ codes "0;0;0;0" ∷ codes "@;0" ∷ codes "y@" ∷ codes "0;@y" ∷ codes "0;0;0;y" ∷ codes "0;0;0;0;@" ∷ [])
    ≡ None ∷ Some 0 ∷ None ∷ Some 1 ∷ Some 2 ∷ None ∷ Some 3 ∷ None ∷ None ∷ None ∷ Some 3 ∷ Some 3 ∷ []
known_texts = refl

-- ---- dates, elapsed times and numbers: by the section that applies to 1 and to -1

pub known_classes : map (λ cs. class_of cs 0x3ff0_0000_0000_0000) (codes "m/d/yyyy" ∷ codes "[h]:mm" ∷ codes "0" ∷ codes "General" ∷ codes "" ∷ codes "@" ∷ codes "0;d" ∷ codes "d;0" ∷ codes "[>5]d;0" ∷ codes "[>5]d" ∷ codes "[>5]d;[>5]d" ∷ codes "[mm]" ∷ codes "[$-409]d-mmm-yy;@" ∷ codes "e" ∷ codes "#/#" ∷ codes "0E+0" ∷ codes "yyyy[s]" ∷ [])
    ≡ Date ∷ Elapsed ∷ Number ∷ Number ∷ Number ∷ Number ∷ Number ∷ Date ∷ Number ∷ Number ∷ Number ∷ Elapsed ∷ Date ∷ Date ∷ Number ∷ Number ∷ Elapsed ∷ []
unfolding of_bits of_fields odd lt le parse_float_on_literals
known_classes = refl

pub known_negative_classes : map (λ cs. class_of cs 0xbff0_0000_0000_0000) (codes "0;d" ∷ codes "d;0" ∷ codes "0;[h];d" ∷ []) ≡ Date ∷ Number ∷ Elapsed ∷ []
unfolding of_bits of_fields odd lt le
known_negative_classes = refl

pub known_infinite_classes : map (class_of (codes "d")) (0x7ff0_0000_0000_0000 ∷ 0xfff8_0000_0000_0000 ∷ []) ≡ Number ∷ Number ∷ []
known_infinite_classes = refl

-- ---- the built-in codes, of 0 to 58 and 59

pub known_built_ins : map built_in_code (0 ∷ 1 ∷ 2 ∷ 3 ∷ 4 ∷ 5 ∷ 6 ∷ 7 ∷ 8 ∷ 9 ∷ 10 ∷ 11 ∷ 12 ∷ 13 ∷ [])
    ≡ map Some (codes "General" ∷ codes "0" ∷ codes "0.00" ∷ codes "#,##0" ∷ codes "#,##0.00" ∷ codes "\"$\"#,##0_);\\(\"$\"#,##0\\)" ∷ codes "\"$\"#,##0_);[Red]\\(\"$\"#,##0\\)" ∷ codes "\"$\"#,##0.00_);\\(\"$\"#,##0.00\\)" ∷ codes "\"$\"#,##0.00_);[Red]\\(\"$\"#,##0.00\\)"
    ∷ codes "0%" ∷ codes "0.00%" ∷ codes "0.00E+00" ∷ codes "# ?/?" ∷ codes "# ??/??" ∷ [])
known_built_ins = refl

pub known_date_built_ins : map built_in_code (14 ∷ 15 ∷ 16 ∷ 17 ∷ 18 ∷ 19 ∷ 20 ∷ 21 ∷ 22 ∷ 23 ∷ 24 ∷ 25 ∷ 26 ∷ 27 ∷ 28 ∷ 29 ∷ 30 ∷ 31 ∷ 32 ∷ 33 ∷ 34 ∷ 35 ∷ 36 ∷ [])
    ≡ map Some (codes "m/d/yyyy" ∷ codes "d-mmm-yy" ∷ codes "d-mmm" ∷ codes "mmm-yy" ∷ codes "h:mm AM/PM" ∷ codes "h:mm:ss AM/PM" ∷ codes "h:mm" ∷ codes "h:mm:ss" ∷ codes "m/d/yyyy h:mm" ∷ [])
    ++ replicate 4 None ++ map Some (replicate 5 (codes "m/d/yyyy") ++ replicate 4 (codes "h:mm:ss") ++ codes "m/d/yyyy" ∷ [])
known_date_built_ins = refl

pub known_later_built_ins : map built_in_code (37 ∷ 38 ∷ 39 ∷ 40 ∷ 41 ∷ 42 ∷ 43 ∷ 44 ∷ 45 ∷ 46 ∷ 47 ∷ 48 ∷ 49 ∷ 50 ∷ 51 ∷ 52 ∷ 53 ∷ 54 ∷ 55 ∷ 56 ∷ 57 ∷ 58 ∷ 59 ∷ 164 ∷ 65535 ∷ [])
    ≡ map Some (codes "#,##0_);\\(#,##0\\)" ∷ codes "#,##0_);[Red]\\(#,##0\\)" ∷ codes "#,##0.00_);\\(#,##0.00\\)" ∷ codes "#,##0.00_);[Red]\\(#,##0.00\\)" ∷ codes "_(* #,##0_);_(* \\(#,##0\\);_(* \"-\"_);_(@_)" ∷ codes "_(\"$\"* #,##0_);_(\"$\"* \\(#,##0\\);_(\"$\"* \"-\"_);_(@_)"
    ∷ codes "_(* #,##0.00_);_(* \\(#,##0.00\\);_(* \"-\"??_);_(@_)" ∷ codes "_(\"$\"* #,##0.00_);_(\"$\"* \\(#,##0.00\\);_(\"$\"* \"-\"??_);_(@_)" ∷ codes "mm:ss" ∷ codes "[h]:mm:ss" ∷ codes "mm:ss.0" ∷ codes "##0.0E+0" ∷ codes "@" ∷ replicate 9 (codes "m/d/yyyy"))
    ++ replicate 3 None
known_later_built_ins = refl

-- ---- texts

pub known_shown_texts : map (λ cs. shown_text cs (codes "x")) (codes "" ∷ codes "General" ∷ codes "@" ∷ codes "0" ∷ codes ";;;" ∷ codes "0;0;0;" ∷ codes "0;-0;0;\"t:\"@" ∷ codes ";;;\\@@\\@" ∷ codes ";;;-@-@-" ∷ codes "_(@_)" ∷ codes "0.00;@\" !\"" ∷ codes "[Red]@" ∷ codes ";;;0#?@[h]d.,%/1e+AM/PM*y" ∷ codes "@;@" ∷ codes "0;0;0;\"hi\"" ∷ [])
    ≡ codes "x" ∷ codes "x" ∷ codes "x" ∷ codes "x" ∷ [] ∷ [] ∷ codes "t:x" ∷ codes "@x@" ∷ codes "-x-x-" ∷ codes " x " ∷ codes "x !" ∷ codes "x" ∷ codes "xd.,%/1e+AM/PM" ∷ codes "x" ∷ codes "hi" ∷ []
known_shown_texts = refl
