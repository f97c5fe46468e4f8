-- The walk over a format's characters.
use Rattle.std.proofs.Common.{◌≡◌, ℕ, ◌+◌, ◌≤◌, List, [], ◌∷◌, ◌++◌, map, length, IsUtf8, ap, ◌∙◌, arith, length-append}
use Rattle.std.specs.Char.{encode_utf8, to_ascii_lowercase}
use Rattle.std.specs.Str.{chars}
use Rattle.std.proofs.lemmas.Str.{chars_past_char, length-encode, len_utf8_bounds}
use Rattle.xls_dates.specs.Walk.{class_left}
use Rattle.xls_dates.specs.declared.classes.Walk.{Walk}
use Rattle.xls_dates.specs.declared.formats.CellFormat.{CellFormat}
use Rattle.xls_dates.specs.declared.formats.CellFormat.TheVariants.{Other}

-- the class of the characters left is that of the first and the others
pub class_left-first : (bs rest : List ℕ) (c : ℕ) → IsUtf8 bs → bs ≡ encode_utf8 c ++ rest → (w : Walk)
    → class_left w (map to_ascii_lowercase (chars bs)) ≡ class_left w (to_ascii_lowercase c ∷ map to_ascii_lowercase (chars rest))
class_left-first bs rest c text prefix w = ap (λ cs. class_left w (map to_ascii_lowercase cs)) (chars_past_char bs rest c text prefix)

pub shorter : (bs rest : List ℕ) (c : ℕ) → bs ≡ encode_utf8 c ++ rest → length rest + 1 ≤ length bs
shorter bs rest c e =
    let all = ap length e ∙ length-append (encode_utf8 c) rest in
    let some = len_utf8_bounds c in
    omega (arith, length-encode c)

pub class_left-end : (bs : List ℕ) → length bs ≡ 0 → (w : Walk) (total : CellFormat)
    → class_left w (map to_ascii_lowercase (chars bs)) ≡ total → Other ≡ total
unfolding chars
class_left-end [] none w total before = before
class_left-end (b ∷ bs) none w total before = cc
