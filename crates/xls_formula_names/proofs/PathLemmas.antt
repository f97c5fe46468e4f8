-- The texts of paths, and where they are split.
use Rattle.std.proofs.Common.{◌≡◌, ◌≢◌, ℕ, Bool, true, false, List, [], ◌∷◌, ◌++◌, if◌then◌else◌, encode_utf8, codes, IsUtf8, Result, OnOk, is_ok, ◌⊎◌, inl, inr, append_assoc, ap, sym, refl, subst, ◌∙◌, arith}
use Rattle.std.specs.Char.{IsScalar}
use Rattle.std.specs.List.{list_any}
use Rattle.std.specs.Str.{chars}
use Rattle.std.proofs.lemmas.Bool.Decides.{nat_tests}
use Rattle.std.proofs.lemmas.Result.{on_ok_weaker}
use Rattle.std.proofs.lemmas.Str.{chars-nil}
use Rattle.xls_formula_names.specs.Paths.{is_literal, is_separator, spelled, spelled_one, split, start_text, text_after}
use Rattle.xls_formula_names.specs.declared.starts.Start.{Start}
use Rattle.xls_formula_names.specs.declared.starts.Start.TheVariants.{Drive, Root, Share}
use Rattle.xls_bytes.proofs.CharacterLemmas.{EndsWith}
use Rattle.xls_formula_names.proofs.AppendLemmas.{appended, char_text, chars_more}

-- texts that are written out
pub one_bar : chars (codes "\\") ≡ codes "\\"
unfolding chars
one_bar = refl

pub two_bars : chars (codes "\\\\") ≡ codes "\\\\"
unfolding chars
two_bars = refl

pub points : chars (codes "..\\") ≡ codes "..\\"
unfolding chars
points = refl

pub drive : chars (codes ":\\") ≡ codes ":\\"
unfolding chars
drive = refl

pub folder : (c : ℕ) → c ≡ 3 → chars (codes "\\") ≡ spelled_one c
folder c e = one_bar ∙ subst (λ d. codes "\\" ≡ spelled_one d) (sym e) refl

pub folder_above : (c : ℕ) → c ≡ 4 → chars (codes "..\\") ≡ spelled_one c
folder_above c e = points ∙ subst (λ d. codes "..\\" ≡ spelled_one d) (sym e) refl

pub other_char : (c : ℕ) → IsScalar c → c ≢ 3 → c ≢ 4 → chars (encode_utf8 c) ≡ spelled_one c
other_char c scalar no3 no4 = char_text c scalar ∙ grind (arith, nat_tests, no3, no4)

bool_cases : (b : Bool) → (b ≡ true) ⊎ (b ≡ false)
bool_cases true = inl refl
bool_cases false = inr refl

-- a text without a separator is a file
pub split_none : (slashes : Bool) (cs : List ℕ) → list_any (is_separator slashes) cs ≡ false → (split slashes cs).1 ≡ cs
split_none slashes [] none = refl
split_none slashes (c ∷ cs) none = rw none refl

-- folder and file make the text
pub split_whole : (slashes : Bool) (cs : List ℕ) → (split slashes cs).0 ++ (split slashes cs).1 ≡ cs
split_whole slashes [] = refl
split_whole slashes (c ∷ cs) = grind (arith, split_whole slashes cs)

-- the texts that paths begin with
pub share : (start : Start) → start ≡ Share → chars (codes "\\\\") ≡ start_text start
share start e = two_bars ∙ ap start_text (sym e)

pub root : (start : Start) → start ≡ Root → chars (codes "\\") ≡ start_text start
root start e = one_bar ∙ ap start_text (sym e)

pub drive_text : {T E : Type 0} (r : Result T E) (old mid new : List ℕ) (start : Start) (letter : ℕ) → IsUtf8 old → IsUtf8 mid → IsScalar letter → start ≡ Drive letter
    → mid ≡ old ++ encode_utf8 letter → new ≡ (if is_ok r then mid ++ codes ":\\" else mid) → OnOk r (chars new ≡ chars old ++ start_text start)
drive_text r old mid new start letter first second scalar e f g =
    let one = chars_more old (encode_utf8 letter) mid (letter ∷ []) first f (char_text letter scalar) in
    on_ok_weaker r (λ h. h ∙ (ap (λ xs. xs ++ codes ":\\") one ∙ (append_assoc (chars old) (letter ∷ []) (codes ":\\") ∙ ap (λ x. chars old ++ start_text x) (sym e))))
    (appended r mid (codes ":\\") new (codes ":\\") second g drive)

pub whole_text : (empty mid new : List ℕ) (start : Start) (literal : Bool) (cs : List ℕ) → empty ≡ [] → literal ≡ is_literal start → chars mid ≡ chars empty ++ start_text start → chars new ≡ chars mid ++ spelled literal cs
    → chars new ≡ text_after (start, cs)
whole_text empty mid new start literal cs none e f g =
    g ∙ (ap (λ xs. xs ++ spelled literal cs) (f ∙ ap (λ xs. xs ++ start_text start) (ap chars none ∙ chars-nil)) ∙ ap (λ b. start_text start ++ spelled b cs) e)

-- the file, where these characters are left and stand behind a file so far
abbrev pub last_file : Bool → List ℕ → List ℕ → List ℕ
last_file slashes left file = if list_any (is_separator slashes) left then (split slashes left).1 else file

pub all_left : (slashes : Bool) (cs : List ℕ) → (split slashes cs).1 ≡ last_file slashes cs cs
all_left slashes cs = elim (bool_cases (list_any (is_separator slashes) cs)) [
  | inl some ↦ rw some refl
  | inr none ↦ split_none slashes cs none ∙ sym (ap (λ b. if b then (split slashes cs).1 else cs) none)
]

pub last_at_end : (slashes : Bool) (c : ℕ) (cs file : List ℕ) → is_separator slashes c ≡ true → last_file slashes (c ∷ cs) file ≡ last_file slashes cs cs
last_at_end slashes c cs file end = rw end (all_left slashes cs)

pub last_later : (slashes : Bool) (c : ℕ) (cs file : List ℕ) → is_separator slashes c ≡ false → last_file slashes (c ∷ cs) file ≡ last_file slashes cs file
last_later slashes c cs file none = elim (bool_cases (list_any (is_separator slashes) cs)) [
  | inl some ↦ rw (none, some) refl
  | inr other ↦ rw (none, other) refl
]

-- what may be the file, behind a character more
pub last_after : (slashes end : Bool) (c : ℕ) (left rest file after : List ℕ) → is_separator slashes c ≡ end → left ≡ c ∷ chars rest → after ≡ (if end then rest else file)
    → last_file slashes left (chars file) ≡ last_file slashes (chars rest) (chars after)
last_after slashes true c left rest file after e f g = ap (λ cs. last_file slashes cs (chars file)) f ∙ (last_at_end slashes c (chars rest) (chars file) e ∙ ap (λ x. last_file slashes (chars rest) (chars x)) (sym g))
last_after slashes false c left rest file after e f g = ap (λ cs. last_file slashes cs (chars file)) f ∙ (last_later slashes c (chars rest) (chars file) e ∙ ap (λ x. last_file slashes (chars rest) (chars x)) (sym g))

pub end_after : (end : Bool) (text rest file after : List ℕ) → EndsWith text rest → EndsWith text file → after ≡ (if end then rest else file) → EndsWith text after
end_after true text rest file after r f e = subst (EndsWith text) (sym e) r
end_after false text rest file after r f e = subst (EndsWith text) (sym e) f
