-- Characters of texts.
use Rattle.std.proofs.Common.{◌≡◌, ℕ, ◌+◌, ◌-◌, ◌<◌, ◌==◌, true, false, List, [], ◌∷◌, ◌++◌, length, take, IsUtf8, ap, sym, subst, refl, ◌∙◌, arith, length-append, MatchOption, Some, None, Option}
use Rattle.std.specs.Char.{encode_utf8}
use Rattle.std.specs.Str.{chars, NoCharPasses, NonePass, IsCharBoundary}
use Rattle.std.specs.List.{list_any, before_first, after_first, position_or_len}
use Rattle.std.proofs.lemmas.Str.{length-encode, len_utf8_bounds, chars-append, chars_from_encodes, IsUtf8-take, IsCharBoundary-before_ascii, IsCharBoundary-at_seam}
use Rattle.std.proofs.lemmas.List.{append_cancel_right, append_assoc, drop_all}
use Rattle.std.proofs.lemmas.List.Sums.{split_at_first, passes_at_first}
use Rattle.std.specs.Str.Pattern.{SplitsAroundMatch, FindsChar}
use denote.Bor.{Bor}
use Rattle.std.proofs.Math.Seq.{drop-append-add, take-length}
use Rattle.std.proofs.lemmas.Bool.Decides.{nat_tests}
use Rattle.xls_bytes.specs.Characters.{is}

-- what follows a character is shorter
pub shorter : (bs rest : List ℕ) (c : ℕ) → bs ≡ encode_utf8 c ++ rest → length rest < length bs
shorter bs rest c e =
    let all = ap length e ∙ length-append (encode_utf8 c) rest in
    let some = len_utf8_bounds c in
    omega (arith, length-encode c)

-- before the first c, where none stands before it
position_before : (c : ℕ) (xs ys : List ℕ) → list_any (is c) xs ≡ false → position_or_len (is c) (xs ++ c ∷ ys) ≡ length xs
position_before c [] ys none = grind arith
position_before c (x ∷ xs) ys none = grind (arith, position_before c xs ys)

-- a text that begins with an ASCII character
chars_ascii : (c : ℕ) (bs : List ℕ) → c < 128 → chars (c ∷ bs) ≡ c ∷ chars bs
unfolding chars
chars_ascii c [] low = grind (arith, nat_tests)
chars_ascii c (b ∷ bs) low = grind (arith, nat_tests)

take_more : (xs ys : List ℕ) → take (length xs) (xs ++ ys) ≡ xs
take_more [] ys = refl
take_more (x ∷ xs) ys = ap (λ zs. x ∷ zs) (take_more xs ys)

-- what stands before and behind the first c
pub before_first-split : (c : ℕ) (xs ys : List ℕ) → list_any (is c) xs ≡ false → before_first (is c) (xs ++ c ∷ ys) ≡ xs
before_first-split c xs ys none = rw (position_before c xs ys none) (take_more xs (c ∷ ys))

pub after_first-split : (c : ℕ) (xs ys : List ℕ) → list_any (is c) xs ≡ false → after_first (is c) (xs ++ c ∷ ys) ≡ ys
after_first-split c xs ys none = rw (position_before c xs ys none) (drop-append-add xs (c ∷ ys) 1)

pub list_any-split : (c : ℕ) (xs ys : List ℕ) → list_any (is c) (xs ++ c ∷ ys) ≡ true
list_any-split c [] ys = grind (arith, nat_tests)
list_any-split c (x ∷ xs) ys = grind (arith, nat_tests, list_any-split c xs ys)

none_passes : (c : ℕ) (cs : List ℕ) → NonePass (λ d. d == c) cs → list_any (is c) cs ≡ false
none_passes c [] none = refl
none_passes c (x ∷ xs) none = rw (none.0) (none_passes c xs none.1)

-- a text without the character
pub none_is : (c : ℕ) (bs : List ℕ) → IsUtf8 bs → NoCharPasses (λ d. d == c) bs → list_any (is c) (chars bs) ≡ false
none_is c bs text none = subst (λ cs. list_any (is c) cs ≡ false) (chars_from_encodes none.0 bs text none.1) (none_passes c none.0 none.2)

-- a text with it
pub split_is : (c : ℕ) (bs front back : List ℕ) → c < 128 → IsUtf8 front → bs ≡ front ++ c ∷ back → chars bs ≡ chars front ++ c ∷ chars back
split_is c bs front back low text whole = ap chars whole ∙ chars-append front (c ∷ back) text ∙ ap (λ cs. chars front ++ cs) (chars_ascii c back low)

-- the bytes on both sides of the first c
sides : (c : ℕ) (bs : List ℕ) → position_or_len (is c) bs < length bs → bs ≡ before_first (is c) bs ++ c ∷ after_first (is c) bs
sides c bs some =
    let whole = split_at_first (is c) bs 0 some in
    let at = passes_at_first (is c) bs 0 some in
    whole ∙ ap (λ x. before_first (is c) bs ++ x ∷ after_first (is c) bs) (grind (arith, nat_tests))

front_utf8 : (c : ℕ) (bs : List ℕ) → c < 128 → IsUtf8 bs → position_or_len (is c) bs < length bs → IsUtf8 (before_first (is c) bs)
front_utf8 c bs low text some =
    let at = passes_at_first (is c) bs 0 some in
    IsUtf8-take bs _ text (IsCharBoundary-before_ascii bs _ some (grind (arith, nat_tests)))

-- what `split_once` gives at a character
pub split_once_is : (c : ℕ) (bs : List ℕ) (r : Option (Bor (List ℕ) × Bor (List ℕ))) → c < 128 → IsUtf8 bs
    → MatchOption r (NoCharPasses (λ d. d == c) bs) (λ x. SplitsAroundMatch (FindsChar c) bs x.0.now x.1.now)
    → MatchOption r (position_or_len (is c) bs ≡ length bs) (λ x. (x.0.now ≡ before_first (is c) bs) × (x.1.now ≡ after_first (is c) bs) × (position_or_len (is c) bs < length bs))
    → MatchOption r (list_any (is c) (chars bs) ≡ false) (λ x. (list_any (is c) (chars bs) ≡ true) × (chars x.0.now ≡ before_first (is c) (chars bs)) × (chars x.1.now ≡ after_first (is c) (chars bs)))
split_once_is c bs None low text cases byte = none_is c bs text cases
split_once_is c bs (Some x) low text cases byte =
    let front = front_utf8 c bs low text byte.2 in
    let clean : list_any (is c) (chars (before_first (is c) bs)) ≡ false = none_is c _ front (subst (λ ys. NoCharPasses (λ d. d == c) ys) (sym cases.3 ∙ byte.0) cases.2.0) in
    let whole = split_is c bs _ _ low front (sides c bs byte.2) in (
      ap (list_any (is c)) whole ∙ list_any-split c _ _,
      ap chars byte.0 ∙ sym (ap (before_first (is c)) whole ∙ before_first-split c _ _ clean),
      ap chars byte.1 ∙ sym (ap (after_first (is c)) whole ∙ after_first-split c _ _ clean),
    )

-- one text ends with another
abbrev pub EndsWith : List ℕ → List ℕ → Type 0
EndsWith bs cs = (front : List ℕ) × (bs ≡ front ++ cs)

pub ends-trans : (bs cs ds : List ℕ) → EndsWith bs cs → EndsWith cs ds → EndsWith bs ds
ends-trans bs cs ds f g = (f.0 ++ g.0, f.1 ∙ ap (λ ys. f.0 ++ ys) g.1 ∙ sym (append_assoc f.0 g.0 ds))

front_len : (bs cs xs : List ℕ) → bs ≡ xs ++ cs → length bs - length cs ≡ length xs
front_len bs cs xs e = let l = ap length e ∙ length-append xs cs in omega arith

-- a text may be cut before what it ends with
pub seam : (bs cs : List ℕ) → EndsWith bs cs → IsUtf8 cs → IsCharBoundary bs (length bs - length cs)
seam bs cs f text = rw (front_len bs cs f.0 f.1) (IsCharBoundary-at_seam bs f.0 cs f.1 text)

-- and what stands before it has the other characters
pub front_chars : (bs cs : List ℕ) (front : List ℕ) → EndsWith bs cs → IsUtf8 bs → IsUtf8 cs → front ++ chars cs ≡ chars bs → chars (take (length bs - length cs) bs) ≡ front
front_chars bs cs front f text end whole =
    let cut : take (length bs - length cs) bs ≡ f.0 = ap (λ k. take k bs) (front_len bs cs f.0 f.1) ∙ ap (take (length f.0)) f.1 ∙ take_more f.0 cs in
    let utf8 : IsUtf8 f.0 = subst IsUtf8 cut (IsUtf8-take bs _ text (seam bs cs f end)) in
    let all : chars f.0 ++ chars cs ≡ front ++ chars cs = sym (ap chars f.1 ∙ chars-append f.0 cs utf8) ∙ sym whole in
    ap chars cut ∙ append_cancel_right _ _ _ all

position_none : (c : ℕ) (cs : List ℕ) → list_any (is c) cs ≡ false → position_or_len (is c) cs ≡ length cs
position_none c [] none = refl
position_none c (x ∷ xs) none = grind (arith, nat_tests, position_none c xs)

-- all stands before a character that isn't there, and nothing behind it
pub before_first_none : (c : ℕ) (cs : List ℕ) → list_any (is c) cs ≡ false → before_first (is c) cs ≡ cs
before_first_none c cs none = rw (position_none c cs none) (take-length cs)

pub after_first_none : (c : ℕ) (cs : List ℕ) → list_any (is c) cs ≡ false → after_first (is c) cs ≡ []
after_first_none c cs none = rw (position_none c cs none) (drop_all (length cs + 1) cs (omega arith))
