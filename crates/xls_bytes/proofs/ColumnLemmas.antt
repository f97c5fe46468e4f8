-- The words of columns: each value has one word, in the order of length and letters.
use Rattle.std.proofs.Common.{◌≡◌, ◌⊎◌, ℕ, zero, suc, ◌+◌, ◌-◌, ◌*◌, ◌/◌, ◌%◌, ◌^◌, ◌<◌, ◌≤◌, List, [], ◌∷◌, ◌++◌, length, refl, sym, ap, subst, ◌∙◌, arith, inl, inr, length-append, sub-one, slice_index, lit<, take, drop, set, length-drop, append_assoc}
use Rattle.std.proofs.lemmas.List.{drop-set, take_all}
use Rattle.std.proofs.lemmas.Bool.{cases_lt, cases_eq, cases_order}
use Rattle.std.proofs.Math.Nat.{pow-suc, mul-le-mul_right}
use Rattle.std.specs.Str.{IsAscii}
use Rattle.xls_bytes.specs.Columns.{IsWord, word_value, IsColumnName, word_of, column_name, IsEarlier, HasOneName, ColumnNamesDiffer, NamesInOrder, SevenLettersDo}

-- the value of as many letters A
unfoldable pub least : ℕ → ℕ
least zero = 0
least (suc n) = 26 ^ n + least n

least_zero : least 0 ≡ 0
unfolding least
least_zero = refl

least_suc : (n : ℕ) → least (suc n) ≡ 26 ^ n + least n
unfolding least
least_suc n = refl

-- the value of as many letters Z is one less than that of one letter A more
least_next : (n : ℕ) → 26 * least n + 1 ≡ least n + 26 ^ n
least_next zero = rw least_zero refl
least_next (suc n) = let more = pow-suc 26 n in omega (arith, least_suc n, least_next n)

least_mono : (m n : ℕ) → m ≤ n → least m ≤ least n
least_mono m zero p = omega (arith, ap least (same_zero m p))
  where
    same_zero : (k : ℕ) → k ≤ 0 → k ≡ 0
    same_zero k h = omega arith
least_mono m (suc n) p = elim (cases_eq m (suc n)) [
  | inl same ↦ omega (arith, ap least same)
  | inr less ↦ let before = least_mono m n (omega arith) in omega (arith, least_suc n)
]

-- the value of a word lies between those of as many A and as many Z
word_bounds : (w : List ℕ) → IsWord w → (least (length w) ≤ word_value w) × (word_value w ≤ 26 * least (length w))
word_bounds [] all = (rw least_zero (omega arith), omega arith)
word_bounds (a ∷ w) all =
    let bounds = word_bounds w all.1 in
    let low : 1 * 26 ^ length w ≤ (a - 64) * 26 ^ length w = mul-le-mul_right (26 ^ length w) (omega (arith, all.0)) in
    let high : (a - 64) * 26 ^ length w ≤ 26 * 26 ^ length w = mul-le-mul_right (26 ^ length w) (omega (arith, all.0)) in
    let whole = least_suc (length w) in
    (omega arith, omega arith)

-- of two words of one length the first letter decides
first_decides : (x y power least_one v w : ℕ) → x < y → 26 * least_one + 1 ≡ least_one + power
    → v ≤ 26 * least_one → least_one ≤ w → x * power + v < y * power + w
first_decides x y power least_one v w less e p q =
    let more : (x + 1) * power ≤ y * power = mul-le-mul_right power (omega arith) in
    omega arith

smaller_first : (a b : ℕ) (v w : List ℕ) → IsWord (a ∷ v) → IsWord (b ∷ w) → length v ≡ length w → a < b
    → word_value (a ∷ v) < word_value (b ∷ w)
smaller_first a b v w p q same less =
    let next = least_next (length v) in
    let left = word_bounds v p.1 in
    let right = word_bounds w q.1 in
    rw (← same) (first_decides (a - 64) (b - 64) (26 ^ length v) (least (length v)) (word_value v) (word_value w)
    (omega (arith, p.0, q.0)) next left.1 (omega (arith, right.0, ap least same)))

shorter_below : (v w : List ℕ) → IsWord v → IsWord w → length v < length w → word_value v < word_value w
shorter_below v w p q less =
    let left = word_bounds v p in
    let right = word_bounds w q in
    let next = least_next (length v) in
    let step = least_suc (length v) in
    let more = least_mono (suc (length v)) (length w) (omega arith) in
    omega arith

earlier_from_value : (v w : List ℕ) → IsWord v → IsWord w → length v ≡ length w → word_value v < word_value w → IsEarlier v w
earlier_from_value [] [] p q same less = absurd (omega arith)
earlier_from_value [] (b ∷ w) p q same less = absurd (omega arith)
earlier_from_value (a ∷ v) [] p q same less = absurd (omega arith)
earlier_from_value (a ∷ v) (b ∷ w) p q same less =
    let tails : length v ≡ length w = omega arith in
    elim (cases_order a b) [
      | inl one ↦ inr (one, earlier_from_value v w p.1 q.1 tails (rest_below a b v w one tails less))
      | inr (inl below) ↦ inl below
      | inr (inr above) ↦ let turned = smaller_first b a w v q p (sym tails) above in absurd (omega arith)
    ]
  where
    rest_below : (x y : ℕ) (xs ys : List ℕ) → x ≡ y → length xs ≡ length ys → word_value (x ∷ xs) < word_value (y ∷ ys)
        → word_value xs < word_value ys
    rest_below x y xs ys e l h =
        let heads : (x - 64) * 26 ^ length xs ≡ (y - 64) * 26 ^ length ys = rw (e, l) refl in
        omega arith

-- two words of one value are one
same_word_long : (v w : List ℕ) → IsWord v → IsWord w → length v ≡ length w → word_value v ≡ word_value w → v ≡ w
same_word_long [] [] p q same e = refl
same_word_long [] (b ∷ w) p q same e = absurd (omega arith)
same_word_long (a ∷ v) [] p q same e = absurd (omega arith)
same_word_long (a ∷ v) (b ∷ w) p q same e =
    let tails : length v ≡ length w = omega arith in
    elim (cases_order a b) [
      | inl one ↦ let rest = same_word_long v w p.1 q.1 tails (rest_same a b v w one tails e) in cc
      | inr (inl below) ↦ let apart = smaller_first a b v w p q tails below in absurd (omega arith)
      | inr (inr above) ↦ let apart = smaller_first b a w v q p (sym tails) above in absurd (omega arith)
    ]
  where
    rest_same : (x y : ℕ) (xs ys : List ℕ) → x ≡ y → length xs ≡ length ys → word_value (x ∷ xs) ≡ word_value (y ∷ ys)
        → word_value xs ≡ word_value ys
    rest_same x y xs ys h l f =
        let heads : (x - 64) * 26 ^ length xs ≡ (y - 64) * 26 ^ length ys = rw (h, l) refl in
        omega arith

same_word : (v w : List ℕ) → IsWord v → IsWord w → word_value v ≡ word_value w → v ≡ w
same_word v w p q e = elim (cases_order (length v) (length w)) [
  | inl same ↦ same_word_long v w p q same e
  | inr (inl less) ↦ let apart = shorter_below v w p q less in absurd (omega arith)
  | inr (inr more) ↦ let apart = shorter_below w v q p more in absurd (omega arith)
]

in_order : (v w : List ℕ) → IsWord v → IsWord w → word_value v < word_value w
    → (length v < length w) ⊎ ((length v ≡ length w) × IsEarlier v w)
in_order v w p q less = elim (cases_order (length v) (length w)) [
  | inl same ↦ inr (same, earlier_from_value v w p q same less)
  | inr (inl shorter) ↦ inl shorter
  | inr (inr longer) ↦ let turned = shorter_below w v q p longer in absurd (omega arith)
]

word_value-append : (w : List ℕ) (letter : ℕ) → word_value (w ++ letter ∷ []) ≡ 26 * word_value w + (letter - 64)
word_value-append [] letter = omega arith
word_value-append (a ∷ w) letter =
    let rest = word_value-append w letter in
    let long : length (w ++ letter ∷ []) ≡ suc (length w) = omega (arith, length-append w (letter ∷ [])) in
    let more = pow-suc 26 (length w) in
    rw (long, more, rest) (omega arith)

IsWord-append : (w : List ℕ) (letter : ℕ) → IsWord w → (65 ≤ letter) × (letter ≤ 90) → IsWord (w ++ letter ∷ [])
IsWord-append [] letter all one = (one, tt)
IsWord-append (a ∷ w) letter all one = (all.0, IsWord-append w letter all.1 one)

-- the word that is computed has the value
word_of_value : (more value : ℕ) → value ≤ more → IsWord (word_of more value) × (word_value (word_of more value) ≡ value)
unfolding word_of
word_of_value zero value h = (tt, omega arith)
word_of_value (suc more) zero h = (tt, refl)
word_of_value (suc more) (suc rest) h =
    let prefix = word_of_value more (rest / 26) (omega arith) in
    let letter : (65 ≤ 65 + rest % 26) × (65 + rest % 26 ≤ 90) = (omega arith, omega arith) in (
      IsWord-append (word_of more (rest / 26)) (65 + rest % 26) prefix.0 letter,
      rw (word_value-append (word_of more (rest / 26)) (65 + rest % 26), prefix.1) (omega arith),
    )

IsColumnName-column_name : (c : ℕ) → IsColumnName c (column_name c)
unfolding column_name
IsColumnName-column_name c =
    let built = word_of_value (c + 1) (c + 1) (omega arith) in
    record { letters = built.0; value = built.1 }

pub has_one_name : (c : ℕ) → HasOneName c
has_one_name c =
    let is = IsColumnName-column_name c in
    (is, λ word other. same_word word (column_name c) other.letters is.letters (other.value ∙ sym is.value))

pub names_differ : ColumnNamesDiffer
names_differ c d e =
    let left = IsColumnName-column_name c in
    let right = IsColumnName-column_name d in
    let values : c + 1 ≡ d + 1 = sym left.value ∙ ap word_value e ∙ right.value in
    omega arith

pub names_in_order : NamesInOrder
names_in_order c d less =
    let left = IsColumnName-column_name c in
    let right = IsColumnName-column_name d in
    in_order (column_name c) (column_name d) left.letters right.letters (omega (arith, left.value, right.value))

least_eight : least 8 ≡ 8353082583
unfolding least
least_eight = refl

pub seven_letters_do : SevenLettersDo
seven_letters_do c below = elim (cases_lt (length (column_name c)) 8) [
  | inl few ↦ omega arith
  | inr many ↦
      let name = IsColumnName-column_name c in
      let bounds = word_bounds (column_name c) name.letters in
      let more = least_mono 8 (length (column_name c)) many in
      absurd (omega (arith, least_eight, name.value))
]

-- more room changes no word
word_of-same : (m n value : ℕ) → value ≤ m → value ≤ n → word_of m value ≡ word_of n value
unfolding word_of
word_of-same zero zero value p q = refl
word_of-same zero (suc n) zero p q = refl
word_of-same zero (suc n) (suc rest) p q = absurd (omega arith)
word_of-same (suc m) zero zero p q = refl
word_of-same (suc m) zero (suc rest) p q = absurd (omega arith)
word_of-same (suc m) (suc n) zero p q = refl
word_of-same (suc m) (suc n) (suc rest) p q =
    ap (λ w. w ++ (65 + rest % 26) ∷ []) (word_of-same m n (rest / 26) (omega arith) (omega arith))

-- the last letter, and the word before it
pub word_of-last : (value : ℕ) → 0 < value
    → word_of value value ≡ word_of ((value - 1) / 26) ((value - 1) / 26) ++ (65 + (value - 1) % 26) ∷ []
unfolding word_of
word_of-last zero h = absurd (omega arith)
word_of-last (suc rest) h = rw sub-one
    (ap (λ w. w ++ (65 + rest % 26) ∷ []) (word_of-same rest (rest / 26) (rest / 26) (omega arith) (omega arith)))

pub word_of-none : word_of 0 0 ≡ []
unfolding word_of
word_of-none = refl

pub column_name-word_of : (c : ℕ) → word_of (c + 1) (c + 1) ≡ column_name c
unfolding column_name
column_name-word_of c = refl

-- seven letters have room for each 32-bit column, and a letter less for what is left
pub room_first : (c : ℕ) → c < 2 ^ 32 → c + 1 ≤ 26 * least 7
unfolding least
room_first c below = omega arith

pub some_room : (value n : ℕ) → 0 < value → value ≤ 26 * least n → 0 < n
some_room value zero some room = absurd (omega (arith, least_zero))
some_room value (suc n) some room = omega arith

pub room_next : (value n : ℕ) → 0 < value → 0 < n → value ≤ 26 * least n → (value - 1) / 26 ≤ 26 * least (n - 1)
room_next value zero some more room = absurd (omega arith)
room_next value (suc n) some more room =
    let whole = least_suc n in
    let next = least_next n in
    let before : suc n - 1 ≡ n = omega arith in
    rw before (omega arith)

-- the letters of a name are text
IsAscii-IsWord : (w : List ℕ) → IsWord w → (i : ℕ) → slice_index w i < 128
IsAscii-IsWord [] all i = lit< tt
IsAscii-IsWord (a ∷ w) all zero = omega (arith, all.0)
IsAscii-IsWord (a ∷ w) all (suc i) = IsAscii-IsWord w all.1 i

pub IsAscii-column_name : (c : ℕ) (name : List ℕ) → name ≡ column_name c → IsAscii name
IsAscii-column_name c name same =
    subst IsAscii (sym same) (IsAscii-IsWord (column_name c) (IsColumnName-column_name c).letters)

-- when nothing is left, the letters are the name
pub letters_at_end : (left start c : ℕ) (letters : List ℕ) → left ≤ 0 → length letters ≡ 7
    → word_of left left ++ drop start letters ≡ column_name c → take (7 - start) (drop start letters) ≡ column_name c
letters_at_end left start c letters none long whole =
    let nothing : left ≡ 0 = omega arith in
    let all : take (7 - start) (drop start letters) ≡ drop start letters = take_all (7 - start) (drop start letters) (omega (arith, length-drop start letters)) in
    all ∙ rw (nothing, word_of-none) at whole

-- one letter more before the others
pub letters_step : (left start c : ℕ) (letters : List ℕ) → 0 < left → 0 < start → start ≤ length letters
    → word_of left left ++ drop start letters ≡ column_name c
    → word_of ((left - 1) / 26) ((left - 1) / 26) ++ drop (start - 1) (set letters (start - 1) (65 + (left - 1) % 26)) ≡ column_name c
letters_step left start c letters some room long whole =
    let back : start - 1 + 1 ≡ start = omega arith in
    let put : drop (start - 1) (set letters (start - 1) (65 + (left - 1) % 26)) ≡ (65 + (left - 1) % 26) ∷ drop (start - 1 + 1) letters =
    drop-set letters (start - 1) (65 + (left - 1) % 26) (omega arith) in
    rw (put, back) (sym (append_assoc (word_of ((left - 1) / 26) ((left - 1) / 26)) ((65 + (left - 1) % 26) ∷ []) (drop start letters))
    ∙ ap (λ w. w ++ drop start letters) (sym (word_of-last left some)) ∙ whole)
