-- What Table 3-7 decodes is what the rule of the longest begun sequence reads, and nothing else.
use Rattle.std.proofs.Common.{◌≡◌, ℕ, zero, suc, ◌<◌, ◌≤◌, true, List, [], ◌∷◌, ◌++◌, length, take, drop, slice_index, Some, None, Option, refl, sym, ap, subst, ◌∙◌, arith, inl, inr, ⊎_elim, append-nil, length-append, length-drop, length-take-le, get_or-take}
use Rattle.std.proofs.lemmas.List.{get_or_append_left}
use Rattle.std.proofs.lemmas.Bool.{cases_lt}
use Rattle.std.proofs.lemmas.Str.{encode_same, len_utf8_bounds, length-encode}
use Rattle.std.specs.Char.{encode_utf8, IsScalar}
use Rattle.bstr.specs.Utf8.{Decoded, decoded, bad, good, second, continues, lossy_chars, or_replacement}
use Rattle.bstr.proofs.lemmas.EncodeLemmas.{decoded-encode}
use Rattle.bstr.proofs.lemmas.PieceLemmas.{by-shape, piece-bounds, lossy_chars-step, lossy_chars-nil, value-2, value-3, value-5, value-8, value-9, value-11, value-12}
use Rattle.bstr.proofs.lemmas.SoundLemmas.{SpellsChar-decoded}
use Rattle.xls_text.specs.Utf8Reading.{BeginsSome, IsLongestBegun, TakesChar, ReadsUtf8}

encode_utf8_nonempty : (c : ℕ) → 0 < length (encode_utf8 c)
encode_utf8_nonempty c = let bounds = len_utf8_bounds c in omega (arith, length-encode c)

-- a list of that many and its first cells
two_cells : (bs : List ℕ) → 2 ≤ length bs → take 2 bs ≡ slice_index bs 0 ∷ slice_index bs 1 ∷ []
two_cells [] h = absurd (omega arith)
two_cells (a ∷ []) h = absurd (omega arith)
two_cells (a ∷ b ∷ bs) h = refl

three_cells : (bs : List ℕ) → 3 ≤ length bs → take 3 bs ≡ slice_index bs 0 ∷ slice_index bs 1 ∷ slice_index bs 2 ∷ []
three_cells [] h = absurd (omega arith)
three_cells (a ∷ []) h = absurd (omega arith)
three_cells (a ∷ b ∷ []) h = absurd (omega arith)
three_cells (a ∷ b ∷ c ∷ bs) h = refl

-- a character decodes as itself
decodes : (w rest : List ℕ) (c : ℕ) → IsScalar c → w ≡ encode_utf8 c ++ rest → (decoded w).char ≡ Some c
decodes w rest c is e = ap (λ t. (decoded t).char) e ∙ ap (λ (p : Decoded). p.char) (decoded-encode c rest is)

-- bytes that decode whole begin a sequence, and so does each prefix of them
begins : (prefix more : List ℕ) (c n : ℕ) → decoded (prefix ++ more) ≡ good c n → length (prefix ++ more) ≡ n → BeginsSome prefix
begins prefix more c n is whole =
    let char : (decoded (prefix ++ more)).char ≡ Some c = ap (λ (p : Decoded). p.char) is in
    let size : (decoded (prefix ++ more)).size ≡ n = ap (λ (p : Decoded). p.size) is in
    let spelled = SpellsChar-decoded (prefix ++ more) c char in
    let none : drop (decoded (prefix ++ more)).size (prefix ++ more) ≡ [] = drop_whole (prefix ++ more) _ (size ∙ sym whole) in
    (c, more, spelled.scalar, sym (spelled.bytes ∙ ap (λ t. encode_utf8 c ++ t) none ∙ append-nil _))
  where
    drop_whole : (bs : List ℕ) (k : ℕ) → k ≡ length bs → drop k bs ≡ []
    drop_whole bs k e = rw e (drop_length bs)
      where
        drop_length : (xs : List ℕ) → drop (length xs) xs ≡ []
        drop_length [] = refl
        drop_length (x ∷ xs) = drop_length xs

begins_two : (b c : ℕ) → 0xE0 ≤ b → b ≤ 0xF4 → second b c ≡ true → BeginsSome (b ∷ c ∷ [])
begins_two b c low high ok = ⊎_elim
    (λ (three : b < 0xF0). begins (b ∷ c ∷ []) (0x80 ∷ []) _ 3 (value-9 3 b c 0x80 0 (omega arith, low, three, ok, refl)) refl)
    (λ (four : 0xF0 ≤ b). begins (b ∷ c ∷ []) (0x80 ∷ 0x80 ∷ []) _ 4 (value-12 4 b c 0x80 0x80 (omega arith, four, high, ok, refl, refl)) refl)
    (cases_lt b 0xF0)

begins_three : (b c d : ℕ) → 0xF0 ≤ b → b ≤ 0xF4 → second b c ≡ true → continues d ≡ true → BeginsSome (b ∷ c ∷ d ∷ [])
begins_three b c d low high ok more = begins (b ∷ c ∷ d ∷ []) (0x80 ∷ []) _ 4 (value-12 4 b c d 0x80 (omega arith, low, high, ok, more, refl)) refl

-- where nothing decodes, the piece begins a sequence if it has two bytes or more
piece_begun : (bs : List ℕ) → (decoded bs).char ≡ None → 1 < (decoded bs).size → BeginsSome (take (decoded bs).size bs)
piece_begun bs none long =
    let b = slice_index bs 0 in let c = slice_index bs 1 in let d = slice_index bs 2 in let e = slice_index bs 3 in
    let char = λ (p : Decoded) (is : decoded bs ≡ p). sym (ap (λ (q : Decoded). q.char) is) ∙ none in
    let size = λ (p : Decoded) (is : decoded bs ≡ p). ap (λ (q : Decoded). q.size) is in
    let at_two = λ (is : (decoded bs).size ≡ 2) (h : 2 ≤ length bs) (begun : BeginsSome (b ∷ c ∷ [])).
    subst BeginsSome (sym (ap (λ k. take k bs) is ∙ two_cells bs h)) begun in
    let at_three = λ (is : (decoded bs).size ≡ 3) (h : 3 ≤ length bs) (begun : BeginsSome (b ∷ c ∷ d ∷ [])).
    subst BeginsSome (sym (ap (λ k. take k bs) is ∙ three_cells bs h)) begun in
    by-shape (length bs) b c d e
    (λ h. let k = size _ h.1 in absurd (omega arith))
    (λ h. let k = size _ h.2 in absurd (omega arith))
    (λ h. let k = size _ h.3 in absurd (omega arith))
    (λ h. let k = size _ h.2 in absurd (omega arith))
    (λ h. let k = size _ h.4 in absurd (omega arith))
    (λ h. let k = size _ h.4 in absurd (omega arith))
    (λ h. let k = char _ h.4 in cc)
    (λ h. at_two (size _ h.5) h.0 (begins_two b c h.1 h.2 h.3))
    (λ h. at_two (size _ h.5) (omega arith) (begins_two b c h.1 h.2 h.3))
    (λ h. let k = char _ h.5 in cc)
    (λ h. at_three (size _ h.6) h.0 (begins_three b c d h.1 h.2 h.3 h.4))
    (λ h. at_three (size _ h.6) (omega arith) (begins_three b c d h.1 h.2 h.3 h.4))
    (λ h. let k = char _ h.6 in cc)

-- and no longer prefix begins one
piece_longest : (bs : List ℕ) → (decoded bs).char ≡ None → (m : ℕ) → (decoded bs).size < m → m ≤ length bs → ¬ (BeginsSome (take m bs))
piece_longest bs none m above within begun =
    let x = begun.0 in
    let more = begun.1 in
    let w = take m bs ++ more in
    let found : (decoded w).char ≡ Some x = decodes w [] x begun.2 (sym begun.3 ∙ sym (append-nil _)) in
    let prefix : length (take m bs) ≡ m = length-take-le m bs within in
    let long : m ≤ length w = omega (arith, length-append (take m bs) more) in
    let same = λ (i : ℕ) (below : i < m). get_or_append_left (take m bs) more 0 i (omega arith) ∙ get_or-take m bs i 0 below in
    let b = slice_index bs 0 in let c = slice_index bs 1 in let d = slice_index bs 2 in let e = slice_index bs 3 in
    let wb = slice_index w 0 in let wc = slice_index w 1 in let wd = slice_index w 2 in let we = slice_index w 3 in
    let char = λ (p : Decoded) (is : decoded bs ≡ p). sym (ap (λ (q : Decoded). q.char) is) ∙ none in
    let size = λ (p : Decoded) (is : decoded bs ≡ p). ap (λ (q : Decoded). q.size) is in
    let not_found = λ (n : ℕ) (is : decoded w ≡ bad n). let k = sym (ap (λ (q : Decoded). q.char) is) ∙ found in no_char x k in
    by-shape (length bs) b c d e
    (λ h. absurd (omega arith))
    (λ h. let k = char _ h.2 in cc)
    (λ h. let k = size _ h.3 in let s0 = same 0 (omega arith) in not_found 1 (value-2 (length w) wb wc wd we (omega arith, omega arith, omega arith)))
    (λ h. let k = size _ h.2 in let s0 = same 0 (omega arith) in not_found 1 (value-3 (length w) wb wc wd we (omega arith, omega arith)))
    (λ h. let k = size _ h.4 in absurd (omega arith))
    (λ h. let k = size _ h.4 in let s0 = same 0 (omega arith) in let s1 = same 1 (omega arith) in
    not_found 1 (value-5 (length w) wb wc wd we (omega arith, omega arith, omega arith, ap (λ v. second v wc) s0 ∙ ap (second b) s1 ∙ h.3)))
    (λ h. let k = char _ h.4 in cc)
    (λ h. let k = size _ h.5 in absurd (omega arith))
    (λ h. let k = size _ h.5 in let s0 = same 0 (omega arith) in let s1 = same 1 (omega arith) in let s2 = same 2 (omega arith) in
    not_found 2 (value-8 (length w) wb wc wd we (omega arith, omega arith, omega arith, ap (λ v. second v wc) s0 ∙ ap (second b) s1 ∙ h.3, ap continues s2 ∙ h.4)))
    (λ h. let k = char _ h.5 in cc)
    (λ h. let k = size _ h.6 in absurd (omega arith))
    (λ h. let k = size _ h.6 in let s0 = same 0 (omega arith) in let s1 = same 1 (omega arith) in let s2 = same 2 (omega arith) in let s3 = same 3 (omega arith) in
    not_found 3 (value-11 (length w) wb wc wd we (omega arith, omega arith, omega arith, ap (λ v. second v wc) s0 ∙ ap (second b) s1 ∙ h.3, ap continues s2 ∙ h.4, ap continues s3 ∙ h.5)))
    (λ h. let k = char _ h.6 in cc)
  where
    no_char : (y : ℕ) → None ≡ Some y → ⊥
    no_char y e = cc

-- the first piece is what the rule takes
pub Takes-decoded : (bs : List ℕ) → 0 < length bs → TakesChar bs (or_replacement (decoded bs).char) (drop (decoded bs).size bs)
Takes-decoded bs some = by_char (decoded bs).char refl
  where
    by_char : (o : Option ℕ) → (decoded bs).char ≡ o → TakesChar bs (or_replacement o) (drop (decoded bs).size bs)
    by_char (Some c) e = let spelled = SpellsChar-decoded bs c e in inl (spelled.scalar, spelled.bytes)
    by_char None e =
        let bounds = piece-bounds bs some in
        inr (
          refl,
          λ c rest is same. let k = sym e ∙ decodes bs rest c is same in cc,
          (
            (decoded bs).size,
            record {
              some = omega arith;
              within = bounds.2;
              begun = piece_begun bs e;
              longest = piece_longest bs e;
            },
            refl,
          ),
        )

reads_within : (fuel : ℕ) (bs : List ℕ) → length bs ≤ fuel → ReadsUtf8 bs (lossy_chars bs)
reads_within fuel [] few = subst (ReadsUtf8 []) (sym lossy_chars-nil) refl
reads_within zero (b ∷ bs) few = absurd (omega arith)
reads_within (suc fuel) (b ∷ bs) few =
    let all = b ∷ bs in
    let bounds = piece-bounds all (omega arith) in
    let left = length-drop (decoded all).size all in
    subst (ReadsUtf8 all) (sym (lossy_chars-step all (omega arith)))
    (drop (decoded all).size all, Takes-decoded all (omega arith), reads_within fuel (drop (decoded all).size all) (omega arith))

-- the bytes read as these characters
pub ReadsUtf8-lossy_chars : (bs : List ℕ) → ReadsUtf8 bs (lossy_chars bs)
ReadsUtf8-lossy_chars bs = reads_within (length bs) bs (omega arith)

longest_one : (bs : List ℕ) (m n : ℕ) → IsLongestBegun bs m → IsLongestBegun bs n → n ≤ m
longest_one bs m n a b = ⊎_elim
    (λ (more : m < n). let some = a.some in absurd (a.longest n more b.within (b.begun (omega arith))))
    (λ (less : n ≤ m). less)
    (cases_lt m n)

-- one character comes first
takes_one : (bs : List ℕ) (c d : ℕ) (xs ys : List ℕ) → TakesChar bs c xs → TakesChar bs d ys → (c ≡ d) × (xs ≡ ys)
takes_one bs c d xs ys a b = ⊎_elim
    (λ p. ⊎_elim
    (λ q. encode_same c d xs ys (sym p.1 ∙ q.1))
    (λ q. absurd (q.1 c xs p.0 p.1))
    b)
    (λ p. ⊎_elim
    (λ q. absurd (p.1 d ys q.0 q.1))
    (λ q.
    let less = longest_one bs p.2.0 q.2.0 p.2.1 q.2.1 in
    let more = longest_one bs q.2.0 p.2.0 q.2.1 p.2.1 in
    let same : p.2.0 ≡ q.2.0 = omega arith in
    (p.0 ∙ sym q.0, p.2.2 ∙ ap (λ n. drop n bs) same ∙ sym q.2.2))
    b)
    a

takes_some : (bs : List ℕ) (c : ℕ) (xs : List ℕ) → TakesChar bs c xs → 0 < length bs
takes_some bs c xs a = ⊎_elim
    (λ p. let some = encode_utf8_nonempty c in let all = ap length p.1 ∙ length-append (encode_utf8 c) xs in omega arith)
    (λ p. let some = p.2.1.some in let within = p.2.1.within in omega arith)
    a

-- no other characters are
pub ReadsUtf8-same : (bs cs ds : List ℕ) → ReadsUtf8 bs cs → ReadsUtf8 bs ds → cs ≡ ds
ReadsUtf8-same bs [] [] a b = refl
ReadsUtf8-same bs [] (d ∷ ds) a b = let some = takes_some bs d b.0 b.1 in let none = ap length a in absurd (omega arith)
ReadsUtf8-same bs (c ∷ cs) [] a b = let some = takes_some bs c a.0 a.1 in let none = ap length b in absurd (omega arith)
ReadsUtf8-same bs (c ∷ cs) (d ∷ ds) a b =
    let one = takes_one bs c d a.0 b.0 a.1 b.1 in
    let rest = ReadsUtf8-same b.0 cs ds (subst (λ t. ReadsUtf8 t cs) one.1 a.2) b.2 in
    ap (λ x. x ∷ cs) one.0 ∙ ap (λ t. d ∷ t) rest
