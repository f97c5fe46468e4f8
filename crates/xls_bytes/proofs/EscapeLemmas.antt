-- Texts are escaped by character as by byte, since each byte of a character outside ASCII is 128
-- or more.
use Rattle.std.proofs.Common.{◌≡◌, ℕ, zero, suc, ◌+◌, ◌<◌, ◌≤◌, ◌⊎◌, inl, inr, List, [], ◌∷◌, ◌++◌, length, length-drop, get_or, take, drop, append-nil, append_assoc, refl, sym, ap, ◌∙◌, arith, IsUtf8, IsAscii, encode_utf8, encode_utf8_all, chars}
use Rattle.std.specs.List.{flat_map}
use Rattle.std.specs.Str.{IsCharBoundary}
use Rattle.std.proofs.lemmas.Bool.{cases_lt}
use Rattle.std.proofs.lemmas.Str.{encode_ascii, encodes-append, encodes-chars, encodes-IsAscii, inside_one, IsUtf8-drop, IsCharBoundary-before_ascii, IsCharBoundary-after_ascii}
use Rattle.std.proofs.lemmas.List.{get_or-drop, drop-drop}
use Rattle.std.proofs.lemmas.Grind.{flat_map-append, common_steps}
use Rattle.xls_bytes.specs.Escapes.{escaped_char, escaped, escaped_text}

-- ---- one character

high : (b : ℕ) → 128 ≤ b → escaped_char b ≡ b ∷ []
high b l = grind (arith, common_steps)

ascii : (c : ℕ) → c < 128 → IsAscii (escaped_char c)
ascii c l = grind (arith, common_steps)

highs : (bs : List ℕ) → ((k : ℕ) → k < length bs → 128 ≤ get_or bs k 0) → flat_map escaped_char bs ≡ bs
highs [] h = refl
highs (b ∷ bs) h =
    ap (λ (l : List ℕ). l ++ flat_map escaped_char bs) (high b (h 0 (omega arith)))
    ∙ ap (λ (l : List ℕ). b ∷ l) (highs bs (λ k l. h (suc k) (omega arith)))

-- a byte below 128 of a character is the character
byte_high : (c k : ℕ) → 128 ≤ c → k < length (encode_utf8 c) → (get_or (encode_utf8 c) k 0 < 128) ⊎ (128 ≤ get_or (encode_utf8 c) k 0)
    → 128 ≤ get_or (encode_utf8 c) k 0
byte_high c k l m (inl low) =
    let same : c ≡ get_or (encode_utf8 c) k 0 = inside_one c [] (encode_utf8 c) k (sym (append-nil (encode_utf8 c))) m low in
    absurd (omega arith)
byte_high c k l m (inr is) = is

one_char : (c : ℕ) → (c < 128) ⊎ (128 ≤ c) → encode_utf8_all (escaped_char c) ≡ flat_map escaped_char (encode_utf8 c)
one_char c (inl l) =
    encodes-IsAscii (escaped_char c) (ascii c l) ∙ sym (append-nil (escaped_char c))
    ∙ ap (flat_map escaped_char) (sym (encode_ascii c l))
one_char c (inr l) =
    ap encode_utf8_all (high c l) ∙ append-nil (encode_utf8 c)
    ∙ sym (highs (encode_utf8 c) (λ k m. byte_high c k l m (cases_lt (get_or (encode_utf8 c) k 0) 128)))

-- ---- texts

by_bytes : (cs : List ℕ) → encode_utf8_all (escaped cs) ≡ flat_map escaped_char (encode_utf8_all cs)
by_bytes [] = refl
by_bytes (c ∷ cs) =
    encodes-append (escaped_char c) (escaped cs)
    ∙ ap (λ (l : List ℕ). l ++ encode_utf8_all (escaped cs)) (one_char c (cases_lt c 128))
    ∙ ap (λ (l : List ℕ). flat_map escaped_char (encode_utf8 c) ++ l) (by_bytes cs)
    ∙ sym (flat_map-append escaped_char (encode_utf8 c) (encode_utf8_all cs))

pub escaped_text-chars : (text : List ℕ) → IsUtf8 text → escaped_text (chars text) ≡ flat_map escaped_char text
escaped_text-chars text u = by_bytes (chars text) ∙ ap (flat_map escaped_char) (encodes-chars text u)

-- ---- stretches without escapes

-- the bytes before one, that byte and those after it, each escaped
at_byte : (text : List ℕ) (at : ℕ) → at < length text
    → flat_map escaped_char text ≡ flat_map escaped_char (take at text)
    ++ (escaped_char (get_or text at 0) ++ flat_map escaped_char (drop (at + 1) text))
at_byte [] at l = absurd (omega arith)
at_byte (b ∷ bs) zero l = refl
at_byte (b ∷ bs) (suc i) l =
    let more : suc i + 1 ≡ suc (i + 1) = omega arith in
    rw more (ap (λ (x : List ℕ). escaped_char b ++ x) (at_byte bs i (omega arith))
    ∙ sym (append_assoc (escaped_char b) (flat_map escaped_char (take i bs)) _))

-- a stretch, and the byte after it
pub stretch : (text plain escape others after : List ℕ) (at : ℕ) → at < length text
    → flat_map escaped_char (take at text) ≡ take at text
    → escape ≡ escaped_char (get_or text at 0) → plain ≡ take at text → others ≡ drop at text
    → after ≡ drop 1 others
    → flat_map escaped_char text ≡ plain ++ (escape ++ flat_map escaped_char after)
stretch text plain escape others after at l same is prefix back rest =
    at_byte text at l
    ∙ rw (same, is, prefix, rest, back, drop-drop 1 at text) refl

-- after a stretch the first byte is a character
pub after_one : (text others : List ℕ) (at : ℕ) → IsUtf8 text → at < length text
    → get_or text at 0 < 128 → others ≡ drop at text → IsCharBoundary others 1
after_one text others at u l low is =
    rw is (IsCharBoundary-after_ascii (drop at text) 0
    (IsUtf8-drop text at u (IsCharBoundary-before_ascii text at l low))
    (omega (arith, length-drop at text)) (rw (get_or-drop at text 0 0, plus_none) low))
  where
    plus_none : at + 0 ≡ at
    plus_none = omega arith

-- what is written and what is left, after a stretch more
pub stretch_more : (rest plain escape after old mid new whole : List ℕ)
    → flat_map escaped_char rest ≡ plain ++ (escape ++ flat_map escaped_char after)
    → mid ≡ old ++ plain → new ≡ mid ++ escape → old ++ flat_map escaped_char rest ≡ whole
    → new ++ flat_map escaped_char after ≡ whole
stretch_more rest plain escape after old mid new whole is one two so_far =
    rw (two, one, append_assoc, append_assoc, ← is) so_far
