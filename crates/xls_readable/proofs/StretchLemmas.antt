-- Texts whose bytes are written each by itself, most of them as they are.
use Rattle.std.proofs.Common.{◌≡◌, ℕ, zero, suc, ◌+◌, ◌<◌, List, [], ◌∷◌, ◌++◌, length, length-drop, get_or, take, drop, append_assoc, refl, sym, ap, ◌∙◌, arith, IsUtf8}
use Rattle.std.specs.List.{flat_map}
use Rattle.std.specs.Str.{IsCharBoundary}
use Rattle.std.proofs.lemmas.Str.{IsUtf8-drop, IsCharBoundary-before_ascii, IsCharBoundary-after_ascii}
use Rattle.std.proofs.lemmas.List.{get_or-drop, drop-drop}

-- the bytes before one, that byte and those after it, each written by f
at_byte : (f : ℕ → List ℕ) (text : List ℕ) (at : ℕ) → at < length text
    → flat_map f text ≡ flat_map f (take at text) ++ (f (get_or text at 0) ++ flat_map f (drop (at + 1) text))
at_byte f [] at l = absurd (omega arith)
at_byte f (b ∷ bs) zero l = refl
at_byte f (b ∷ bs) (suc i) l =
    let more : suc i + 1 ≡ suc (i + 1) = omega arith in
    rw more (ap (λ (x : List ℕ). f b ++ x) (at_byte f bs i (omega arith))
    ∙ sym (append_assoc (f b) (flat_map f (take i bs)) _))

-- a stretch that stands as it is, and the byte after it
pub stretch : (f : ℕ → List ℕ) (text plain escape others after : List ℕ) (at : ℕ) → at < length text
    → flat_map f (take at text) ≡ take at text
    → escape ≡ f (get_or text at 0) → plain ≡ take at text → others ≡ drop at text
    → after ≡ drop 1 others
    → flat_map f text ≡ plain ++ (escape ++ flat_map f after)
stretch f text plain escape others after at l same is prefix back rest =
    at_byte f text at l
    ∙ rw (same, is, prefix, rest, back, drop-drop 1 at text) refl

-- after a stretch the first byte is a character
pub after_one : (text others : List ℕ) (at : ℕ) → IsUtf8 text → at < length text
    → get_or text at 0 < 128 → others ≡ drop at text → IsCharBoundary others 1
after_one text others at u l low is =
    rw is (IsCharBoundary-after_ascii (drop at text) 0
    (IsUtf8-drop text at u (IsCharBoundary-before_ascii text at l low))
    (omega (arith, length-drop at text)) (rw (get_or-drop at text 0 0, plus_none) low))
  where
    plus_none : at + 0 ≡ at
    plus_none = omega arith

-- what is written and what is left, after a stretch more
pub stretch_more : (f : ℕ → List ℕ) (rest plain escape after old mid new whole : List ℕ)
    → flat_map f rest ≡ plain ++ (escape ++ flat_map f after)
    → mid ≡ old ++ plain → new ≡ mid ++ escape → old ++ flat_map f rest ≡ whole
    → new ++ flat_map f after ≡ whole
stretch_more f rest plain escape after old mid new whole is one two so_far =
    rw (two, one, append_assoc, append_assoc, ← is) so_far
