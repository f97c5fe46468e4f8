-- Bytes as characters.
use Rattle.std.proofs.Common.{◌≡◌, ℕ, suc, ◌<◌, List, [], ◌∷◌, ◌++◌, length, map, ◌%◌, append-nil, encode_utf8_all, refl, ap, ◌∙◌, append_assoc, arith, lt-ltb, Bool, true, false}
use Rattle.std.proofs.lemmas.List.{map-append}
use Rattle.std.specs.Char.{encode_utf8}
use Rattle.std.specs.Str.{IsAscii}
use Rattle.std.proofs.lemmas.Str.{encodes-append}
use Rattle.xls_text.specs.Pages.{windows_1252, byte_character, odd_mark, replacement}

-- a stretch of ASCII and one byte more, where f says which character it is
pub stretch_more : (f : ℕ → ℕ) (old mid new total ascii after rest : List ℕ) (b c : ℕ)
    → map f ascii ≡ ascii → encode_utf8_all ascii ≡ ascii → rest ≡ ascii ++ b ∷ after
    → mid ≡ old ++ ascii → new ≡ mid ++ encode_utf8 c → c ≡ f b
    → old ++ encode_utf8_all (map f rest) ≡ total → new ++ encode_utf8_all (map f after) ≡ total
stretch_more f old mid new total ascii after rest b c same bytes whole prefix grown is before =
    rw (grown, prefix, is, append_assoc, append_assoc)
    (rw (whole, map-append, same, encodes-append, bytes) at before)

pub map_same : (bs : List ℕ) → map (byte_character false) bs ≡ bs
map_same [] = refl
map_same (b ∷ bs) = ap (λ t. b ∷ t) (map_same bs)

pub windows_1252-ascii : (b : ℕ) → b < 128 → windows_1252 b ≡ b
windows_1252-ascii b low = rw (lt-ltb b 128 low)

pub windows_1252-IsAscii : (bs : List ℕ) → IsAscii bs → map windows_1252 bs ≡ bs
windows_1252-IsAscii [] all = refl
windows_1252-IsAscii (b ∷ bs) all = rw (windows_1252-ascii b (all 0), windows_1252-IsAscii bs (λ i. all (suc i)))

pub byte_character-IsAscii : (is_windows : Bool) (bs : List ℕ) → IsAscii bs → map (byte_character is_windows) bs ≡ bs
byte_character-IsAscii true bs all = windows_1252-IsAscii bs all
byte_character-IsAscii false bs all = map_same bs

pub replacement_bytes : encode_utf8 0xFFFD ≡ 0xEF ∷ 0xBF ∷ 0xBD ∷ []
unfolding encode_utf8
replacement_bytes = refl

pub odd_mark-odd : (bs : List ℕ) → length bs % 2 ≡ 1 → odd_mark bs ≡ replacement ∷ []
odd_mark-odd [] e = absurd (omega arith)
odd_mark-odd (a ∷ []) e = refl
odd_mark-odd (a ∷ b ∷ bs) e = odd_mark-odd bs (omega arith)

pub odd_mark-even : (bs : List ℕ) → ¬ (length bs % 2 ≡ 1) → odd_mark bs ≡ []
odd_mark-even [] e = refl
odd_mark-even (a ∷ []) e = absurd (e refl)
odd_mark-even (a ∷ b ∷ bs) e = odd_mark-even bs (λ h. e (omega arith))

-- the text of the units, and one character more
pub with_mark : (old mid new us mark : List ℕ) (c : ℕ) → mark ≡ c ∷ [] → mid ≡ old ++ encode_utf8_all us → new ≡ mid ++ encode_utf8 c
    → new ≡ old ++ encode_utf8_all (us ++ mark)
with_mark old mid new us mark c is before after =
    after ∙ rw (before, append_assoc) (rw (is, encodes-append) (rw append-nil refl))

pub no_mark : (old new us mark : List ℕ) → mark ≡ [] → new ≡ old ++ encode_utf8_all us → new ≡ old ++ encode_utf8_all (us ++ mark)
no_mark old new us mark is before = before ∙ rw (is, append-nil) refl
