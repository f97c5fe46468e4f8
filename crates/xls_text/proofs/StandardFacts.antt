-- Values that the Windows code page, UTF-16 and UTF-8 give, so that a wrong rule in the specs does
-- not check.
use Rattle.std.proofs.Common.{◌≡◌, ◌∷◌, [], Some, None, true, false, Err, refl}
use Rattle.std.specs.Char.Utf16.{utf16_chars, utf16_lossy_chars}
use Rattle.bstr.proofs.Computing.{computing}
use Rattle.bstr.specs.Utf8.{lossy_chars}
use Rattle.xls_text.specs.declared.encoding.XlsEncoding.TheVariants.{Utf16, Windows1252, Utf8, Latin1}
use Rattle.xls_text.specs.declared.error.CfbError.TheVariants.{CodePageNotFound}
use Rattle.xls_text.specs.Pages.{page_of, decoded, counts, string_text, windows_1252}

-- the euro, the trade mark, Y with diaeresis, e with acute, and a byte that has no character
euro : windows_1252 0x80 ≡ 0x20AC
euro = refl

trade_mark : windows_1252 0x99 ≡ 0x2122
trade_mark = refl

y_diaeresis : windows_1252 0x9F ≡ 0x178
y_diaeresis = refl

e_acute : windows_1252 0xE9 ≡ 0xE9
e_acute = refl

unassigned : windows_1252 0x81 ≡ 0x81
unassigned = refl

-- under 28591 the bytes 80 to 9F are controls
latin_1 : decoded Latin1 (0x80 ∷ 0xE9 ∷ []) ≡ 0x80 ∷ 0xE9 ∷ []
latin_1 = refl

-- A, the grinning face by its pair, and its two halves in the wrong order
pair : utf16_lossy_chars (0x41 ∷ 0xD83D ∷ 0xDE00 ∷ []) ≡ 0x41 ∷ 0x1F600 ∷ []
unfolding utf16_chars
pair = refl

turned : utf16_lossy_chars (0xDE00 ∷ 0xD83D ∷ []) ≡ 0xFFFD ∷ 0xFFFD ∷ []
unfolding utf16_chars
turned = refl

-- a last odd byte is U+FFFD
odd : decoded Utf16 (0x41 ∷ 0x00 ∷ 0x42 ∷ []) ≡ 0x41 ∷ 0xFFFD ∷ []
unfolding utf16_chars
odd = refl

-- e with acute, and what begins no sequence (the Unicode Standard, 3.9)
well_formed : lossy_chars (0xC3 ∷ 0xA9 ∷ []) ≡ 0xE9 ∷ []
unfolding computing
well_formed = refl

overlong : lossy_chars (0xE0 ∷ 0x80 ∷ []) ≡ 0xFFFD ∷ 0xFFFD ∷ []
unfolding computing
overlong = refl

surrogate : lossy_chars (0xED ∷ 0xA0 ∷ 0x80 ∷ []) ≡ 0xFFFD ∷ 0xFFFD ∷ 0xFFFD ∷ []
unfolding computing
surrogate = refl

cut_short : lossy_chars (0xF0 ∷ 0x9F ∷ 0x98 ∷ []) ≡ 0xFFFD ∷ []
unfolding computing
cut_short = refl

-- two bytes of text as units of two, as units of one, and fewer than are asked for
wide_counts : counts Windows1252 (Some true) (0x41 ∷ 0x00 ∷ 0x42 ∷ []) 5 ≡ (1, 2)
wide_counts = refl

narrow_counts : counts Utf16 None (0x41 ∷ 0x00 ∷ 0x42 ∷ []) 5 ≡ (3, 3)
narrow_counts = refl

asked : counts Utf8 None (0x41 ∷ 0x42 ∷ 0x43 ∷ []) 2 ≡ (2, 2)
asked = refl

narrow_text : string_text Windows1252 (Some false) (0x80 ∷ 0x41 ∷ []) 1 ≡ 0x80 ∷ []
narrow_text = refl

paged_text : string_text Windows1252 None (0x80 ∷ 0x41 ∷ []) 1 ≡ 0x20AC ∷ []
paged_text = refl

-- Shift JIS is not read
shift_jis : page_of 932 ≡ Err (CodePageNotFound 932)
shift_jis = refl
