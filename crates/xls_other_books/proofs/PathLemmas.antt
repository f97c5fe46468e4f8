-- Texts that grow, and the steps over a coded path.
use Rattle.std.proofs.Common.{◌≡◌, ◌≢◌, ℕ, List, [], ◌∷◌, ◌++◌, IsUtf8, Result, Ok, Err, is_ok, OnOk, if◌then◌else◌, encode_utf8, codes, drop, ap, sym, refl, ◌∙◌, append_assoc, append-nil, arith}
use Rattle.std.specs.Char.{IsScalar}
use Rattle.std.specs.Str.{chars}
use Rattle.std.proofs.lemmas.Bool.Decides.{nat_tests}
use Rattle.std.proofs.lemmas.Str.{chars-append, chars-nil, chars_past_char, IsUtf8-encode}
use Rattle.xls_other_books.specs.Paths.{volume, plain, decoded, decoded_path}

-- what `push` and `push_str` leave where there was memory
pub appended : {T E : Type 0} (r : Result T E) (old more new : List ℕ) (cs : List ℕ) → IsUtf8 old → new ≡ (if is_ok r then old ++ more else old) → chars more ≡ cs → OnOk r (chars new ≡ chars old ++ cs)
appended (Ok x) old more new cs text e f = ap chars e ∙ chars-append old more text ∙ ap (λ xs. chars old ++ xs) f
appended (Err x) old more new cs text e f = tt

pub char_text : (c : ℕ) → IsScalar c → chars (encode_utf8 c) ≡ c ∷ []
char_text c scalar = chars_past_char (encode_utf8 c) [] c (IsUtf8-encode c scalar) (sym (append-nil (encode_utf8 c))) ∙ ap (λ xs. c ∷ xs) chars-nil

-- ---- texts that are written out

pub network : chars (codes "\\\\") ≡ codes "\\\\"
unfolding chars
network = refl

pub drive : chars (codes ":\\") ≡ codes ":\\"
unfolding chars
drive = refl

pub above : chars (codes "..\\") ≡ codes "..\\"
unfolding chars
above = refl

pub startup : chars (codes "<startup>\\") ≡ codes "<startup>\\"
unfolding chars
startup = refl

pub alternate : chars (codes "<alternate startup>\\") ≡ codes "<alternate startup>\\"
unfolding chars
alternate = refl

pub library_word : chars (codes "<library>\\") ≡ codes "<library>\\"
unfolding chars
library_word = refl

-- ---- steps

-- what was appended, by another name
pub renamed : {T E : Type 0} (r : Result T E) (old new more cs : List ℕ) → OnOk r (new ≡ old ++ more) → more ≡ cs → OnOk r (new ≡ old ++ cs)
renamed (Ok x) old new more cs e f = e ∙ ap (λ xs. old ++ xs) f
renamed (Err x) old new more cs e f = tt

pub renamed_after : {T E : Type 0} (r : Result T E) (old between new first more cs : List ℕ) → between ≡ old ++ first → OnOk r (new ≡ between ++ more) → first ++ more ≡ cs → OnOk r (new ≡ old ++ cs)
renamed_after (Ok x) old between new first more cs b e f = e ∙ ap (λ xs. xs ++ more) b ∙ append_assoc old first more ∙ ap (λ xs. old ++ xs) f
renamed_after (Err x) old between new first more cs b e f = tt

-- what was appended and what is left stand for the whole
pub went_on : (old new more left whole : List ℕ) → new ≡ old ++ more → more ++ left ≡ whole → new ++ left ≡ old ++ whole
went_on old new more left whole e f = ap (λ xs. xs ++ left) e ∙ append_assoc old more left ∙ ap (λ xs. old ++ xs) f

pub folder_6 : (c : ℕ) (cs rest : List ℕ) → c ≡ 6 → cs ≡ c ∷ rest → chars (codes "<startup>\\") ++ decoded rest ≡ decoded_path cs
folder_6 c cs rest e f = ap (λ xs. xs ++ decoded rest) startup ∙ sym (ap decoded_path (f ∙ ap (λ x. x ∷ rest) e))

pub folder_7 : (c : ℕ) (cs rest : List ℕ) → c ≡ 7 → cs ≡ c ∷ rest → chars (codes "<alternate startup>\\") ++ decoded rest ≡ decoded_path cs
folder_7 c cs rest e f = ap (λ xs. xs ++ decoded rest) alternate ∙ sym (ap decoded_path (f ∙ ap (λ x. x ∷ rest) e))

pub folder_8 : (c : ℕ) (cs rest : List ℕ) → c ≡ 8 → cs ≡ c ∷ rest → chars (codes "<library>\\") ++ decoded rest ≡ decoded_path cs
folder_8 c cs rest e f = ap (λ xs. xs ++ decoded rest) library_word ∙ sym (ap decoded_path (f ∙ ap (λ x. x ∷ rest) e))

pub volume_at : (c : ℕ) → c ≡ 0x40 → chars (codes "\\\\") ≡ volume c
volume_at c e = network ∙ sym (ap volume e)

pub volume_letter : (c : ℕ) → c ≢ 0x40 → c ∷ chars (codes ":\\") ≡ volume c
volume_letter c e = ap (λ xs. c ∷ xs) drive ∙ grind (arith, nat_tests, e)

pub plain_4 : (c : ℕ) → c ≡ 4 → chars (codes "..\\") ≡ plain c
plain_4 c e = above ∙ sym (ap plain e)

-- 5 and one character
pub decoded_5 : (c : ℕ) (cs : List ℕ) → c ≡ 5 → decoded (c ∷ cs) ≡ drop 1 cs
decoded_5 c [] e = rw e refl
decoded_5 c (d ∷ cs) e = rw e refl

pub decoded_1 : (d : ℕ) (cs : List ℕ) → decoded (1 ∷ d ∷ cs) ≡ volume d ++ decoded cs
decoded_1 d cs = refl

-- another character
pub decoded_plain : (c : ℕ) (cs : List ℕ) → c ≢ 1 → c ≢ 5 → decoded (c ∷ cs) ≡ plain c ++ decoded cs
decoded_plain c [] n m = grind (arith, nat_tests, append-nil (plain c))
decoded_plain c (d ∷ cs) n m = grind (arith, nat_tests)
