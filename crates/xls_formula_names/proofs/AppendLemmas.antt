-- What is appended to a text, by its characters.
use Rattle.std.proofs.Common.{◌≡◌, ◌≢◌, ◌||◌, Bool, ℕ, ◌+◌, List, [], ◌∷◌, ◌++◌, ◌<◌, IsUtf8, Result, Ok, Err, is_ok, OnOk, if◌then◌else◌, get_or, drop, length, encode_utf8, codes, ap, sym, refl, subst, ◌∙◌, append_assoc, append-nil, arith, Bor}
use Rattle.std.specs.Char.{IsScalar}
use Rattle.std.specs.Str.{chars}
use Rattle.std.proofs.lemmas.Bool.Decides.{nat_tests}
use Rattle.std.proofs.lemmas.List.{drop_more}
use Rattle.std.proofs.lemmas.List.Concat.{flat_map-append}
use Rattle.std.proofs.lemmas.Str.{chars-append, chars-nil, chars_past_char, IsUtf8-encode, IsUtf8-nil}
use Rattle.xls_bytes.specs.Growth.{IsGrown}
use Rattle.xls_formula_names.specs.Parts.{joined}
use Rattle.xls_formula_names.specs.Prefixes.{book_needs_quotes, book_prefix, doubled, doubled_one, in_quotes, named, sheets_need_quotes, sheets_prefix, sheets_text}
use Rattle.xls_formula_names.specs.declared.sheets.Sheets.{Sheets}
use Rattle.xls_formula_names.specs.declared.sheets.Sheets.TheVariants.{Gone, One, Range}

-- a text more
pub chars_more : (old more new : List ℕ) (cs : List ℕ) → IsUtf8 old → new ≡ old ++ more → chars more ≡ cs → chars new ≡ chars old ++ cs
chars_more old more new cs text e f = ap chars e ∙ chars-append old more text ∙ ap (λ xs. chars old ++ xs) f

-- what `push` and `push_str` leave where there was memory
pub appended : {T E : Type 0} (r : Result T E) (old more new : List ℕ) (cs : List ℕ) → IsUtf8 old → new ≡ (if is_ok r then old ++ more else old) → chars more ≡ cs → OnOk r (chars new ≡ chars old ++ cs)
appended (Ok x) old more new cs text e f = chars_more old more new cs text e f
appended (Err x) old more new cs text e f = tt

-- and what they leave at any rate
pub grown_by : {T E : Type 0} (r : Result T E) (old more new : List ℕ) → IsUtf8 more → new ≡ (if is_ok r then old ++ more else old) → IsGrown old new
grown_by (Ok x) old more new text e = (more, text, e)
grown_by (Err x) old more new text e = ([], IsUtf8-nil, e ∙ sym (append-nil old))

-- a part more of what is left
pub left_more : (old now whole one rest left : List ℕ) → left ≡ one ++ rest → now ≡ old ++ one → old ++ left ≡ whole → now ++ rest ≡ whole
left_more old now whole one rest left e f all = ap (λ xs. xs ++ rest) f ∙ append_assoc old one rest ∙ sym (ap (λ xs. old ++ xs) e) ∙ all

-- texts that are written out
pub one_apostrophe : chars (codes "'") ≡ 0x27 ∷ []
unfolding chars
one_apostrophe = refl

pub gone : chars (codes "#REF") ≡ codes "#REF"
unfolding chars
gone = refl

two_apostrophes : chars (codes "''") ≡ 0x27 ∷ 0x27 ∷ []
unfolding chars
two_apostrophes = refl

colon : chars (codes ":") ≡ 0x3A ∷ []
unfolding chars
colon = refl

-- an apostrophe twice, another character once
pub twice : (c : ℕ) → c ≡ 0x27 → chars (codes "''") ≡ doubled_one c
twice c e = subst (λ d. chars (codes "''") ≡ doubled_one d) (sym e) two_apostrophes

pub char_text : (c : ℕ) → IsScalar c → chars (encode_utf8 c) ≡ c ∷ []
char_text c scalar = chars_past_char (encode_utf8 c) [] c (IsUtf8-encode c scalar) (sym (append-nil (encode_utf8 c))) ∙ ap (λ xs. c ∷ xs) chars-nil

pub once : (c : ℕ) → IsScalar c → c ≢ 0x27 → chars (encode_utf8 c) ≡ doubled_one c
once c scalar other = char_text c scalar ∙ grind (arith, nat_tests, other)

-- the part at an index, and those behind it
pub parts_left : (parts : List (Bor (List ℕ))) (i : ℕ) (d : Bor (List ℕ)) → i < length parts → joined (drop i parts) ≡ chars (get_or parts i d).now ++ joined (drop (i + 1) parts)
parts_left parts i d within = ap joined (drop_more parts i d within)

pub doubled_left : (parts : List (Bor (List ℕ))) (i : ℕ) (d : Bor (List ℕ)) → i < length parts → doubled (joined (drop i parts)) ≡ doubled (chars (get_or parts i d).now) ++ doubled (joined (drop (i + 1) parts))
doubled_left parts i d within = ap doubled (parts_left parts i d within) ∙ flat_map-append doubled_one (chars (get_or parts i d).now) (joined (drop (i + 1) parts))

-- between two marks
pub in_marks : (old first between new cs : List ℕ) (mark : ℕ) → first ≡ old ++ mark ∷ [] → between ≡ first ++ cs → new ≡ between ++ mark ∷ [] → new ≡ old ++ (mark ∷ (cs ++ (mark ∷ [])))
in_marks old first between new cs mark e f g =
    g ∙ ap (λ xs. xs ++ mark ∷ []) (f ∙ ap (λ xs. xs ++ cs) e ∙ append_assoc old (mark ∷ []) cs) ∙ append_assoc old (mark ∷ cs) (mark ∷ [])

-- two names and a colon
pub range_text : (first last : List ℕ) → chars first ++ (chars (codes ":") ++ (chars last ++ [])) ≡ chars first ++ (0x3A ∷ chars last)
range_text first last = ap (λ xs. chars first ++ (xs ++ (chars last ++ []))) colon ∙ ap (λ xs. chars first ++ (0x3A ∷ xs)) (append-nil (chars last))

pub range_prefix : (sheets : Sheets) (first last : Bor (List ℕ)) (needed : Bool) → sheets ≡ Range first last → needed ≡ sheets_need_quotes (named sheets)
    → in_quotes needed (chars first.now ++ (chars (codes ":") ++ (chars last.now ++ []))) ≡ sheets_prefix (named sheets)
range_prefix sheets first last needed e f =
    ap (in_quotes needed) (range_text first.now last.now)
    ∙ (ap (λ b. in_quotes b (chars first.now ++ (0x3A ∷ chars last.now))) f ∙ ap (λ x. in_quotes (sheets_need_quotes (named sheets)) (sheets_text (named x))) (sym e))

opening : chars (codes "[") ≡ codes "["
unfolding chars
opening = refl

closing : chars (codes "]") ≡ codes "]"
unfolding chars
closing = refl

-- a folder, a file in brackets, and the sheets
pub book_is : (dir file tail : List ℕ) (sheets : Sheets) (needed : Bool) → tail ≡ sheets_text (named sheets) → needed ≡ (book_needs_quotes (chars dir) (chars file) || sheets_need_quotes (named sheets))
    → in_quotes needed (chars dir ++ (chars (codes "[") ++ (chars file ++ (chars (codes "]") ++ tail)))) ≡ book_prefix (chars dir) (chars file) (named sheets)
book_is dir file tail sheets needed e f =
    ap (λ b. in_quotes b (chars dir ++ (chars (codes "[") ++ (chars file ++ (chars (codes "]") ++ tail))))) f
    ∙ ap (in_quotes (book_needs_quotes (chars dir) (chars file) || sheets_need_quotes (named sheets)))
    (ap (λ xs. chars dir ++ (xs ++ (chars file ++ (chars (codes "]") ++ tail)))) opening
    ∙ (ap (λ xs. chars dir ++ (codes "[" ++ (chars file ++ (xs ++ tail)))) closing
    ∙ ap (λ xs. chars dir ++ (codes "[" ++ (chars file ++ (codes "]" ++ xs)))) e))

pub gone_tail : (sheets : Sheets) → sheets ≡ Gone → chars (codes "#REF") ++ [] ≡ sheets_text (named sheets)
gone_tail sheets e = ap (λ xs. xs ++ []) gone ∙ ap (λ (x : Sheets). sheets_text (named x)) (sym e)

pub one_tail : (sheets : Sheets) (name : Bor (List ℕ)) → sheets ≡ One name → chars name.now ++ [] ≡ sheets_text (named sheets)
one_tail sheets name e = append-nil (chars name.now) ∙ ap (λ (x : Sheets). sheets_text (named x)) (sym e)

pub range_tail : (sheets : Sheets) (first last : Bor (List ℕ)) → sheets ≡ Range first last → chars first.now ++ (chars (codes ":") ++ (chars last.now ++ [])) ≡ sheets_text (named sheets)
range_tail sheets first last e = range_text first.now last.now ∙ ap (λ (x : Sheets). sheets_text (named x)) (sym e)

pub one_bar : chars (codes "|") ≡ 0x7C ∷ []
unfolding chars
one_bar = refl

-- two texts with a bar between them
pub with_bar : (old first second new app topic : List ℕ) → first ≡ old ++ app → second ≡ first ++ (0x7C ∷ []) → new ≡ second ++ topic → new ≡ old ++ (app ++ (0x7C ∷ topic))
with_bar old first second new app topic e f g =
    g ∙ (ap (λ xs. xs ++ topic) (f ∙ ap (λ xs. xs ++ (0x7C ∷ [])) e)
    ∙ (append_assoc (old ++ app) (0x7C ∷ []) topic ∙ append_assoc old app (0x7C ∷ topic)))
