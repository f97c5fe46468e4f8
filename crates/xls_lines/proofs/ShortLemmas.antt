-- The line of a cell, and the room for its numbers.
use Rattle.std.proofs.Common.{◌≡◌, ℕ, ◌+◌, ◌-◌, ◌/◌, ◌%◌, ◌<◌, ◌≤◌, ◌^◌, true, false, List, [], ◌∷◌, ◌++◌, ◌∙◌, length, take, drop, codes, append_assoc, append-nil, refl, sym, ap, arith, length-append, length-drop}
use borrow.Rule.Slice.PartMut.{put_mid, post_of}
use Rattle.std.specs.Prelude.{◌==◌}
use Rattle.std.specs.Fmt.{decimal}
use Rattle.std.proofs.lemmas.Fmt.{decimal_digit, length-decimal-le}
use Rattle.std.proofs.lemmas.List.{drop-append-le, drop-drop, drop_at, length-take}
use Rattle.xls_dates.specs.Numbers.{decimals_text}
use Rattle.xls_lines.specs.Lines.{line, tabbed}

-- ---- room

pub length-digits : (n : ℕ) → n < 2 ^ 64 → length (decimal n) ≤ 20
length-digits n small = length-decimal-le 20 n (omega arith) (omega (arith, small)) small

-- ---- hundredths

pub one_decimal : (n : ℕ) (text : List ℕ) → n < 100 → (n == 0) ≡ false → (n % 10 == 0) ≡ true
    → 46 ∷ (48 + n / 10) ∷ text ≡ decimals_text n ++ text
one_decimal n text few some none = rw (some, none, decimal_digit (n / 10) (omega (arith, few))) refl

pub two_decimals : (n : ℕ) (text : List ℕ) → n < 100 → (n == 0) ≡ false → (n % 10 == 0) ≡ false
    → 46 ∷ (48 + n / 10) ∷ (48 + n % 10) ∷ text ≡ decimals_text n ++ text
two_decimals n text few some more =
    rw (some, more, decimal_digit (n / 10) (omega (arith, few)), decimal_digit (n % 10) (omega arith)) refl

-- ---- lines

-- fields after a tab each, and an end
in_whole : (word tab row column kind text end : List ℕ)
    → word ++ ((tab ++ row) ++ ((tab ++ column) ++ ((tab ++ kind) ++ (tab ++ (text ++ end)))))
    ≡ word ++ (((tab ++ row) ++ ((tab ++ column) ++ ((tab ++ kind) ++ ((tab ++ text) ++ [])))) ++ end)
in_whole word tab row column kind text end = simp (append_assoc, append-nil)

in_parts : (word tab row column kind text end : List ℕ)
    → (word ++ ((tab ++ row) ++ ((tab ++ column) ++ ((tab ++ kind) ++ (tab ++ []))))) ++ (text ++ end)
    ≡ word ++ (((tab ++ row) ++ ((tab ++ column) ++ ((tab ++ kind) ++ ((tab ++ text) ++ [])))) ++ end)
in_parts word tab row column kind text end = simp (append_assoc, append-nil)

-- all of a cell's line that stands before its text, and then this text
abbrev pub headed : (row column kind text : List ℕ) → List ℕ
headed row column kind text = codes "cell" ++ (tabbed row ++ (tabbed column ++ (tabbed kind ++ (codes "\t" ++ text))))

pub headed-whole : (row column kind text : List ℕ)
    → headed row column kind (text ++ codes "\n") ≡ line (codes "cell") (row ∷ column ∷ kind ∷ text ∷ [])
headed-whole row column kind text = in_whole (codes "cell") (codes "\t") row column kind text (codes "\n")

pub headed-parts : (row column kind text : List ℕ)
    → headed row column kind [] ++ (text ++ codes "\n") ≡ line (codes "cell") (row ∷ column ∷ kind ∷ text ∷ [])
headed-parts row column kind text = in_parts (codes "cell") (codes "\t") row column kind text (codes "\n")

-- ---- a small text before another one

pub length-head : (row : ℕ) → row < 2 ^ 32 → length (codes "cell" ++ (tabbed (decimal row) ++ codes "\t")) ≤ 16
length-head row small =
    let digits : length (decimal row) ≤ 10 = length-decimal-le 10 row (omega arith) (omega (arith, small)) (omega (arith, small)) in
    omega (arith, digits, length-append (decimal row) (9 ∷ []))

-- the last 16 bytes of a room stand before the start of another one; only those from its own start on count
pub put_before : (start own : ℕ) (bytes room piece text old : List ℕ)
    → 16 ≤ start → start ≤ 96 → 80 ≤ own → own ≤ 96 → length bytes ≡ 96 → length room ≡ 96 → piece ≡ drop 80 room
    → drop own room ≡ text → drop start bytes ≡ old
    → drop (start - (96 - own)) (put_mid (start - 16) (start - (start - 16)) bytes piece) ≡ text ++ old
put_before start own bytes room piece text old s16 s96 o80 o96 lb lr is t o =
    let first : length (take (start - 16) bytes) ≡ start - 16 = omega (arith, length-take (start - 16) bytes, lb, s16, s96) in
    let at : start - (96 - own) ≡ (start - 16) + (own - 80) = omega (arith, s16, s96, o80, o96) in
    let after : post_of (start - 16) (start - (start - 16)) bytes ≡ old =
    drop-drop (start - (start - 16)) (start - 16) bytes ∙ ap (λ n. drop n bytes) (omega (arith, s16)) ∙ o in
    let fits : own - 80 ≤ length piece = omega (arith, ap length is, length-drop 80 room, lr, o96) in
    let displayed : drop (own - 80) piece ≡ text =
    ap (drop (own - 80)) is ∙ drop-drop (own - 80) 80 room ∙ ap (λ n. drop n room) (omega (arith, o80)) ∙ t in
    let rest = piece ++ post_of (start - 16) (start - (start - 16)) bytes in
    ap (λ n. drop n (take (start - 16) bytes ++ rest)) at
    ∙ sym (drop-drop (own - 80) (start - 16) (take (start - 16) bytes ++ rest))
    ∙ ap (drop (own - 80)) (drop_at (take (start - 16) bytes) rest (start - 16) first)
    ∙ drop-append-le (own - 80) piece (post_of (start - 16) (start - (start - 16)) bytes) fits
    ∙ ap (λ l. l ++ post_of (start - 16) (start - (start - 16)) bytes) displayed
    ∙ ap (λ l. text ++ l) after
