-- Steps over the strings of a SupBook, and over the records of the globals.
use Rattle.std.proofs.Common.{◌≡◌, ℕ, zero, suc, ◌-◌, ◌<◌, ◌≤◌, List, [], ◌∷◌, ◌++◌, Bool, true, false, Option, Some, None, map, length, not, if◌then◌else◌, ◌==◌, ap, IsUtf8, encode_utf8_all, sym, refl, ◌∙◌, append_assoc, append-nil, arith}
use Rattle.std.proofs.lemmas.Bool.Decides.{nat_tests, same_from_decides}
use Rattle.std.proofs.lemmas.Slice.Eq.{bytes_eq-Decides}
use Rattle.std.proofs.lemmas.Str.{encodes-chars}
use Rattle.std.specs.Str.{bytes_eq, chars}
use Rattle.std.proofs.lemmas.List.{map-append}
use Rattle.std.specs.Char.Utf16.{utf16_lossy_chars}
use Rattle.xls_stream.specs.StringTable.{Mark}
use Rattle.xls_parts.specs.PartRecords.{Placed}
use Rattle.xls_strings.specs.Texts.{text_of}
use Rattle.xls_text.specs.declared.encoding.XlsEncoding.{XlsEncoding}
use Rattle.xls_other_books.specs.declared.books.Book.{Book as BookFields}
use Rattle.xls_other_books.specs.declared.damage.Damage.{Damage}
use Rattle.xls_other_books.specs.declared.sup_books.Head.{Head as HeadFields}
use Rattle.xls_other_books.specs.Books.{Book, book_view, books_view, is_nothing}
use Rattle.xls_other_books.specs.Names.{Name, names_behind, from_sup_book}
use Rattle.xls_other_books.specs.Strings.{Texts, texts_at, texts_from, next_at, continues, past_continues}
use Rattle.xls_other_books.specs.SupBooks.{head_view, head_of, damage_of, with_names, sup_book, sup_books}

-- texts that were read before others
abbrev pub behind : List (List ℕ) → Texts → Texts
behind texts others = (texts ++ others.0, others.1)

pub texts_more : (total : Texts) (texts new : List (List ℕ)) (text units : List ℕ) (left : ℕ) (ms after : List Mark) → 0 < left
    → behind texts (texts_at left ms) ≡ total → next_at ms ≡ Some (units, after) → text ≡ utf16_lossy_chars units → new ≡ texts ++ text ∷ []
    → behind new (texts_at (left - 1) after) ≡ total
texts_more total texts new text units zero ms after some so_far next is items = absurd (omega arith)
texts_more total texts new text units (suc n) ms after some so_far next is items =
    let rest = texts_at n after in
    let fewer : suc n - 1 ≡ n = omega arith in
    ap (λ (k : ℕ). behind new (texts_at k after)) fewer
    ∙ ap (λ (ts : List (List ℕ)). behind ts rest) (items ∙ ap (λ (t : List ℕ). texts ++ t ∷ []) is)
    ∙ ap (λ (ts : List (List ℕ)). (ts, rest.1)) (append_assoc texts (utf16_lossy_chars units ∷ []) rest.0)
    ∙ sym (ap (λ (x : Option (List ℕ × List Mark)). behind texts (texts_from (λ ms. texts_at n ms) x)) next)
    ∙ so_far

pub texts_short : (total : Texts) (texts : List (List ℕ)) (left : ℕ) (ms : List Mark) → 0 < left
    → behind texts (texts_at left ms) ≡ total → next_at ms ≡ None → (texts, false) ≡ total
texts_short total texts zero ms some so_far none = absurd (omega arith)
texts_short total texts (suc n) ms some so_far none =
    ap (λ (ts : List (List ℕ)). (ts, false)) (sym (append-nil texts))
    ∙ sym (ap (λ (x : Option (List ℕ × List Mark)). behind texts (texts_from (λ ms. texts_at n ms) x)) none)
    ∙ so_far

pub texts_done : (total : Texts) (texts : List (List ℕ)) (left : ℕ) (ms : List Mark) → left ≡ 0
    → behind texts (texts_at left ms) ≡ total → (texts, true) ≡ total
texts_done total texts zero ms z so_far = ap (λ (ts : List (List ℕ)). (ts, true)) (sym (append-nil texts)) ∙ so_far
texts_done total texts (suc n) ms z so_far = absurd (omega arith)

-- ---- records

-- Continue records tell no names
names_test : (page : XlsEncoding) (r : Placed) (rs : List Placed) (is_continue : Bool) → (r.typ == 0x3C) ≡ is_continue
    → names_behind page (past_continues rs) ≡ names_behind page rs → names_behind page (past_continues (r ∷ rs)) ≡ names_behind page (r ∷ rs)
names_test page r rs true e same = let typ : r.typ ≡ 0x3C = grind (arith, nat_tests, e) in rw typ same
names_test page r rs false e same = rw e refl

pub names_past : (page : XlsEncoding) (rs : List Placed) → names_behind page (past_continues rs) ≡ names_behind page rs
names_past page [] = refl
names_past page (r ∷ rs) = names_test page r rs (r.typ == 0x3C) refl (names_past page rs)

pub wanted_names : (nothing wanted : Bool) (names all : List Name) → wanted ≡ not nothing → names ≡ (if wanted then all else []) → names ≡ (if nothing then [] else all)
wanted_names true wanted names all e f = f ∙ ap (λ (b : Bool). if b then all else []) e
wanted_names false wanted names all e f = f ∙ ap (λ (b : Bool). if b then all else []) e

pub book_is : (page : XlsEncoding) (r : Placed) (before left : List Placed) (head : HeadFields) (wanted : Bool) (names : List Name) (damage : Option Damage)
    → head_view head ≡ head_of r.body (continues before) → left ≡ past_continues before → wanted ≡ not (is_nothing head.linked)
    → names ≡ (if wanted then names_behind page left else []) → damage ≡ damage_of r.offset head.flaw
    → record { linked = head.linked; path = text_of head.path; topic = text_of head.topic; sheets = map text_of head.sheets.items; names = names; damage = damage } ≡ sup_book page r before
book_is page r before left head wanted names damage is behind want are hurt =
    let all : names_behind page left ≡ names_behind page before = ap (names_behind page) behind ∙ names_past page before in
    let named = wanted_names (is_nothing head.linked) wanted names (names_behind page before) want (are ∙ ap (λ (ns : List Name). if wanted then ns else []) all) in
    rw (named, hurt) (ap (λ h. with_names page r.offset h before) is)

-- and link nothing, as all up to the next SupBook
past_test : (page : XlsEncoding) (r : Placed) (rs : List Placed) (is_continue : Bool) → (r.typ == 0x3C) ≡ is_continue
    → sup_books page (past_continues rs) ≡ sup_books page rs → sup_books page (past_continues (r ∷ rs)) ≡ sup_books page (r ∷ rs)
past_test page r rs true e same = let typ : r.typ ≡ 0x3C = grind (arith, nat_tests, e) in rw typ same
past_test page r rs false e same = rw e refl

books_past : (page : XlsEncoding) (rs : List Placed) → sup_books page (past_continues rs) ≡ sup_books page rs
books_past page [] = refl
books_past page (r ∷ rs) = past_test page r rs (r.typ == 0x3C) refl (books_past page rs)

from_test : (page : XlsEncoding) (r : Placed) (rs : List Placed) (is_book : Bool) → (r.typ == 0x1AE) ≡ is_book
    → sup_books page (from_sup_book rs) ≡ sup_books page rs → sup_books page (from_sup_book (r ∷ rs)) ≡ sup_books page (r ∷ rs)
from_test page r rs true e same = rw e (rw e refl)
from_test page r rs false e same = rw e same

books_from : (page : XlsEncoding) (rs : List Placed) → sup_books page (from_sup_book rs) ≡ sup_books page rs
books_from page [] = refl
books_from page (r ∷ rs) = from_test page r rs (r.typ == 0x1AE) refl (books_from page rs)

-- one more
pub books_more : (page : XlsEncoding) (r : Placed) (all rs left : List Placed) (books new : List BookFields) (book : BookFields) (total : List Book)
    → all ≡ r ∷ rs → r.typ ≡ 0x1AE → book_view book ≡ sup_book page r rs → left ≡ from_sup_book (past_continues rs) → new ≡ books ++ book ∷ []
    → books_view books ++ sup_books page all ≡ total → books_view new ++ sup_books page left ≡ total
books_more page r all rs left books new book total whole typ is passed items so_far =
    let others : sup_books page left ≡ sup_books page rs = ap (sup_books page) passed ∙ (books_from page (past_continues rs) ∙ books_past page rs) in
    let first : sup_books page all ≡ sup_book page r rs ∷ sup_books page rs = ap (sup_books page) whole ∙ rw typ refl in
    ap (λ (bs : List BookFields). books_view bs ++ sup_books page left) items
    ∙ (ap (λ (bs : List Book). bs ++ sup_books page left) (map-append book_view books (book ∷ []))
    ∙ (append_assoc (books_view books) (book_view book ∷ []) (sup_books page left)
    ∙ (ap (λ (b : Book). books_view books ++ b ∷ sup_books page left) is
    ∙ (ap (λ (bs : List Book). books_view books ++ sup_book page r rs ∷ bs) others
    ∙ (sym (ap (λ (bs : List Book). books_view books ++ bs) first) ∙ so_far)))))

-- fewer records are left
past_shorter : (rs : List Placed) → length (past_continues rs) ≤ length rs
past_shorter [] = omega arith
past_shorter (r ∷ rs) = shorter_if (r.typ == 0x3C) (past_shorter rs)
  where
    shorter_if : (is_continue : Bool) → length (past_continues rs) ≤ length rs → length (if is_continue then past_continues rs else r ∷ rs) ≤ suc (length rs)
    shorter_if true less = omega (arith, less)
    shorter_if false less = omega arith

from_shorter : (rs : List Placed) → length (from_sup_book rs) ≤ length rs
from_shorter [] = omega arith
from_shorter (r ∷ rs) = shorter_if (r.typ == 0x1AE) (from_shorter rs)
  where
    shorter_if : (is_book : Bool) → length (from_sup_book rs) ≤ length rs → length (if is_book then r ∷ rs else from_sup_book rs) ≤ suc (length rs)
    shorter_if true less = omega arith
    shorter_if false less = omega (arith, less)

pub left_shorter : (all rs left : List Placed) (r : Placed) → all ≡ r ∷ rs → left ≡ from_sup_book (past_continues rs) → length left < length all
left_shorter all rs left r whole passed =
    let count : length all ≡ suc (length rs) = ap length whole in
    let same : length left ≡ length (from_sup_book (past_continues rs)) = ap length passed in
    let less = from_shorter (past_continues rs) in
    let fewer = past_shorter rs in
    omega (arith, count, same, less, fewer)

-- ---- paths

-- texts are the same where their characters are
pub same_text : (a b : List ℕ) → IsUtf8 a → IsUtf8 b → bytes_eq a b ≡ bytes_eq (chars a) (chars b)
same_text a b u v =
    same_from_decides {P = a ≡ b} (bytes_eq a b) (bytes_eq (chars a) (chars b)) (bytes_eq-Decides a b)
    (λ t. sym (encodes-chars a u) ∙ (ap encode_utf8_all ((bytes_eq-Decides (chars a) (chars b)).0 t) ∙ encodes-chars b v), λ e. (bytes_eq-Decides (chars a) (chars b)).1 (ap chars e))
