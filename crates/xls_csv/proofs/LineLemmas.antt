-- A row of CSV, byte by byte and field by field.
use Rattle.std.proofs.Common.{◌≡◌, ℕ, suc, ◌+◌, ◌<◌, ◌≤◌, Bool, true, false, List, [], ◌∷◌, ◌++◌, length, drop, get_or, append_assoc, drop-cons, refl, sym, ap, ◌∙◌, arith}
use Rattle.std.specs.Prelude.{◌==◌, if◌then◌else◌}
use Rattle.std.proofs.lemmas.List.{append-nil, length-append}
use Rattle.std.proofs.Math.ListN.{drop_of_length-le}
use Rattle.csv.specs.Writing.{default_writer, escaped, field_text, fields_text, is_blank, row_body, row_text}
use Rattle.xls_csv.specs.Boxes.{row_end}

-- ---- bytes between quotes

pub escaped-cons : (b : ℕ) (bs : List ℕ)
    → escaped default_writer (b ∷ bs) ≡ escaped default_writer (b ∷ []) ++ escaped default_writer bs
unfolding escaped
escaped-cons b bs = by_test (b == 0x22)
  where
    by_test : (t : Bool)
        → (if t then 34 ∷ b ∷ escaped default_writer bs else b ∷ escaped default_writer bs)
        ≡ (if t then 34 ∷ b ∷ [] else b ∷ []) ++ escaped default_writer bs
    by_test true = refl
    by_test false = refl

pub escaped_quote : escaped default_writer (34 ∷ []) ≡ 34 ∷ 34 ∷ []
unfolding escaped
escaped_quote = refl

pub escaped_other : (b : ℕ) → (b == 0x22) ≡ false → escaped default_writer (b ∷ []) ≡ b ∷ []
unfolding escaped
escaped_other b e = rw e refl

-- the next byte of a field, and those after it
pub quoted_more : (bytes whole text : List ℕ) (i : ℕ) → i < length text
    → bytes ++ (escaped default_writer (drop i text) ++ 34 ∷ []) ≡ whole
    → (bytes ++ escaped default_writer (get_or text i 0 ∷ [])) ++ (escaped default_writer (drop (i + 1) text) ++ 34 ∷ []) ≡ whole
quoted_more bytes whole text i l h =
    let next : i + 1 ≡ suc i = omega arith in
    let split : drop i text ≡ get_or text i 0 ∷ drop (i + 1) text = rw next (drop-cons text i 0 l) in
    let first = escaped default_writer (get_or text i 0 ∷ []) in
    let others = escaped default_writer (drop (i + 1) text) in
    let here : bytes ++ ((first ++ others) ++ 34 ∷ []) ≡ whole =
    rw (split, escaped-cons (get_or text i 0) (drop (i + 1) text)) at h in
    append_assoc bytes first (others ++ 34 ∷ []) ∙ ap (λ (t : List ℕ). bytes ++ t) (sym (append_assoc first others (34 ∷ []))) ∙ here

pub quoted_end : (bytes whole text : List ℕ) (i : ℕ) → length text ≤ i
    → bytes ++ (escaped default_writer (drop i text) ++ 34 ∷ []) ≡ whole → bytes ++ 34 ∷ [] ≡ whole
unfolding escaped
quoted_end bytes whole text i l h =
    let none : drop i text ≡ [] = drop_of_length-le text l in
    rw none at h

-- ---- the end of a row

-- no field shows a byte exactly where the row has none
blank_row : (fields : List (List ℕ)) → is_blank default_writer fields ≡ (length (row_body default_writer fields) == 0)
unfolding is_blank fields_text
blank_row [] = refl
blank_row (f ∷ []) = rw (append-nil (field_text default_writer f)) refl
blank_row (f ∷ g ∷ fs) =
    let others = 44 ∷ (field_text default_writer g ++ fields_text default_writer fs) in
    let size : length (field_text default_writer f ++ others) ≡ length (field_text default_writer f) + length others = length-append (field_text default_writer f) others in
    grind (arith, size)

-- the fields of a row and its end are the row
pub row_ended : (fields : List (List ℕ))
    → row_body default_writer fields ++ row_end (length (row_body default_writer fields) == 0) ≡ row_text default_writer fields
row_ended fields = rw (blank_row fields) refl
