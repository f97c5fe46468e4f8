-- Steps over the records that say what is referred to.
use Rattle.std.proofs.Common.{◌≡◌, ℕ, suc, ◌<◌, ◌≤◌, List, [], ◌∷◌, ◌++◌, Bool, true, false, length, if◌then◌else◌, ◌==◌, ap, sym, refl, ◌∙◌, arith}
use Rattle.std.proofs.lemmas.Bool.Decides.{nat_tests}
use Rattle.std.proofs.lemmas.List.{map-append}
use Rattle.std.specs.List.{list_any, slice_get}
use Rattle.std.specs.Prelude.{drop, zero, ◌||◌}
use Rattle.std.specs.Str.{bytes_eq}
use Rattle.xls_formula_books.specs.Prefixes.{has_name}
use Rattle.xls_parts.specs.PartRecords.{Placed}
use Rattle.xls_text.specs.declared.encoding.XlsEncoding.{XlsEncoding}
use Rattle.xls_other_books.specs.Strings.{continues, past_continues}
use Rattle.xls_formula_books.specs.declared.sources.Source.{Source as SourceFields}
use Rattle.xls_formula_books.specs.ExternNames.{Name}
use Rattle.xls_formula_books.specs.Lists.{sup_books, with_name}
use Rattle.xls_formula_books.specs.Sources.{Source, source_view, sources_view, with_names}
use Rattle.xls_formula_books.specs.SupBooks.{sup_book}

-- ---- names

with_name_last : (n : Name) (ss : List Source) (s : Source) → with_name n (ss ++ s ∷ []) ≡ ss ++ with_names (s.names ++ n ∷ []) s ∷ []
with_name_last n [] s = refl
with_name_last n (x ∷ []) s = refl
with_name_last n (x ∷ y ∷ ss) s = ap (λ (xs : List Source). x ∷ xs) (with_name_last n (y ∷ ss) s)

-- the last one, taken away and put back with a name more
pub name_added : (n : Name) (old left new : List SourceFields) (s t : SourceFields) → old ≡ left ++ s ∷ []
    → source_view t ≡ with_names ((source_view s).names ++ n ∷ []) (source_view s) → new ≡ left ++ t ∷ []
    → sources_view new ≡ with_name n (sources_view old)
name_added n old left new s t was is items =
    ap sources_view items ∙ map-append source_view left (t ∷ [])
    ∙ ap (λ (x : Source). sources_view left ++ x ∷ []) is
    ∙ sym (ap (λ (xs : List SourceFields). with_name n (sources_view xs)) was
    ∙ ap (with_name n) (map-append source_view left (s ∷ []))
    ∙ with_name_last n (sources_view left) (source_view s))

-- ---- Continue records say nothing here

past_test : (page : XlsEncoding) (ss : List Source) (r : Placed) (rs : List Placed) (is_continue : Bool) → (r.typ == 0x3C) ≡ is_continue
    → sup_books page ss (past_continues rs) ≡ sup_books page ss rs → sup_books page ss (past_continues (r ∷ rs)) ≡ sup_books page ss (r ∷ rs)
past_test page ss r rs true e same = let typ : r.typ ≡ 0x3C = grind (arith, nat_tests, e) in rw typ same
past_test page ss r rs false e same = rw e refl

pub books_past : (page : XlsEncoding) (ss : List Source) (rs : List Placed) → sup_books page ss (past_continues rs) ≡ sup_books page ss rs
books_past page ss [] = refl
books_past page ss (r ∷ rs) = past_test page ss r rs (r.typ == 0x3C) refl (books_past page ss rs)

-- one more
pub book_added : (page : XlsEncoding) (r : Placed) (all rs left : List Placed) (old new : List SourceFields) (s : SourceFields) (total : List Source)
    → all ≡ r ∷ rs → r.typ ≡ 0x1AE → source_view s ≡ sup_book r.body (continues rs) → left ≡ past_continues rs → new ≡ old ++ s ∷ []
    → sup_books page (sources_view old) all ≡ total → sup_books page (sources_view new) left ≡ total
book_added page r all rs left old new s total whole typ is passed items so_far =
    let seen : sources_view new ≡ sources_view old ++ sup_book r.body (continues rs) ∷ [] =
    ap sources_view items ∙ map-append source_view old (s ∷ []) ∙ ap (λ (x : Source). sources_view old ++ x ∷ []) is in
    let first : sup_books page (sources_view old) all ≡ sup_books page (sources_view old ++ sup_book r.body (continues rs) ∷ []) rs =
    ap (sup_books page (sources_view old)) whole ∙ rw typ refl in
    ap (λ (ss : List Source). sup_books page ss left) seen
    ∙ (ap (sup_books page (sources_view old ++ sup_book r.body (continues rs) ∷ [])) passed
    ∙ (books_past page (sources_view old ++ sup_book r.body (continues rs) ∷ []) rs
    ∙ (sym first ∙ so_far)))

past_shorter : (rs : List Placed) → length (past_continues rs) ≤ length rs
past_shorter [] = omega arith
past_shorter (r ∷ rs) = shorter_if (r.typ == 0x3C) (past_shorter rs)
  where
    shorter_if : (is_continue : Bool) → length (past_continues rs) ≤ length rs → length (if is_continue then past_continues rs else r ∷ rs) ≤ suc (length rs)
    shorter_if true less = omega (arith, less)
    shorter_if false less = omega arith

pub left_shorter : (all rs left : List Placed) (r : Placed) → all ≡ r ∷ rs → left ≡ past_continues rs → length left < length all
left_shorter all rs left r whole passed =
    let count : length all ≡ suc (length rs) = ap length whole in
    let same : length left ≡ length (past_continues rs) = ap length passed in
    let fewer = past_shorter rs in
    omega (arith, count, same, fewer)

-- ---- names of sheets

pub any_step : (name : List ℕ) (xs : List (List ℕ)) (i : ℕ) → list_any (bytes_eq name) (drop i xs) ≡ (has_name name (slice_get xs i) || list_any (bytes_eq name) (drop (suc i) xs))
any_step name [] zero = refl
any_step name [] (suc i) = refl
any_step name (x ∷ xs) zero = refl
any_step name (x ∷ xs) (suc i) = any_step name xs i

pub any_end : (name : List ℕ) (xs : List (List ℕ)) (i : ℕ) → length xs ≤ i → list_any (bytes_eq name) (drop i xs) ≡ false
any_end name [] zero few = refl
any_end name [] (suc i) few = refl
any_end name (x ∷ xs) zero few = absurd (omega (arith, few))
any_end name (x ∷ xs) (suc i) few = any_end name xs i (omega (arith, few))
