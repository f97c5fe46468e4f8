-- Lists that grow by one item after another.
use Rattle.std.proofs.Common.{◌≡◌, ℕ, ◌+◌, List, [], ◌∷◌, ◌++◌, map, sym, ap, ◌∙◌, append_assoc, zero-add, length, Result, Ok}
use Rattle.std.specs.List.{range_with_len}
use Rattle.std.proofs.lemmas.List.{map_push}
use Rattle.std.proofs.lemmas.List.FromFn.{length-map-range_with_len, map-range_with_len_more}
use Rattle.xls_record.specs.declared.error.XlsError.{XlsError}
use Rattle.xls_record.specs.Reading.{Adds, results_listed}
use Rattle.xls_record.proofs.ReadingLemmas.{gives-ok}

-- the items so far, and the next one
pub listed_more : {Y : Type 0} (f : ℕ → Y) (now new : List Y) (i : ℕ) (y : Y) → now ≡ map f (range_with_len 0 i) → new ≡ now ++ y ∷ [] → y ≡ f i → new ≡ map f (range_with_len 0 (i + 1))
listed_more {Y} f now new i y so_far push item =
    push ∙ ap (λ (ys : List Y). ys ++ y ∷ []) so_far ∙ ap (λ (z : Y). map f (range_with_len 0 i) ++ z ∷ []) item ∙ sym (map-range_with_len_more f 0 i i (zero-add i))

pub adds_more : {X Y : Type 0} (view : X → Y) (f : ℕ → Y) (old now new : List X) (i : ℕ) (x : X) → Adds view old now (map f (range_with_len 0 i)) → new ≡ now ++ x ∷ [] → view x ≡ f i → Adds view old new (map f (range_with_len 0 (i + 1)))
adds_more {X} view f old now new i x a push item =
    (a.0 ++ x ∷ [], push ∙ ap (λ (xs : List X). xs ++ x ∷ []) a.1 ∙ append_assoc old a.0 (x ∷ []), listed_more f (map view a.0) (map view (a.0 ++ x ∷ [])) i (view x) a.2 (map_push view a.0 x) item)

-- a list of so many items
pub length-listed : {Y : Type 0} (item : ℕ → Y) (count : Result ℕ XlsError) (ys : List Y) → results_listed item count ≡ Ok ys → (n : ℕ) × (count ≡ Ok n) × (n ≡ length ys)
length-listed item count ys e =
    let h = gives-ok (λ n. map item (range_with_len 0 n)) count ys e in
    (h.0, h.1, sym (length-map-range_with_len item 0 h.0) ∙ ap length h.2)
