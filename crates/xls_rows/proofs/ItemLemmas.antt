-- Lists that are read item by item.
use Rattle.std.proofs.Common.{◌≡◌, ◌<◌, ◌≤◌, ◌+◌, ℕ, List, [], ◌∷◌, ◌++◌, refl, sym, ap, ◌∙◌, append-nil, Result, Ok, Err, drop, get_or, length, map}
use Rattle.std.proofs.lemmas.List.{drop_all, drop_more, map-id}
use Rattle.xls_rows.specs.declared.error.DeError.{DeError}
use Rattle.xls_rows.specs.Refusals.{Refusal, Gives}
use Rattle.xls_rows.specs.Rows.{all_read}
use Rattle.xls_rows.proofs.ReadLemmas.{following, read_on, read_stops}

-- the cells from one on are that one and those from the next on
from_one : {T C : Type 0} (content : T → C) (cells : List T) (i : ℕ) (t : T) → i < length cells → t ≡ get_or cells i t
    → map content (drop i cells) ≡ content t ∷ map content (drop (i + 1) cells)
from_one content cells i t h e = ap (λ l. map content l) (drop_more cells i t h) ∙ ap (λ y. content y ∷ map content (drop (i + 1) cells)) (sym e)

-- one more of a list was read
pub read_item : {T C X A : Type 0} (content : T → C) (view : X → A) (read : C → Result A Refusal) (acc : List X) (x : X) (cells : List T) (i : ℕ) (t : T) (all : Result (List A) Refusal)
    → i < length cells → t ≡ get_or cells i t → all ≡ following (map view acc) (all_read read (map content (drop i cells))) → Gives view (Ok x) (read (content t))
    → all ≡ following (map view (acc ++ x ∷ [])) (all_read read (map content (drop (i + 1) cells)))
read_item content view read acc x cells i t all h e b g =
    read_on view read acc x (content t) (map content (drop (i + 1) cells)) all (b ∙ ap (λ l. following (map view acc) (all_read read l)) (from_one content cells i t h e)) g

-- one of a list is refused
pub item_stops : {T C X V A : Type 0} (content : T → C) (view : X → A) (whole : V → List A) (read : C → Result A Refusal) (acc : List A) (d : DeError) (cells : List T) (i : ℕ) (t : T)
    (all : Result (List A) Refusal)
    → i < length cells → t ≡ get_or cells i t → all ≡ following acc (all_read read (map content (drop i cells))) → Gives view (Err d) (read (content t)) → Gives whole (Err d) all
item_stops content view whole read acc d cells i t all h e b g =
    read_stops view whole read acc d (content t) (map content (drop (i + 1) cells)) all (b ∙ ap (λ l. following acc (all_read read l)) (from_one content cells i t h e)) g

-- all of a list are read
pub items_end : {T C V A : Type 0} (content : T → C) (whole : V → List A) (read : C → Result A Refusal) (v : V) (cells : List T) (i : ℕ) (all : Result (List A) Refusal)
    → length cells ≤ i → all ≡ following (whole v) (all_read read (map content (drop i cells))) → Gives whole (Ok v) all
items_end content whole read v cells i all h b = rw (b, drop_all i cells h, append-nil) refl

-- one more of a list was read as it is
pub read_same : {T C A : Type 0} (content : T → C) (read : C → Result A Refusal) (acc : List A) (x : A) (cells : List T) (i : ℕ) (t : T) (all : Result (List A) Refusal)
    → i < length cells → t ≡ get_or cells i t → all ≡ following acc (all_read read (map content (drop i cells))) → Gives (λ (a : A). a) (Ok x) (read (content t))
    → all ≡ following (acc ++ x ∷ []) (all_read read (map content (drop (i + 1) cells)))
read_same {A = A} content read acc x cells i t all h e b g =
    read_item content (λ (a : A). a) read acc x cells i t all h e (b ∙ ap (λ l. following l (all_read read (map content (drop i cells)))) (sym (map-id acc))) g
    ∙ ap (λ l. following l (all_read read (map content (drop (i + 1) cells)))) (map-id (acc ++ x ∷ []))
