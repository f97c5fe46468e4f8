-- The exposed cells of a row, one column after another.
use Rattle.std.proofs.Common.{◌≡◌, ◌∙◌, ℕ, ◌<◌, List, [], ◌∷◌, length, get_or, map, refl, String, Global}
use Rattle.std.specs.Borrow.{Bor}
use Rattle.std.specs.Option.{option_map}
use Rattle.std.specs.String.{string_bytes}
use Rattle.std.specs.Prelude.{All, Option, Some, None, is_some, IfSome, slice_get, Bool, true, false}
use Rattle.std.proofs.lemmas.List.Elements.{All-head, All-tail}
use Rattle.std.proofs.lemmas.Option.{slice_get-map, slice_get-get_or, none-some}
use Rattle.xls_rows.specs.HeaderTexts.{header_texts}
use Rattle.xls_rows.specs.Rows.{exposed_of, header_at, AreWithin, from_filled}

-- an index that is one of a cell, and the others
pub within_rest : {T : Type 0} (headers : Option (List (List ℕ))) (cells : List T) (indexes : List ℕ) (i : ℕ) (is : List ℕ)
    → indexes ≡ i ∷ is → AreWithin headers cells indexes → AreWithin headers cells is
within_rest None cells indexes i is e w = let v = rw e at w in (All-tail (λ k. k < length cells) i is v.0, v.1)
within_rest (Some hs) cells indexes i is e w = let v = rw e at w in (All-tail (λ k. k < length cells) i is v.0, All-tail (λ k. k < length hs) i is v.1)

pub within_first : {T : Type 0} (headers : Option (List (List ℕ))) (cells : List T) (indexes : List ℕ) (i : ℕ) (is : List ℕ)
    → indexes ≡ i ∷ is → AreWithin headers cells indexes → i < length cells
within_first headers cells indexes i is e w = let v = rw e at w in All-head (λ k. k < length cells) i is v.0

-- the cell of the first column, before those of the others
pub exposed_some : {T : Type 0} (headers : Option (List (List ℕ))) (cells : List T) (indexes : List ℕ) (i : ℕ) (is : List ℕ) (x : T)
    → indexes ≡ i ∷ is → slice_get cells i ≡ Some x
    → exposed_of headers cells indexes ≡ record { column = i; header = header_at headers i; value = x } ∷ exposed_of headers cells is
exposed_some headers cells indexes i is x e f = rw (e, f)

-- the first cell is passed over, or it is the one
pub filled_later : {T : Type 0} (empty : T → Bool) (headers : Option (List (List ℕ))) (cells : List T) (indexes : List ℕ) (i : ℕ) (is : List ℕ) (x : T)
    → indexes ≡ i ∷ is → slice_get cells i ≡ Some x → empty x ≡ true
    → from_filled empty (exposed_of headers cells indexes) ≡ from_filled empty (exposed_of headers cells is)
filled_later empty headers cells indexes i is x e f t = rw (e, f, t)

pub filled_here : {T : Type 0} (empty : T → Bool) (headers : Option (List (List ℕ))) (cells : List T) (indexes : List ℕ) (i : ℕ) (is : List ℕ) (x : T)
    → indexes ≡ i ∷ is → slice_get cells i ≡ Some x → empty x ≡ false
    → from_filled empty (exposed_of headers cells indexes) ≡ record { column = i; header = header_at headers i; value = x } ∷ exposed_of headers cells is
filled_here empty headers cells indexes i is x e f t = rw (e, f, t)

-- indexes below a number
pub below_first : (n : ℕ) (indexes : List ℕ) (i : ℕ) (is : List ℕ) → indexes ≡ i ∷ is → All (λ k. k < n) indexes → i < n
below_first n indexes i is e a = let b = rw e at a in All-head (λ k. k < n) i is b

pub below_rest : (n : ℕ) (indexes : List ℕ) (i : ℕ) (is : List ℕ) → indexes ≡ i ∷ is → All (λ k. k < n) indexes → All (λ k. k < n) is
below_rest n indexes i is e a = let b = rw e at a in All-tail (λ k. k < n) i is b

-- the columns after one are columns too
pub within_later : {T : Type 0} (headers : Option (List (List ℕ))) (cells : List T) (indexes is : List ℕ)
    → ((n : ℕ) → All (λ k. k < n) indexes → All (λ k. k < n) is) → AreWithin headers cells indexes → AreWithin headers cells is
within_later None cells indexes is later w = (later (length cells) w.0, w.1)
within_later (Some hs) cells indexes is later w = (later (length cells) w.0, later (length hs) w.1)

-- a column of a header, where there are headers
pub within_header : {T : Type 0} (headers : Option (List (List ℕ))) (cells : List T) (indexes : List ℕ) (i : ℕ)
    → ((n : ℕ) → All (λ k. k < n) indexes → i < n) → AreWithin headers cells indexes → IfSome headers (λ hs. i < length hs)
within_header None cells indexes i below w = tt
within_header (Some hs) cells indexes i below w = below (length hs) w.1

-- the text of a header
pub text_of_header : (hs : List (String Global)) (i : ℕ) → slice_get (map string_bytes hs) i ≡ option_map string_bytes (slice_get hs i)
text_of_header hs i = slice_get-map string_bytes hs i

-- there are texts where there are headers
pub named_texts : (headers : Option (Bor (List (String Global)))) → is_some headers ≡ true → is_some (header_texts headers) ≡ true
named_texts None e = cc
named_texts (Some hs) e = refl

-- a header that is there is found
pub header_there : (r : Option (Bor (List ℕ))) (headers : Option (List (List ℕ))) (i : ℕ) → option_map (λ s. s.now) r ≡ header_at headers i
    → is_some headers ≡ true → IfSome headers (λ hs. i < length hs) → is_some r ≡ true
header_there (Some s) headers i e n w = refl
header_there None None i e n w = n
header_there None (Some hs) i e n w = absurd (none-some (get_or hs i []) (e ∙ slice_get-get_or hs i [] w))
