-- A row as it is read: its exposed cells, in the order of the indexes, and its position.
use Rattle.std.specs.Prelude.{◌≡◌, ◌<◌, ℕ, List, [], ◌∷◌, map, length, drop, Option, Some, None, Result, Ok, Err, OnOk, OnErr, Bool, is_some, if◌then◌else◌, All, IfSome, slice_get}
use Rattle.std.specs.Borrow.{Bor}
use Rattle.xls_data.specs.Content.{Content}
use Rattle.xls_rows.specs.declared.error.DeError.{DeError}
use Rattle.xls_rows.specs.declared.error.DeError.TheVariants.{UnexpectedEndOfRow}
use Rattle.xls_rows.specs.Refusals.{Refusal, Gives}

-- an exposed cell: its column, the column's header where there are headers, and the cell
pub record Exposed (T : Type 0) : Type 0 where
  pub column : ℕ
  pub header : Option (List ℕ)
  pub value : T

-- a row: the exposed cells that are left, the cell that is kept, whether there are headers, and the
-- row's number and the range's first column
pub record Row (T : Type 0) : Type 0 where
  pub exposed : List (Exposed T)
  pub kept : Option T
  pub named : Bool
  pub place : ℕ × ℕ

-- the header of a column
abbrev pub header_at : Option (List (List ℕ)) → ℕ → Option (List ℕ)
header_at None i = None
header_at (Some headers) i = slice_get headers i

-- the cell of a column before the cells that follow
abbrev pub expose : {T : Type 0} → ℕ → Option (List ℕ) → Option T → List (Exposed T)
    → List (Exposed T)
expose i header None rest = rest
expose i header (Some x) rest = record { column = i; header = header; value = x } ∷ rest

-- the cells in the order of the indexes
abbrev pub exposed_of : {T : Type 0} → Option (List (List ℕ)) → List T → List ℕ → List (Exposed T)
exposed_of headers cells [] = []
exposed_of headers cells (i ∷ is) =
    expose i (header_at headers i) (slice_get cells i) (exposed_of headers cells is)

-- the row of given cells, at a place
abbrev pub row_of : {T : Type 0} → Option (List (List ℕ)) → List ℕ → List T → ℕ × ℕ → Row T
row_of headers indexes cells place = record {
  exposed = exposed_of headers cells indexes;
  kept = None;
  named = is_some headers;
  place = place;
}

-- each index is one of a cell, and of a header where there are headers
abbrev pub AreWithin : {T : Type 0} → Option (List (List ℕ)) → List T → List ℕ → Type 0
AreWithin headers cells indexes =
    All (λ i. i < length cells) indexes × IfSome headers (λ hs. All (λ i. i < length hs) indexes)

-- the cells from the first on that is not empty
abbrev pub from_filled : {T : Type 0} → (T → Bool) → List (Exposed T) → List (Exposed T)
from_filled empty [] = []
from_filled empty (e ∷ es) = if empty e.value then from_filled empty es else e ∷ es

-- the first of them as the cell to keep, or else the one that is kept
abbrev pub first_or : {T : Type 0} → Option T → List (Exposed T) → Option T
first_or kept [] = kept
first_or kept (e ∷ es) = Some e.value

-- the first header and the first cell
abbrev pub first_header : {T : Type 0} → List (Exposed T) → Option (List ℕ)
first_header [] = None
first_header (e ∷ es) = e.header

abbrev pub first_value : {T : Type 0} → List (Exposed T) → Option T
first_value [] = None
first_value (e ∷ es) = Some e.value

-- the row after a cell was taken, and after a key was
abbrev pub after_cell : {T : Type 0} → Row T → Row T
after_cell row = record row { exposed = drop 1 row.exposed }

abbrev pub after_key : {T : Type 0} → (T → Bool) → Row T → Row T
after_key empty row = record row {
  exposed = drop 1 (from_filled empty row.exposed);
  kept = first_or row.kept (from_filled empty row.exposed);
}

-- the kept cell, or the end of the row
abbrev pub kept_or_end : {T : Type 0} → ℕ × ℕ → Option T → Result T DeError
kept_or_end place (Some x) = Ok x
kept_or_end place None = Err (UnexpectedEndOfRow place)

-- an answer with what a reference points to
abbrev pub ok_copied : {T E : Type 0} → Result (Bor T) E → Result T E
ok_copied (Ok x) = Ok x.now
ok_copied (Err e) = Err e

-- the contents of exposed cells
abbrev pub contents_of : {T : Type 0} → (T → Content) → List (Exposed T) → List Content
contents_of content exposed = map (λ e. content e.value) exposed

-- the answer of one cell before those of the others: the first refusal counts
abbrev pub and_then_others : {A : Type 0} → Result A Refusal → Result (List A) Refusal
    → Result (List A) Refusal
and_then_others (Err r) others = Err r
and_then_others (Ok x) (Err r) = Err r
and_then_others (Ok x) (Ok xs) = Ok (x ∷ xs)

-- the answers of all cells, or the first refusal
abbrev pub all_read : {C A : Type 0} → (C → Result A Refusal) → List C → Result (List A) Refusal
all_read read [] = Ok []
all_read read (c ∷ cs) = and_then_others (read c) (all_read read cs)

-- the answer is that of all exposed cells, or the first refusal; after an answer nothing is left,
-- after a refusal the row is as it was
pub record ReadsRow {T A B : Type 0} (view : A → List B)
    (read : ℕ × ℕ → Content → Result B Refusal) (content : T → Content)
    (old : Row T) (result : Result A DeError) (new : Row T) : Type 0 where
  pub gives : Gives view result (all_read (read old.place) (contents_of content old.exposed))
  pub ok : OnOk result (new ≡ record old { exposed = [] })
  pub err : OnErr result (new ≡ old)
