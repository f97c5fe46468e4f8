-- For the proofs: what is known while the records are read.
use Rattle.std.specs.Prelude.{◌≡◌, ℕ, ◌+◌, ◌-◌, ◌≤◌, List, [], ◌∷◌, drop, length, Bool, false, true, ◌⊎◌, ◌==◌, if◌then◌else◌, Option, Some, None}
use Rattle.xls_parts.specs.PartRecords.{Placed, records_at, records_within, outer_from, own_from}
use Rattle.xls_text.specs.declared.encoding.XlsEncoding.{XlsEncoding}
use Rattle.xls_comments.specs.Biff5.{Rest, goes_on, rest_of, note_5, notes_5, items_5}
use Rattle.xls_comments.specs.Biff8.{note_8, notes_8}
use Rattle.xls_comments.specs.Objects.{Found, NoObject, NoText, HasText, is_piece, is_some_of, text_in, object_from, object_in}

-- the pieces that some records begin with
abbrev pub leading_pieces : List Placed → List (List ℕ)
leading_pieces [] = []
leading_pieces (r ∷ rs) = if is_piece r then r.body ∷ leading_pieces rs else []

-- the text whose TxO is the first of some records
abbrev pub text_first : List Placed → Found
text_first [] = NoText
text_first (r ∷ rs) = HasText r.body (leading_pieces rs)

-- the records of the stream from a place in a part on, where the part stands at this offset
abbrev pub records_behind : ℕ → List ℕ → ℕ → List Placed
records_behind offset part place = records_at place (drop (place - offset) part)

abbrev pub text_at : ℕ → List ℕ → ℕ → Found
text_at offset part place = text_first (records_behind offset part place)

-- what is kept of an identifier: whether it has an object, and the place of that object's TxO
abbrev pub found_at : (ℕ → Found) → Option (Option ℕ) → Found
found_at at None = NoObject
found_at at (Some None) = NoText
found_at at (Some (Some place)) = at place

-- what is known of an identifier before these records, where the last Obj had this one and no TxO stood behind it yet
abbrev pub found_before : (ℕ → Found) → Option ℕ → (ℕ → Option (Option ℕ)) → List Placed → ℕ → Found
found_before at last kept left id = if is_some_of id last then text_in left else found_at at (kept id)

-- what is kept where this is put under an identifier, if there is one
abbrev pub put_at : (ℕ → Option (Option ℕ)) → Option ℕ → Option ℕ → ℕ → Option (Option ℕ)
put_at kept None place id = kept id
put_at kept (Some other) place id = if other == id then Some place else kept id

pub record AreKnown (at : ℕ → Found) (all left : List Placed) (last : Option ℕ) (kept : ℕ → Option (Option ℕ)) : Type 0 where
  pub each : (id : ℕ) → object_from (found_before at last kept left id) id left ≡ object_in all id
  pub begun : (id : ℕ) → last ≡ Some id → kept id ≡ Some None

-- these records are the last ones of a sheet's own
pub record AreLast (offset : ℕ) (part : List ℕ) (left : List Placed) : Type 0 where
  pub skipped : ℕ
  pub inside : Bool
  pub depth : ℕ
  pub most : ℕ
  pub enough : length (drop skipped part) ≤ most
  pub are : left ≡ own_from inside (outer_from depth (records_within most (offset + skipped) (drop skipped part)))

-- the first Note of some records was taken, with what stands before it
abbrev pub NextNote : List Placed → Option Placed → List Placed → Type 0
NextNote before None after = ((found : ℕ → Found) → notes_8 found before ≡ []) × (after ≡ [])
NextNote before (Some r) after = (found : ℕ → Found) → notes_8 found before ≡ note_8 found r ∷ notes_8 found after

-- the first record was taken, if it goes on with a text
abbrev pub TakesRest : Rest → List Placed → Option Placed → List Placed → Type 0
TakesRest rest before None after =
    ((before ≡ []) × (after ≡ []))
    ⊎ ((r : Placed) × (rs : List Placed) × (before ≡ r ∷ rs) × (after ≡ before) × (goes_on rest r ≡ false))
TakesRest rest before (Some r) after = (before ≡ r ∷ after) × (goes_on rest r ≡ true)

-- the first Note of some records was taken, with what stands before it, where none of them goes on with a text
abbrev pub NextLone : List Placed → Option Placed → List Placed → Type 0
NextLone before None after = ((page : XlsEncoding) → items_5 page before ≡ []) × (after ≡ [])
NextLone before (Some r) after = (page : XlsEncoding) → items_5 page before ≡ note_5 page r after ∷ notes_5 page (rest_of r) after
