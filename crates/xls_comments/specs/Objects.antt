-- The texts of objects ([MS-XLS] Obj, TxO). A TxO belongs to the last Obj before it, if no other TxO
-- came in between; its text stands in the Continue records directly behind it.
use Rattle.std.specs.Prelude.{ℕ, List, [], ◌∷◌, length, Bool, false, not, ◌&&◌, ◌==◌, if◌then◌else◌, Option, Some, None}
use Rattle.xls_stream.specs.declared.types.TheConstants.{CONTINUE}
use Rattle.xls_parts.specs.PartRecords.{Placed}
use Rattle.xls_comments.specs.declared.types.TheConstants.{OBJ, TXO}
use Rattle.xls_comments.specs.Fields.{identifier_at, end_of}

-- what the records say of the object of an identifier: there is none; none of its own is there; or the body of its
-- TxO and the pieces of its text
pub data Found : Type 0 where
  NoObject : Found
  NoText : Found
  HasText : List ℕ → List (List ℕ) → Found

-- a piece is a Continue that isn't empty
abbrev pub is_piece : Placed → Bool
is_piece r = r.typ == CONTINUE && not (length r.body == 0)

-- the pieces that stand one directly behind the other from a place on, up to the first record that is none
abbrev pub pieces : ℕ → List Placed → List (List ℕ)
pieces place [] = []
pieces place (r ∷ rs) = if is_piece r && r.offset == place then r.body ∷ pieces (end_of r) rs else []

-- the text of the object whose Obj stands before these records: the first TxO before the next Obj
abbrev pub text_in : List Placed → Found
text_in [] = NoText
text_in (r ∷ rs) =
    if r.typ == OBJ then NoText
    else if r.typ == TXO then HasText r.body (pieces (end_of r) rs)
    else text_in rs

-- a record that is an Obj of an identifier
abbrev pub is_some_of : ℕ → Option ℕ → Bool
is_some_of id None = false
is_some_of id (Some other) = other == id

abbrev pub is_object : ℕ → Placed → Bool
is_object id r = r.typ == OBJ && is_some_of id (identifier_at r.body)

-- of the Objs of an identifier the last counts, even without a text; before says what is known where none comes
abbrev pub object_from : Found → ℕ → List Placed → Found
object_from before id [] = before
object_from before id (r ∷ rs) = object_from (if is_object id r then text_in rs else before) id rs

-- what all records say of it
abbrev pub object_in : List Placed → ℕ → Found
object_in records id = object_from NoObject id records
