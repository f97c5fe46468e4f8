-- Calls of an iterator from both ends, in any order.
use Rattle.std.specs.Prelude.{◌≡◌, List, [], ◌∷◌, ◌++◌, Option, Some, None}
use Rattle.std.specs.Iterator.{YieldsFirstBy, YieldsLastBy}

-- a call and its answer
pub data Call (A : Type 0) : Type 0 where
  Next : Option A → Call A
  NextBack : Option A → Call A

-- what an answer shows
abbrev pub list_of_option : {A B : Type 0} → (A → B) → Option A → List B
list_of_option view None = []
list_of_option view (Some x) = view x ∷ []

-- the items that `next` gave, in order
abbrev pub from_start : {A B : Type 0} → (A → B) → List (Call A) → List B
from_start view [] = []
from_start view (Next answer ∷ calls) = list_of_option view answer ++ from_start view calls
from_start view (NextBack answer ∷ calls) = from_start view calls

-- the items that `next_back` gave, the last one first
abbrev pub from_end : {A B : Type 0} → (A → B) → List (Call A) → List B
from_end view [] = []
from_end view (Next answer ∷ calls) = from_end view calls
from_end view (NextBack answer ∷ calls) = from_end view calls ++ list_of_option view answer

-- the calls lead from one state to another, where `rest` says which items are left
abbrev pub Leads : {S A B : Type 0} → (A → B) → (S → List B) → S → List (Call A) → S → Type 0
Leads view rest s [] t = s ≡ t
Leads {S} view rest s (Next answer ∷ calls) t =
    (mid : S) × YieldsFirstBy view rest s answer mid × Leads view rest mid calls t
Leads {S} view rest s (NextBack answer ∷ calls) t =
    (mid : S) × YieldsLastBy view rest s answer mid × Leads view rest mid calls t

-- each item comes once: those from the start, those that are left, and those from the end are all
-- items in order
abbrev pub EachOnce : {S : Type 0} {A : Type 0} {B : Type 0} → (A → B) → (S → List B) → Type 0
EachOnce {S} {A} view rest =
    (s t : S) (calls : List (Call A)) → Leads view rest s calls t
    → rest s ≡ from_start view calls ++ (rest t ++ from_end view calls)
