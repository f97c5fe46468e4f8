-- What the walk over the entries of custom properties has done, from the last entry on.
use Rattle.std.specs.Prelude.{◌≡◌, ℕ, List, Some, None}
use Rattle.std.specs.Option.{option_map}
use Rattle.std.specs.Ordering.{nat_cmp}
use Rattle.std.specs.String.{string_bytes}
use Rattle.std.specs.BTreeMap.{BTreeMap, get}
use Rattle.std.specs.declared.string.String.{String}
use Rattle.xls_props.specs.Entries.{last_of}
use Rattle.xls_props.specs.Names.{Name}
use Rattle.xls_props.specs.Values.{Value}
use Rattle.xls_props.specs.Custom.{last_named, HasLast}

-- the map has the values of the properties ps; each name of the dictionary that they give no value
-- is still there, and no other is
pub record IsWalked {X Y Z : Type 0} (ns : List Name) (ps : List (List ℕ × Value)) (map : BTreeMap (String X) (String Y)) (names : BTreeMap ℕ (String Z)) : Type 0 where
  pub has : HasLast map ps
  pub only : (number : ℕ) (name : List ℕ) → option_map string_bytes (get nat_cmp names number) ≡ Some name → last_of number ns ≡ Some name
  pub left : (number : ℕ) (name : List ℕ) → last_of number ns ≡ Some name → last_named name ps ≡ None
      → option_map string_bytes (get nat_cmp names number) ≡ Some name
