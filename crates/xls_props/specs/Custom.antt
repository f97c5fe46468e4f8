-- Custom properties: a finite map from names to the values that were given to them last.
use Rattle.std.specs.Prelude.{ℕ, List, [], ◌∷◌, ◌++◌, Option, Some, None, nat_lt, if◌then◌else◌}
use Rattle.std.specs.Option.{option_or}
use Rattle.std.specs.Str.{bytes_eq}
use Rattle.std.specs.BTreeMap.{BTreeMap, get_by_text}
use Rattle.std.specs.declared.string.String.{String}
use Rattle.xls_text.specs.declared.encoding.XlsEncoding.{XlsEncoding}
use Rattle.xls_props.specs.Entries.{Entry, last_of}
use Rattle.xls_props.specs.Names.{Name}
use Rattle.xls_props.specs.Values.{Value, value_at, Shows}

-- a property with a name and a value
abbrev pub named : Option (List ℕ) → Option Value → List (List ℕ × Value)
named (Some name) (Some v) = (name, v) ∷ []
named name v = []

-- the custom property of an entry: each entry but 0 and 1 is a property
abbrev pub custom_of : List Name → XlsEncoding → List ℕ → Entry → List (List ℕ × Value)
custom_of names page s e =
    if nat_lt e.0 2 then [] else named (last_of e.0 names) (value_at page s e.1)

-- those of all entries, in order
abbrev pub customs_of : List Name → XlsEncoding → List ℕ → List Entry → List (List ℕ × Value)
customs_of names page s [] = []
customs_of names page s (e ∷ es) = custom_of names page s e ++ customs_of names page s es

-- the value that was given to a name last
abbrev pub last_named : List ℕ → List (List ℕ × Value) → Option Value
last_named q [] = None
last_named q (p ∷ ps) = option_or (last_named q ps) (if bytes_eq p.0 q then Some p.1 else None)

-- the map has at each name the value that was given to it last, and nothing else
abbrev pub HasLast : {Y Z : Type 0} → BTreeMap (String Y) (String Z) → List (List ℕ × Value)
    → Type 0
HasLast m ps = (q : List ℕ) → Shows (last_named q ps) (get_by_text m q)
