-- The place of the last sheet of each name.
use Rattle.std.specs.Prelude.{◌≡◌, ℕ, suc, String, List, [], ◌∷◌, if◌then◌else◌, Option, Some, None}
use Rattle.std.specs.Option.{option_map, option_or}
use Rattle.std.specs.String.{string_bytes}
use Rattle.std.specs.Str.{bytes_eq}
use Rattle.std.specs.BTreeMap.{BTreeMap, get_by_text}
use Rattle.xls_data.specs.declared.sheets.Sheet.{Sheet}

-- the place of the last of these sheets that has the name
abbrev pub last_place : List Sheet → List ℕ → Option ℕ
last_place [] name = None
last_place (t ∷ ts) name =
    option_or (option_map suc (last_place ts name)) (if bytes_eq (string_bytes t.name) name then Some 0 else None)

-- the map has for each name the place of its last sheet
abbrev pub IsIndex : {Y : Type 0} → BTreeMap (String Y) ℕ → List Sheet → Type 0
IsIndex m ts = (name : List ℕ) → get_by_text m name ≡ last_place ts name
