-- What a project answers by its modules' names.
use Rattle.std.specs.Prelude.{◌≡◌, ℕ, List, [], ◌∷◌, map, Contains, Option, Some, None, if◌then◌else◌}
use Rattle.std.specs.Cmp.Lexicographic.{slice_cmp}
use Rattle.std.specs.List.Sorted.{IsStrictlySortedBy}
use Rattle.std.specs.Option.{option_or}
use Rattle.std.specs.Ordering.{nat_cmp}
use Rattle.std.specs.Str.{bytes_eq}
use Rattle.std.specs.String.{string_bytes}
use Rattle.xls_vba.specs.declared.error.VbaError.{VbaError}
use Rattle.xls_vba.specs.declared.error.VbaError.TheVariants as errors
use Rattle.xls_vba.specs.Modules.{Mod}

-- the last module of a name
abbrev pub last_module : List ℕ → List Mod → Option Mod
last_module name [] = None
last_module name (m ∷ ms) =
    option_or (last_module name ms) (if bytes_eq m.name name then Some m else None)

-- no module has the name, unless memory ran out
abbrev pub IsProjectRefusal : List ℕ → List Mod → VbaError → Type 0
IsProjectRefusal name ms errors.Memory = Unit {0}
IsProjectRefusal name ms (errors.ModuleNotFound n) =
    (string_bytes n ≡ name) × (last_module name ms ≡ None)
IsProjectRefusal name ms other = ⊥

abbrev pub module_names : List Mod → List (List ℕ)
module_names = map (λ m. m.name)

-- the names of the modules and no others, each once, in the order of their bytes
pub record AreNames (modules : List Mod) (names : List (List ℕ)) : Type 0 where
  pub ordered : IsStrictlySortedBy (slice_cmp nat_cmp) names
  pub found : (q : List ℕ) → Contains (module_names modules) q → Contains names q
  pub only : (q : List ℕ) → Contains names q → Contains (module_names modules) q
