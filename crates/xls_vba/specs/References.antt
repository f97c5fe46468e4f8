-- References, read off the items between two names.
use Rattle.std.specs.Prelude.{ℕ, List, [], ◌∷◌, ◌++◌, map, Option, Some, None}
use Rattle.std.specs.String.{string_bytes}
use Rattle.xls_vba.specs.declared.references.Reference.{Reference}
use Rattle.xls_vba.specs.Libids.{Said}
use Rattle.xls_vba.specs.Items as items

-- a name, a description and a path, each a text
pub record Ref : Type 0 where
  pub name : List ℕ
  pub description : List ℕ
  pub path : List ℕ

-- a reference as the code has it
abbrev pub reference_view : Reference → Ref
reference_view r = record {
  name = string_bytes r.name;
  description = string_bytes r.description;
  path = string_bytes r.path;
}

abbrev pub reference_views : List Reference → List Ref
reference_views = map reference_view

-- before the first name
abbrev pub nameless : Ref
nameless = record { name = []; description = []; path = [] }

-- a new reference: the description equal to the name, and no path
abbrev pub begun : List ℕ → Ref
begun name = record { name = name; description = name; path = [] }

-- the path that is there, or else another
abbrev pub path_or : List ℕ → List ℕ → List ℕ
path_or [] other = other
path_or (c ∷ cs) other = c ∷ cs

-- a libid changes the description, and the path if that is still empty
abbrev pub after_libid : Option Said → Ref → Ref
after_libid None r = r
after_libid (Some said) r =
    record { name = r.name; description = said.1; path = path_or r.path said.0 }

abbrev pub with_path : List ℕ → Ref → Ref
with_path path r = record { name = r.name; description = r.description; path = path }

-- a reference without a name isn't listed
abbrev pub listed_by : List ℕ → Ref → List Ref
listed_by [] r = []
listed_by (c ∷ cs) r = r ∷ []

abbrev pub listed : Ref → List Ref
listed r = listed_by r.name r

-- the references of items, from one that is begun: each is listed where the next name or the end
-- comes
abbrev pub references_from : Ref → List items.Element → List Ref
references_from r [] = listed r
references_from r (items.named name ∷ es) = listed r ++ references_from (begun name) es
references_from r (items.registered libid ∷ es) = references_from (after_libid libid r) es
references_from r (items.control first second ∷ es) =
    references_from (after_libid second (after_libid first r)) es
references_from r (items.project path ∷ es) = references_from (with_path path r) es

-- the references of all items
abbrev pub references_of : List items.Element → List Ref
references_of = references_from nameless

-- those that are listed, and those of more items
abbrev pub all_with : List Ref → Ref → List items.Element → List Ref
all_with prefix r more = prefix ++ references_from r more
