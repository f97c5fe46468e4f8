-- Where the texts of files are written, and which files of a folder are workbooks.
use Rattle.std.specs.Prelude.{◌≡◌, ◌≢◌, ◌⊎◌, ℕ, ◌-◌, ◌==◌, ◌||◌, if◌then◌else◌, slice_index, Bool, List, [], ◌∷◌, ◌++◌, length, drop, map, codes, All, Option, None, Some}
use Rattle.std.specs.Char.{to_ascii_lowercase}
use Rattle.std.specs.List.{flat_map, slice_split}
use Rattle.std.specs.Str.{bytes_eq}

-- ---- the folder for a file's texts

-- the names of a path, which slashes separate
abbrev pub names_in : List ℕ → List (List ℕ)
names_in path = slice_split (λ b. b == 0x2F) path

-- what becomes of a name: an empty one and `.` are left out, and `..` leads nowhere
abbrev pub kept_name : List ℕ → Option (List ℕ)
kept_name name =
    if bytes_eq name [] || bytes_eq name (codes ".") then None
    else if bytes_eq name (codes "..") then Some (codes "__") else Some name

-- it stands after a slash
abbrev pub below : Option (List ℕ) → List ℕ
below None = []
below (Some name) = 0x2F ∷ name

-- what a file is called; `-` is standard input
abbrev pub file_called : List ℕ → List ℕ
file_called file = if bytes_eq file (codes "-") then codes "stdin" else file

-- the names of the file, each after a slash
abbrev pub names_below : List ℕ → List ℕ
names_below file = flat_map (λ name. below (kept_name name)) (names_in (file_called file))

-- a folder beside a file isn't called as the file is
abbrev pub beside : List ℕ → List ℕ
beside [] = []
beside (b ∷ bs) = b ∷ (bs ++ codes ".out")

-- the folder for all, and below it the names of the file
abbrev pub folder_path : List ℕ → List ℕ → List ℕ
folder_path out file = out ++ beside (names_below file)

-- no byte of a name is a slash
abbrev pub HasNoSlash : List ℕ → Type 0
HasNoSlash name = All (λ b. b ≢ 0x2F) name

-- a name that leads neither out of a folder nor to the folder itself
abbrev pub LeadsDown : List ℕ → Type 0
LeadsDown name = (name ≢ []) × (name ≢ codes ".") × (name ≢ codes "..") × HasNoSlash name

-- a path that such names lead to
abbrev pub IsInside : List ℕ → List ℕ → Type 0
IsInside out path = (names : List (List ℕ)) × All LeadsDown names × (path ≡ out ++ flat_map (λ name. 0x2F ∷ name) names)

-- ---- paths in a folder

-- a file in a folder, by its name and its ending
abbrev pub file_path : List ℕ → List ℕ → List ℕ → List ℕ
file_path folder name ending = folder ++ (codes "/" ++ (name ++ (codes "." ++ ending)))

-- whether a path ends with a slash
abbrev pub ends_with_slash : List ℕ → Bool
ends_with_slash path = slice_index path (length path - 1) == 0x2F

-- something in a folder
abbrev pub joined : List ℕ → List ℕ → List ℕ
joined folder name = folder ++ ((if ends_with_slash folder then [] else codes "/") ++ name)

-- ---- workbooks

-- the endings of the names of workbooks
abbrev pub IsEnding : List ℕ → Type 0
IsEnding ending = (ending ≡ codes ".xls") ⊎ ((ending ≡ codes ".xlt") ⊎ ((ending ≡ codes ".xla") ⊎ (ending ≡ codes ".xlw")))

-- a name ends so, in any case
abbrev pub IsWorkbookName : List ℕ → Type 0
IsWorkbookName name = IsEnding (map to_ascii_lowercase (drop (length name - 4) name))
