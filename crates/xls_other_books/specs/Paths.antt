-- The path of what is linked ([MS-XLS] VirtualPath, 2.5.277), by its characters.
use Rattle.std.specs.Prelude.{◌≡◌, ℕ, List, [], ◌∷◌, ◌++◌, codes, Bool, false, ◌||◌, nat_lt, ◌==◌, if◌then◌else◌}
use Rattle.std.specs.List.{list_any, before_first, after_first}
use Rattle.std.specs.Str.{chars}
use Rattle.xls_bytes.specs.Characters.{is}
use Rattle.xls_strings.specs.Texts.{text_of}
use Rattle.xls_other_books.specs.declared.books.Linked.{Linked}
use Rattle.xls_other_books.specs.declared.books.Linked.TheVariants as links
use Rattle.xls_other_books.specs.declared.paths.Target.{Target as TargetFields}

-- ---- a coded path

-- what stands for 1 and the character behind it: a computer of the network, or a drive
abbrev pub volume : ℕ → List ℕ
volume letter = if letter == 0x40 then codes "\\\\" else letter ∷ codes ":\\"

-- what stands for another character: a separator, the folder above, or itself
abbrev pub plain : ℕ → List ℕ
plain c = if c == 2 || c == 3 then codes "\\" else if c == 4 then codes "..\\" else c ∷ []

-- what stands behind 5 and one character stands for itself
abbrev pub decoded : List ℕ → List ℕ
decoded [] = []
decoded (c ∷ []) = if c == 1 || c == 5 then [] else plain c
decoded (c ∷ d ∷ cs) = if c == 1 then volume d ++ decoded cs else if c == 5 then cs else plain c ++ decoded (d ∷ cs)

-- the folder that the first character stands for, and what is left of the path
abbrev pub decoded_path : List ℕ → List ℕ
decoded_path [] = []
decoded_path (c ∷ cs) =
    if c == 6 then codes "<startup>\\" ++ decoded cs
    else if c == 7 then codes "<alternate startup>\\" ++ decoded cs
    else if c == 8 then codes "<library>\\" ++ decoded cs
    else decoded (c ∷ cs)

-- ---- what a path tells

-- the kind of what is linked, its path and its topic
pub record Target : Type 0 where
  pub linked : Linked
  pub path : List ℕ
  pub topic : List ℕ

abbrev pub book : List ℕ → Target
book path = record { linked = links.Book; path = path; topic = [] }

-- 0 or 2 alone is this workbook, a blank alone is nothing
abbrev pub is_nothing : List ℕ → Bool
is_nothing [] = false
is_nothing (c ∷ []) = c == 0 || c == 2 || c == 0x20
is_nothing (c ∷ d ∷ cs) = false

abbrev pub nothing : Target
nothing = record { linked = links.Nothing; path = []; topic = [] }

-- a program before the first 3, its topic behind it; else a workbook
abbrev pub plain_target : List ℕ → Target
plain_target path =
    if list_any (is 3) path
    then record { linked = links.Program; path = before_first (is 3) path; topic = after_first (is 3) path }
    else book path

-- a path is coded behind 0 or 1
abbrev pub target_of : List ℕ → Target
target_of [] = plain_target []
target_of (c ∷ cs) =
    if is_nothing (c ∷ cs) then nothing
    else if nat_lt c 2 then book (decoded_path cs)
    else plain_target (c ∷ cs)

-- ---- for the contracts

abbrev pub target_view : TargetFields → Target
target_view t = record { linked = t.linked; path = text_of t.path; topic = text_of t.topic }

-- a text went on by what some characters stand for, of which these bytes are left
pub record Advances (cs old left new : List ℕ) : Type 0 where
  pub same : new ++ decoded (chars left) ≡ old ++ decoded cs
