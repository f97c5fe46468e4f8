-- What another program gives: a path with 03 between the program and a topic ([MS-XLS] VirtualPath). Texts are lists of characters.
use Rattle.std.specs.Prelude.{ℕ, ◌==◌, ◌||◌, not, List, [], ◌∷◌, ◌++◌, map, if◌then◌else◌, nat_lt, Option, Some, None}
use Rattle.std.specs.List.{list_any, before_first, after_first}
use Rattle.std.specs.Str.{chars}
use Rattle.std.specs.String.{string_bytes}
use Rattle.xls_bytes.specs.Characters.{is}
use Rattle.xls_formula_names.specs.Prefixes.{name_text}
use Rattle.xls_formula_names.specs.declared.links.Link.{Link}

-- 03 is written as a bar in a topic
abbrev pub barred_one : ℕ → ℕ
barred_one c = if c == 3 then 0x7C else c

-- the program and the topic; paths that begin with 00, 01 or 02 are of workbooks
abbrev pub link_of : List ℕ → Option (List ℕ × List ℕ)
link_of [] = None
link_of (c ∷ cs) =
    if nat_lt c 3 || not (list_any (is 3) (c ∷ cs)) then None
    else Some (before_first (is 3) (c ∷ cs), map barred_one (after_first (is 3) (c ∷ cs)))

-- both as a struct has them
abbrev pub link_texts : Link → List ℕ × List ℕ
link_texts link = (chars (string_bytes link.app), chars (string_bytes link.topic))

-- `APP|TOPIC`, each with quotes of its own
abbrev pub link_prefix : List ℕ → List ℕ → List ℕ
link_prefix app topic = name_text app ++ (0x7C ∷ name_text topic)
