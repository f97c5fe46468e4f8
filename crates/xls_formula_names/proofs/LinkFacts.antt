-- Known links to other programs, so that a wrong rule does not check.
use Rattle.std.proofs.Common.{◌≡◌, [], ◌∷◌, ◌++◌, map, refl, codes, Some, None}
use Rattle.xls_formula_names.specs.Links.{link_of, link_prefix}

pub known_links : map link_of (
    (codes "WinWord" ++ 3 ∷ codes "C:\\a.doc") ∷ (codes "App" ++ (3 ∷ (codes "a" ++ (3 ∷ codes "b")))) ∷ (3 ∷ codes "t") ∷ (codes "A" ++ (3 ∷ [])) ∷ (4 ∷ 3 ∷ []) ∷ [])
    ≡ Some (codes "WinWord", codes "C:\\a.doc") ∷ Some (codes "App", codes "a|b") ∷ Some ([], codes "t") ∷ Some (codes "A", []) ∷ Some (4 ∷ [], []) ∷ []
known_links = refl

-- paths of workbooks, and texts without 03
pub known_no_links : map link_of ([] ∷ (0 ∷ 3 ∷ []) ∷ (1 ∷ (codes "d" ++ (3 ∷ codes "b.xls"))) ∷ (2 ∷ 3 ∷ []) ∷ codes "b.xls" ∷ codes " " ∷ [])
    ≡ None ∷ None ∷ None ∷ None ∷ None ∷ None ∷ []
known_no_links = refl

pub known_prefixes : link_prefix (codes "WinWord") (codes "C:\\a.doc") ∷ link_prefix (codes "App") (codes "Topic") ∷ link_prefix (codes "it's") (codes "a|b") ∷ link_prefix [] [] ∷ []
    ≡ codes "WinWord|'C:\\a.doc'" ∷ codes "App|Topic" ∷ codes "'it''s'|'a|b'" ∷ codes "''|''" ∷ []
known_prefixes = refl
