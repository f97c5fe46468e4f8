-- The folder for a file's texts lies inside the folder for all.
use Rattle.std.proofs.Common.{◌≡◌, ◌≢◌, ℕ, suc, ◌+◌, ◌≤◌, Bool, true, false, List, [], ◌∷◌, ◌++◌, length, take, map, Bor, codes, append_assoc, append-nil, length-append, ◌∙◌, lit≤, refl, sym, ap, subst, arith, rules}
use Rattle.std.specs.Prelude.{◌==◌, ◌||◌, if◌then◌else◌, All, Option, None, Some, IfOk, IfSome, Result, Ok, Err}
use Rattle.std.specs.List.{AllByRecursion, flat_map, onto_first}
use Rattle.std.specs.Str.{bytes_eq}
use Rattle.std.proofs.lemmas.List.{take_all}
use Rattle.std.proofs.lemmas.Grind.{flat_map-append}
use Rattle.std.proofs.lemmas.List.Elements.{All-append, All-nil, All-cons}
use Rattle.std.proofs.lemmas.List.Folds.{flat_map-map}
use Rattle.std.proofs.lemmas.Slice.Eq.{bytes_eq-Decides}
use Rattle.xls_files.specs.Paths.{HasNoSlash, IsInside, LeadsDown, below, beside, file_called, file_path, folder_path, kept_name, names_below, names_in}

-- what the loop appended
pub folder_whole : (out file path : List ℕ) (names : List (Bor (List ℕ))) (index : ℕ)
    → map (λ n. n.now) names ≡ names_in (file_called file) → length names ≤ index
    → path ≡ out ++ flat_map (λ n. below (kept_name n.now)) (take index names) → path ≡ out ++ names_below file
folder_whole out file path names index e l h =
    rw (h, take_all index names l, ← flat_map-map (λ name. below (kept_name name)) (λ (n : Bor (List ℕ)). n.now) names, e) refl

onto : (b : ℕ) (parts : List (List ℕ)) → b ≢ 47 → AllByRecursion HasNoSlash parts → AllByRecursion HasNoSlash (onto_first b parts)
onto b [] other all = (All-cons (λ c. c ≢ 47) b [] other (All-nil (λ c. c ≢ 47)), tt)
onto b (part ∷ parts) other all = (All-cons (λ c. c ≢ 47) b part other all.0, all.1)

names_without_slash : (path : List ℕ) → AllByRecursion HasNoSlash (names_in path)
names_without_slash [] = (All-nil (λ c. c ≢ 47), tt)
names_without_slash (b ∷ bs) = by_test (b == 0x2F) refl (names_without_slash bs)
  where
    by_test : (t : Bool) → (b == 0x2F) ≡ t → AllByRecursion HasNoSlash (names_in bs)
        → AllByRecursion HasNoSlash (if t then [] ∷ names_in bs else onto_first b (names_in bs))
    by_test true e all = (All-nil (λ c. c ≢ 47), all)
    by_test false e all = onto b (names_in bs) (grind arith) all

-- a name that is kept leads down
kept_down : (name : List ℕ) → HasNoSlash name → IfSome (kept_name name) LeadsDown
kept_down name free = by_tests (bytes_eq name []) (bytes_eq name (codes ".")) (bytes_eq name (codes "..")) refl refl refl
  where
    by_tests : (empty dot dots : Bool) → bytes_eq name [] ≡ empty → bytes_eq name (codes ".") ≡ dot → bytes_eq name (codes "..") ≡ dots
        → IfSome (if empty || dot then None else if dots then Some (codes "__") else Some name) LeadsDown
    by_tests true dot dots e f g = tt
    by_tests false true dots e f g = tt
    by_tests false false true e f g = search rules
    by_tests false false false e f g = (search (rules, bytes_eq-Decides), search (rules, bytes_eq-Decides), search (rules, bytes_eq-Decides), free)

-- all that is kept of names leads down
kept_names : (parts : List (List ℕ)) → AllByRecursion HasNoSlash parts
    → (names : List (List ℕ)) × AllByRecursion LeadsDown names
    × (flat_map (λ name. below (kept_name name)) parts ≡ flat_map (λ name. 47 ∷ name) names)
kept_names [] all = ([], tt, refl)
kept_names (part ∷ parts) all = by_kept (kept_name part) (kept_down part all.0) (kept_names parts all.1)
  where
    by_kept : (kept : Option (List ℕ)) → IfSome kept LeadsDown
        → ((names : List (List ℕ)) × AllByRecursion LeadsDown names
        × (flat_map (λ name. below (kept_name name)) parts ≡ flat_map (λ name. 47 ∷ name) names))
        → (names : List (List ℕ)) × AllByRecursion LeadsDown names
        × (below kept ++ flat_map (λ name. below (kept_name name)) parts ≡ flat_map (λ name. 47 ∷ name) names)
    by_kept None down rest = rest
    by_kept (Some name) down rest = (name ∷ rest.0, (down, rest.1), ap (λ t. (47 ∷ name) ++ t) rest.2)

-- ---- a file in a folder

-- a name with an ending of two letters or more leads down
leads_down : (name ending : List ℕ) → HasNoSlash name → HasNoSlash ending → 2 ≤ length ending → LeadsDown (name ++ 46 ∷ ending)
leads_down name ending free free' long =
    let whole : length (name ++ 46 ∷ ending) ≡ length name + suc (length ending) = length-append name (46 ∷ ending) in (
      λ e. let none : length (name ++ 46 ∷ ending) ≡ 0 = ap length e in omega (arith, whole, none, long),
      λ e. let one : length (name ++ 46 ∷ ending) ≡ 1 = ap length e in omega (arith, whole, one, long),
      λ e. let two : length (name ++ 46 ∷ ending) ≡ 2 = ap length e in omega (arith, whole, two, long),
      All-append (λ b. b ≢ 47) name (46 ∷ ending) free (All-cons (λ b. b ≢ 47) 46 ending (search rules) free'),
    )

-- the last of names with an ending of its own
ended_names : (first : List ℕ) (names : List (List ℕ)) → LeadsDown first → AllByRecursion LeadsDown names
    → (ended : List (List ℕ)) × All LeadsDown ended
    × (flat_map (λ name. 47 ∷ name) (first ∷ names) ++ codes ".out" ≡ flat_map (λ name. 47 ∷ name) ended)
ended_names first [] down all =
    let last : LeadsDown (first ++ codes ".out") = leads_down first (codes "out") down.3 (search rules) (lit≤ tt) in
    ((first ++ codes ".out") ∷ [], All-cons LeadsDown _ [] last (All-nil LeadsDown), simp (append_assoc, append-nil) refl)
ended_names first (second ∷ names) down all =
    let others = ended_names second names all.0 all.1 in (
      first ∷ others.0,
      All-cons LeadsDown first others.0 down others.1,
      append_assoc (47 ∷ first) (flat_map (λ name. 47 ∷ name) (second ∷ names)) (codes ".out") ∙ ap (λ t. (47 ∷ first) ++ t) others.2,
    )

beside_names : (names : List (List ℕ)) → AllByRecursion LeadsDown names
    → (ended : List (List ℕ)) × All LeadsDown ended
    × (beside (flat_map (λ name. 47 ∷ name) names) ≡ flat_map (λ name. 47 ∷ name) ended)
beside_names [] all = ([], All-nil LeadsDown, refl)
beside_names (first ∷ names) all = ended_names first names all.0 all.1

pub folder_inside : (out file : List ℕ) → IsInside out (folder_path out file)
folder_inside out file =
    let kept = kept_names (names_in (file_called file)) (names_without_slash (file_called file)) in
    let ended = beside_names kept.0 kept.1 in
    (ended.0, ended.1, ap (λ t. out ++ t) (ap beside kept.2 ∙ ended.2))

-- it lies where the folder does
pub file_inside : (out folder name ending : List ℕ) → IsInside out folder → HasNoSlash name → HasNoSlash ending → 2 ≤ length ending
    → IsInside out (file_path folder name ending)
file_inside out folder name ending (names, down, is) free free' long =
    let last = name ++ 46 ∷ ending in
    let path : file_path folder name ending ≡ out ++ flat_map (λ n. 47 ∷ n) (names ++ last ∷ []) =
    rw (is, flat_map-append (λ n. 47 ∷ n) names (last ∷ [])) (simp (append_assoc, append-nil) refl) in
    (names ++ last ∷ [], All-append LeadsDown names (last ∷ []) down (All-cons LeadsDown last [] (leads_down name ending free free' long) (All-nil LeadsDown)), path)

-- a path lies where its bytes do
pub lies_inside : {S E : Type 0} (bytes : S → List ℕ) (out path : List ℕ) (r : Result S E)
    → IfOk r (λ s. bytes s ≡ path) → IsInside out path → IfOk r (λ s. IsInside out (bytes s))
lies_inside bytes out path (Ok s) is lies = subst (IsInside out) (sym is) lies
lies_inside bytes out path (Err e) is lies = tt
