-- Runs of laid groups, whatever stands after their EOF.
use Rattle.std.proofs.Common.{◌≡◌, ◌≢◌, ℕ, ◌/◌, ◌%◌, ◌^◌, ◌<◌, ◌≤◌, List, [], ◌∷◌, ◌++◌, length, refl, subst, append_assoc, arith, lit<}
use Rattle.std.specs.List.{flat_map, AllByRecursion}
use Rattle.std.proofs.lemmas.List.{length-append}
use Rattle.xls_stream.specs.Stream.{Group, group_bytes, record_bytes, continues, StartsContinue, HasRoom, Run}
use Rattle.xls_layouts.specs.Layout.{eof_group, IsLaidGroup}

abbrev pub bytes_of : List Group → List ℕ
bytes_of gs = flat_map group_bytes gs

has_room : (cs : List (List ℕ)) (after : List ℕ) → 4 ≤ length after → HasRoom cs after
has_room [] after h = tt
has_room (c ∷ cs) after h = (omega (arith, length-append (c ++ continues cs) after, length-append c (continues cs), length-append (record_bytes 0x003C c ++ continues cs) after), has_room cs after h)

pub group_starts : (g : Group) (rest : List ℕ) → g.typ < 2 ^ 16 → g.typ ≢ 60 → ¬ StartsContinue (group_bytes g ++ rest)
group_starts g rest f n s =
    let e : g.typ % 256 ∷ g.typ / 256 ∷ [] ≡ 60 ∷ 0 ∷ [] = s.typ in
    let a : g.typ % 256 ≡ 60 = cc in
    let b : g.typ / 256 ≡ 0 = cc in
    n (omega arith)

pub nothing_starts : ¬ StartsContinue []
nothing_starts s = let r = s.room in omega arith

pub laid_starts : (gs : List Group) (rest : List ℕ) → AllByRecursion IsLaidGroup gs → ¬ StartsContinue (bytes_of (gs ++ eof_group ∷ []) ++ rest)
laid_starts [] rest h = λ s. let t = s.typ in cc
laid_starts (g ∷ gs) rest h = λ s.
    let f = h.0 in
    group_starts g (bytes_of (gs ++ eof_group ∷ []) ++ rest) f.fits.typ f.no_continue (subst StartsContinue (append_assoc (group_bytes g) (bytes_of (gs ++ eof_group ∷ [])) rest) s)

laid_long : (gs : List Group) (rest : List ℕ) → 4 ≤ length (bytes_of (gs ++ eof_group ∷ []) ++ rest)
laid_long [] rest = omega arith
laid_long (g ∷ gs) rest = omega (arith, length-append (group_bytes g) (bytes_of (gs ++ eof_group ∷ [])), length-append (group_bytes g ++ bytes_of (gs ++ eof_group ∷ [])) rest, length-append g.body (continues g.tail))

pub run_laid : (gs : List Group) (rest : List ℕ) → AllByRecursion IsLaidGroup gs → ¬ StartsContinue rest → Run (bytes_of (gs ++ eof_group ∷ []) ++ rest) (gs ++ eof_group ∷ []) rest
run_laid [] rest h n = (rest, record { whole = refl; fits = record { typ = lit< tt; body = lit< tt; tail = tt }; room = tt; ended = n }, refl)
run_laid (g ∷ gs) rest h n =
    let f = h.0 in
    let after = bytes_of (gs ++ eof_group ∷ []) ++ rest in
    (after, record { whole = append_assoc (group_bytes g) (bytes_of (gs ++ eof_group ∷ [])) rest; fits = f.fits; room = has_room g.tail after (laid_long gs rest); ended = laid_starts gs rest h.1 }, run_laid gs rest h.1 n)
