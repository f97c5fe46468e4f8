-- Runs of groups, one group longer, and one after the other.
use Rattle.std.proofs.Common.{◌≡◌, ℕ, ◌+◌, ◌≤◌, List, [], ◌∷◌, ◌++◌, length, refl, sym, ap, subst, ◌∙◌, append_assoc, arith}
use Rattle.std.proofs.lemmas.List.{length-append}
use Rattle.std.specs.List.{flat_map}
use Rattle.xls_stream.specs.Stream.{Group, group_bytes, continues, Begins, Run}

pub Run-append : (bytes : List ℕ) (gs hs : List Group) (middle rest : List ℕ) → Run bytes gs middle
    → Run middle hs rest → Run bytes (gs ++ hs) rest
Run-append bytes [] hs middle rest a b = subst (λ (x : List ℕ). Run x hs rest) (sym a) b
Run-append bytes (g ∷ gs) hs middle rest a b = (a.0, a.1, Run-append a.0 gs hs middle rest a.2 b)

pub Run-push : (bytes : List ℕ) (gs : List Group) (g : Group) (middle rest : List ℕ)
    → Run bytes gs middle → Begins middle g rest → Run bytes (gs ++ g ∷ []) rest
Run-push bytes gs g middle rest a b = Run-append bytes gs (g ∷ []) middle rest a (rest, b, refl)

-- the bytes are the groups' bytes in order, followed by the rest
pub Run-whole : (bytes : List ℕ) (gs : List Group) (rest : List ℕ) → Run bytes gs rest
    → bytes ≡ flat_map group_bytes gs ++ rest
Run-whole bytes [] rest a = a
Run-whole bytes (g ∷ gs) rest a =
    a.1.whole ∙ ap (λ (x : List ℕ). group_bytes g ++ x) (Run-whole a.0 gs rest a.2)
    ∙ sym (append_assoc (group_bytes g) (flat_map group_bytes gs) rest)

pub begins_fewer : (bytes : List ℕ) (g : Group) (rest : List ℕ) → Begins bytes g rest
    → length rest + 4 ≤ length bytes
begins_fewer bytes g rest b =
    rw b.whole (omega (
      arith,
      length-append g.body (continues g.tail),
      length-append (g.body ++ continues g.tail) rest,
    ))
