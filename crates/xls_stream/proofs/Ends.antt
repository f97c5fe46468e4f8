-- How bytes end.
use Rattle.std.proofs.Common.{◌≡◌, ℕ, ◌+◌, ◌≤◌, List, [], ◌++◌, length, take, drop, refl, ap, subst, ◌∙◌, append_assoc, arith, inl, inr, Option, Some, None}
use Rattle.std.proofs.lemmas.List.{length-append}
use Rattle.xls_bytes.specs.Numbers.{le}
use Rattle.xls_stream.specs.Stream.{Group, record_bytes, continues, group_bytes, IsGroup}
use Rattle.xls_stream.specs.Cut.{Cut}
use Rattle.xls_stream.specs.Walks.{IsBytes, IsOver, AtEnd, Groups}
use Rattle.xls_stream.specs.declared.part.Part.{Part}
use Rattle.xls_stream.specs.declared.part.Part.TheVariants.{RecordHeader, RecordLength, ContinueLength}
use Rattle.xls_stream.proofs.Unique.{size_is}
use Rattle.xls_stream.proofs.Total.{runs, no_others}

-- a whole group at the start is longer than its first record says
longer : (bytes : List ℕ) (g : Group) (after : List ℕ) → bytes ≡ group_bytes g ++ after → IsGroup g
    → 4 + le (take 2 (drop 2 bytes)) ≤ length bytes
longer bytes g after w f =
    let whole : bytes ≡ record_bytes g.typ g.body ++ (continues g.tail ++ after) =
    w ∙ append_assoc (record_bytes g.typ g.body) (continues g.tail) after in
    let size : le (take 2 (drop 2 bytes)) ≡ length g.body =
    ap (λ (x : List ℕ). le (take 2 (drop 2 x))) whole
    ∙ size_is g.typ g.body (continues g.tail ++ after) f.body in
    omega (arith, ap length whole, length-append g.body (continues g.tail ++ after))

continue_is_long : (bytes : List ℕ) → Cut bytes ContinueLength
    → 4 + le (take 2 (drop 2 bytes)) ≤ length bytes
continue_is_long bytes c = longer bytes c.0 c.1 c.2.whole c.2.fits

pub one_cut : (bytes : List ℕ) (p q : Part) → Cut bytes p → Cut bytes q → p ≡ q
one_cut bytes RecordHeader RecordHeader a b = refl
one_cut bytes RecordHeader RecordLength a b = let h = b.header in absurd (omega arith)
one_cut bytes RecordHeader ContinueLength a b = let h =
    continue_is_long bytes b in absurd (omega arith)
one_cut bytes RecordLength RecordHeader a b = let h = a.header in absurd (omega arith)
one_cut bytes RecordLength RecordLength a b = refl
one_cut bytes RecordLength ContinueLength a b = let h = continue_is_long bytes b in let s =
    a.short in absurd (omega arith)
one_cut bytes ContinueLength RecordHeader a b = let h =
    continue_is_long bytes a in absurd (omega arith)
one_cut bytes ContinueLength RecordLength a b = let h = continue_is_long bytes a in let s =
    b.short in absurd (omega arith)
one_cut bytes ContinueLength ContinueLength a b = refl
one_cut bytes RecordHeader other a b = absurd b
one_cut bytes RecordLength other a b = absurd b
one_cut bytes ContinueLength other a b = absurd b
one_cut bytes other q a b = absurd a

some_left : (bytes : List ℕ) (p : Part) → Cut bytes p → bytes ≡ [] → ⊥
some_left bytes RecordHeader a e = omega (arith, ap length e)
some_left bytes RecordLength a e = let h = a.header in omega (arith, ap length e)
some_left bytes ContinueLength a e = let h = continue_is_long bytes a in omega (arith, ap length e)
some_left bytes other a e = absurd a

one_end : (bytes : List ℕ) (s t : Option Part) → AtEnd bytes s → AtEnd bytes t → s ≡ t
one_end bytes None None a b = refl
one_end bytes None (Some p) a b = absurd (some_left bytes p b a)
one_end bytes (Some p) None a b = absurd (some_left bytes p a b)
one_end bytes (Some p) (Some q) a b = ap (λ (x : Part). Some x) (one_cut bytes p q a b)

pub over : (rest : List ℕ) (s : Option Part) → AtEnd rest s → IsOver rest
over rest None a = inl a
over rest (Some p) a = inr (p, a)

pub one_groups : (bytes : List ℕ) (gs hs : List Group) (s t : Option Part) → Groups bytes gs s
    → Groups bytes hs t → (gs ≡ hs) × (s ≡ t)
one_groups bytes gs hs s t a b =
    let same = no_others bytes gs hs a.rest b.rest a.run b.run (over a.rest s a.end) (over b.rest t b.end) in
    (same.0, one_end b.rest s t (subst (λ (x : List ℕ). AtEnd x s) same.1 a.end) b.end)

pub has_groups : (bytes : List ℕ) → IsBytes bytes → (groups : List Group) × (stop : Option Part)
    × Groups bytes groups stop
has_groups bytes fits =
    let w = runs bytes fits in
    elim w.3 [
      | inl e ↦ (w.0, None, record { rest = w.1; run = w.2; end = e })
      | inr c ↦ (
        w.0,
        Some c.0,
        record { rest = w.1; run = w.2; end = c.1 },
      )
    ]
