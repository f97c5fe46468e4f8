-- The strings of a table, one after the other.
use Rattle.std.proofs.Common.{◌≡◌, ◌≢◌, ℕ, ◌+◌, ◌*◌, ◌-◌, ◌<◌, ◌≤◌, Bool, false, List, [], ◌∷◌, ◌++◌, length, map, Some, None, Result, Ok, Err, refl, sym, ap, subst, ◌∙◌, arith}
use Rattle.std.specs.Prelude.{IsTrue}
use Rattle.std.specs.Char.Utf16.{utf16_lossy_chars}
use Rattle.std.proofs.lemmas.Bool.{false≢true}
use Rattle.std.proofs.lemmas.List.{map_push, nil_from_length, length-append}
use Rattle.xls_stream.specs.StringTable.{Mark, weight, marked}
use Rattle.xls_stream.proofs.StringUnits.{nothing_marked}
use Rattle.xls_record.specs.declared.error.XlsError.{XlsError}
use Rattle.xls_record.specs.declared.error.XlsError.TheVariants as errors
use Rattle.xls_record.specs.Reading.{Fails}
use Rattle.xls_stream.specs.StringTable.{Missing, next_at, Strings}
use Rattle.xls_stream.proofs.TableReadings.{next_shrinks, Shrinks}
use Rattle.xls_strings.specs.Sst.{AddsAt, SkipsAt, error_of, as_error, FailsTable, ReadsTable}

pub is_over : (hand : List ℕ) (pieces : List (List ℕ)) (v : List Mark) (r : Bool) → marked hand pieces ≡ v → length hand ≡ 0 → (IsTrue r → pieces ≡ []) × (pieces ≡ [] → IsTrue r) → (IsTrue r → v ≡ []) × (v ≡ [] → IsTrue r)
is_over hand pieces v r e z h =
    (λ t. sym e ∙ ap (λ (x : List ℕ). marked x pieces) (nil_from_length hand z) ∙ ap (marked []) (h.0 t), λ n. h.1 (nothing_marked hand pieces (e ∙ n)).1)

pub not_over : (hand : List ℕ) (pieces : List (List ℕ)) (v : List Mark) (r : Bool) → marked hand pieces ≡ v → 0 < length hand → r ≡ false → (IsTrue r → v ≡ []) × (v ≡ [] → IsTrue r)
not_over hand pieces v r e z f =
    (λ t. absurd (false≢true (sym f ∙ t)), λ n. let h : length hand ≡ 0 = ap length (nothing_marked hand pieces (e ∙ n)).0 in absurd (omega arith))

pub Strings-push : (ms : List Mark) (ss : List (List ℕ)) (s : List ℕ) (middle rest : List Mark) → Strings ms ss middle → next_at middle ≡ Ok (s, rest) → Strings ms (ss ++ s ∷ []) rest
Strings-push ms [] s middle rest a b = (rest, ap next_at a ∙ b, refl)
Strings-push ms (t ∷ ss) s middle rest a b = (a.0, a.1, Strings-push a.0 ss s middle rest a.2 b)

by_missing : (ms rest : List Mark) (ss : List (List ℕ)) (e : XlsError) (r : Result (List ℕ × List Mark) Missing) → Strings ms ss rest → rest ≢ [] → next_at rest ≡ r → as_error r ≡ Err e → FailsTable ms e
by_missing ms rest ss e (Ok x) a n r f = absurd cc
by_missing ms rest ss e (Err m) a n r f = let same : e ≡ error_of m = cc in (m, same, record { strings = ss; rest = rest; before = a; some = n; fault = r })

-- a string that isn't whole, behind whole ones
pub table_fails : (e : XlsError) (ms : List Mark) (ss : List (List ℕ)) (rest : List Mark) → Strings ms ss rest → rest ≢ [] → as_error (next_at rest) ≡ Err e → FailsTable ms e
table_fails e ms ss rest a n f = by_missing ms rest ss e (next_at rest) a n refl f

pub reading_fails : (e : XlsError) (ms : List Mark) (ss : List (List ℕ)) (rest : List Mark) → Strings ms ss rest → rest ≢ [] → Fails e (as_error (next_at rest)) → ReadsTable ms (Err e)
reading_fails errors.Memory ms ss rest a n f = tt
reading_fails e ms ss rest a n f = by_missing ms rest ss e (next_at rest) a n refl f

three_at_least : (ms after : List Mark) (s : List ℕ) → next_at ms ≡ Ok (s, after) → 3 ≤ weight ms
three_at_least [] after s e = absurd cc
three_at_least (None ∷ ms) after s e = omega arith
three_at_least (Some b ∷ []) after s e = absurd cc
three_at_least (Some b ∷ None ∷ ms) after s e = omega arith
three_at_least (Some b ∷ Some c ∷ []) after s e = absurd cc
three_at_least (Some b ∷ Some c ∷ None ∷ ms) after s e = omega arith
three_at_least (Some b ∷ Some c ∷ Some d ∷ ms) after s e = omega arith

-- a string takes three at least
pub next_lighter : (ms after : List Mark) (s : List ℕ) → next_at ms ≡ Ok (s, after) → weight after + 3 ≤ weight ms
next_lighter ms after s e =
    let h : Shrinks (Ok (s, after)) (weight ms - 3) = subst (λ (r : Result (List ℕ × List Mark) Missing). Shrinks r (weight ms - 3)) e (next_shrinks ms) in
    let k : weight after ≤ weight ms - 3 = h in
    let some = three_at_least ms after s e in
    omega arith

-- the strings so far and their texts, and the next one
pub texts_more : (ms middle rest : List Mark) (ss : List (List ℕ)) (texts new : List (List ℕ)) (cleared now t : List ℕ) → Strings ms ss middle → texts ≡ map utf16_lossy_chars ss → cleared ≡ []
    → AddsAt cleared (Ok tt) now rest (next_at middle) → t ≡ utf16_lossy_chars now → new ≡ texts ++ t ∷ [] → (strings : List (List ℕ)) × Strings ms strings rest × (new ≡ map utf16_lossy_chars strings)
texts_more ms middle rest ss texts new cleared now t a e c x d push =
    let units : now ≡ x.0 = x.1 ∙ ap (λ (us : List ℕ). us ++ x.0) c in (
      ss ++ x.0 ∷ [],
      Strings-push ms ss x.0 middle rest a x.2,
      push ∙ ap (λ (ts : List (List ℕ)). ts ++ t ∷ []) e ∙ ap (λ (u : List ℕ). map utf16_lossy_chars ss ++ u ∷ []) (d ∙ ap utf16_lossy_chars units) ∙ sym (map_push utf16_lossy_chars ss x.0),
    )

-- their number, and one more
pub count_more : (ms middle rest : List Mark) (ss : List (List ℕ)) (n : ℕ) → Strings ms ss middle → n ≡ length ss → 3 * n + weight middle ≤ weight ms → SkipsAt (Ok tt) rest (next_at middle)
    → (strings : List (List ℕ)) × Strings ms strings rest × (n + 1 ≡ length strings) × (3 * (n + 1) + weight rest ≤ weight ms)
count_more ms middle rest ss n a e le x =
    (ss ++ x.0 ∷ [], Strings-push ms ss x.0 middle rest a x.1, omega (arith, length-append ss (x.0 ∷ [])), omega (arith, next_lighter middle rest x.0 x.1))
