-- The strings that are read of bytes have fewer than 65,536 units.
use Rattle.std.proofs.Common.{◌≡◌, ℕ, ◌<◌, ◌^◌, Bool, List, [], ◌∷◌, ◌++◌, length, map, take, drop, Some, None, Ok, sym, ap, subst, arith, inl, inr}
use Rattle.std.specs.List.{flat_map, AllByRecursion}
use Rattle.std.proofs.lemmas.List.{take-append-drop}
use Rattle.xls_bytes.specs.Numbers.{le}
use Rattle.xls_stream.specs.Stream.{Group, record_bytes, continues, group_bytes}
use Rattle.xls_stream.specs.Walks.{IsBytes}
use Rattle.xls_stream.specs.StringTable.{Mark, marked, marked_piece, next_at}
use Rattle.xls_layouts.specs.TableGrammar.{UnitStep, one_byte, two_bytes, flags_byte, units_in, marks_of_units, AreUnits, Str, IsElement}
use Rattle.xls_layouts.specs.Canonical.{AreBytes}
use Rattle.xls_layouts.proofs.GrammarLemmas.{same_elements}
use Rattle.xls_lay.proofs.PushLemmas.{are_bytes}

-- ---- marks of bytes

abbrev pub IsSmall : Mark → Type 0
IsSmall None = Unit {0}
IsSmall (Some b) = b < 256

abbrev pub AreSmall : List Mark → Type 0
AreSmall ms = AllByRecursion IsSmall ms

small_split : (xs ys : List Mark) → AreSmall (xs ++ ys) → AreSmall xs × AreSmall ys
small_split [] ys h = (tt, h)
small_split (x ∷ xs) ys h = let s = small_split xs ys h.1 in ((h.0, s.0), s.1)

small_join : (xs ys : List Mark) → AreSmall xs → AreSmall ys → AreSmall (xs ++ ys)
small_join [] ys a b = b
small_join (x ∷ xs) ys a b = (a.0, small_join xs ys a.1 b)

small_bytes : (bs : List ℕ) → AreSmall (map Some bs) → AreBytes bs
small_bytes [] h = tt
small_bytes (b ∷ bs) h = (h.0, small_bytes bs h.1)

bytes_small : (bs : List ℕ) → AreBytes bs → AreSmall (map Some bs)
bytes_small [] h = tt
bytes_small (b ∷ bs) h = (h.0, bytes_small bs h.1)

pub bytes_split : (xs ys : List ℕ) → AreBytes (xs ++ ys) → AreBytes xs × AreBytes ys
bytes_split [] ys h = (tt, h)
bytes_split (x ∷ xs) ys h = let s = bytes_split xs ys h.1 in ((h.0, s.0), s.1)

pieces_small : (bodies : List (List ℕ)) → AreBytes (continues bodies) → AreSmall (flat_map marked_piece bodies)
pieces_small [] h = tt
pieces_small (c ∷ cs) h =
    let s = bytes_split (record_bytes 0x003C c) (continues cs) h in
    small_join (marked_piece c) (flat_map marked_piece cs) (tt, bytes_small c s.0.1.1.1.1) (pieces_small cs s.1)

-- those of a record's body without its first bytes, and of what is attached to it
pub marked_small : (g : Group) (n : ℕ) → IsBytes (group_bytes g) → AreSmall (marked (drop n g.body) g.tail)
marked_small g n fits =
    let all : AreBytes (group_bytes g) = are_bytes (group_bytes g) fits in
    let s = bytes_split (record_bytes g.typ g.body) (continues g.tail) all in
    let body : AreBytes (take n g.body ++ drop n g.body) = subst (λ (x : List ℕ). AreBytes x) (sym (take-append-drop n g.body)) s.0.1.1.1.1 in
    small_join (map Some (drop n g.body)) (flat_map marked_piece g.tail)
    (bytes_small (drop n g.body) (bytes_split (take n g.body) (drop n g.body) body).1) (pieces_small g.tail s.1)

-- ---- units

units_count : (n : ℕ) (wide : Bool) (steps : List UnitStep) → AreUnits n wide steps → length (units_in steps) ≡ n
units_count n wide [] h = sym h
units_count n wide (one_byte b ∷ steps) h = let e = h.2 in omega (arith, e, units_count h.1 wide steps h.3)
units_count n wide (two_bytes low high ∷ steps) h = let e = h.2 in omega (arith, e, units_count h.1 wide steps h.3)
units_count n wide (flags_byte flags ∷ steps) h = units_count n _ steps h.1

two_small : (count : List ℕ) → length count ≡ 2 → AreBytes count → le count < 2 ^ 16
two_small [] e h = absurd (omega (arith, e))
two_small (a ∷ []) e h = absurd (omega (arith, e))
two_small (a ∷ b ∷ []) e h = let x = h.0 in let y = h.1.0 in omega arith
two_small (a ∷ b ∷ c ∷ cs) e h = absurd (omega (arith, e))

str_short : (ms after : List Mark) (units : List ℕ) → AreSmall ms → Str ms units after → (length units < 2 ^ 16) × AreSmall after
str_short ms after units small s =
    let rest = s.runs ++ s.extension in
    let all = subst (λ (x : List Mark). AreSmall x) s.whole small in
    let head = small_split (map Some (s.count ++ s.flags ∷ rest)) (marks_of_units s.steps ++ (s.tail ++ after)) all in
    let count = two_small s.count s.count_len (bytes_split s.count (s.flags ∷ rest) (small_bytes (s.count ++ s.flags ∷ rest) head.0)).0 in
    let following = small_split s.tail after (small_split (marks_of_units s.steps) (s.tail ++ after) head.1).1 in (
      omega (arith, count, ap length s.units_are, units_count (le s.count) _ s.steps s.are_units),
      following.1,
    )

-- a string that is read, and what stands after it
pub string_short : (ms after : List Mark) (units : List ℕ) → AreSmall ms → next_at ms ≡ Ok (units, after)
    → (length units < 2 ^ 16) × AreSmall after
string_short ms after units small e = by_cases ((same_elements ms units after).0 e)
  where
    by_cases : IsElement ms units after → (length units < 2 ^ 16) × AreSmall after
    by_cases x = elim x [
      | inl s ↦ str_short ms after units small s
      | inr y ↦ elim y [
        | inl p ↦ str_short p.0 after units (subst (λ (z : List Mark). AreSmall z) p.1 small).1 p.2
        | inr q ↦
            let n = q.1 in
            (omega (arith, ap length n), (subst (λ (z : List Mark). AreSmall z) q.0 small).1)
      ]
    ]
