-- The grammar of a string table and the order in which it is read tell the same.
use Rattle.std.proofs.Common.{◌≡◌, ℕ, zero, suc, ◌+◌, ◌*◌, ◌^◌, ◌<◌, ◌≤◌, Bool, true, false, cond, List, [], ◌∷◌, ◌++◌, length, map, take, drop, slice_index, Option, Some, None, Result, Ok, Err, refl, sym, ap, subst, ◌∙◌, arith, inl, inr}
use Rattle.std.specs.Prelude.{nat_lt, ◌↔◌}
use Rattle.std.proofs.lemmas.Bool.{ltb-true, ltb-false}
use Rattle.std.proofs.lemmas.List.{drop_at, length-map}
use Rattle.xls_bytes.specs.Numbers.{le}
use Rattle.xls_stream.specs.StringTable.{Mark, Missing, short_head, is_wide, prefix_of, with_unit, units_at, tail_at, has_runs, has_extension, head_len, runs_at, extension_at, after_at, head_at, with_tail, with_units, with_head, str_at, next_at, Table}
use Rattle.xls_layouts.specs.TableGrammar.{UnitStep, one_byte, two_bytes, flags_byte, marks_of_units, units_in, AreUnits, IsTail, Str, StartsNoByte, IsElement, IsStringTable}

-- ---- units

narrow_unit : (n m b : ℕ) (wide : Bool) (ms : List Mark) (us : List ℕ) (rest : List Mark) → wide ≡ false → n ≡ suc m → units_at m wide ms ≡ Some (us, rest) → units_at n wide (Some b ∷ ms) ≡ Some (b ∷ us, rest)
unfolding units_at
narrow_unit n m b wide ms us rest w e h =
    let g : units_at m false ms ≡ Some (us, rest) = rw w at h in
    rw (w, e) (ap (with_unit b) g)

wide_unit : (n m b c : ℕ) (wide : Bool) (ms : List Mark) (us : List ℕ) (rest : List Mark) → wide ≡ true → n ≡ suc m → units_at m wide ms ≡ Some (us, rest) → units_at n wide (Some b ∷ Some c ∷ ms) ≡ Some ((b + 256 * c) ∷ us, rest)
unfolding units_at
wide_unit n m b c wide ms us rest w e h =
    let g : units_at m true ms ≡ Some (us, rest) = rw w at h in
    rw (w, e) (ap (with_unit (b + 256 * c)) g)

over_flags : (n flags : ℕ) (wide : Bool) (ms : List Mark) → 0 < n → units_at n wide (None ∷ Some flags ∷ ms) ≡ units_at n (is_wide flags) ms
unfolding units_at
over_flags zero flags wide ms some = absurd (omega arith)
over_flags (suc n) flags true ms some = refl
over_flags (suc n) flags false ms some = refl

no_more_units : (n : ℕ) (wide : Bool) (ms : List Mark) → n ≡ 0 → units_at n wide ms ≡ Some ([], ms)
unfolding units_at
no_more_units n wide ms e = rw e refl

units_read : (n : ℕ) (wide : Bool) (steps : List UnitStep) (rest : List Mark) → AreUnits n wide steps → units_at n wide (marks_of_units steps ++ rest) ≡ Some (units_in steps, rest)
units_read n wide [] rest h = no_more_units n wide rest h
units_read n wide (one_byte b ∷ steps) rest h =
    narrow_unit n h.1 b wide (marks_of_units steps ++ rest) (units_in steps) rest h.0 h.2 (units_read h.1 wide steps rest h.3)
units_read n wide (two_bytes low high ∷ steps) rest h =
    wide_unit n h.1 low high wide (marks_of_units steps ++ rest) (units_in steps) rest h.0 h.2 (units_read h.1 wide steps rest h.3)
units_read n wide (flags_byte flags ∷ steps) rest h =
    over_flags n flags wide (marks_of_units steps ++ rest) h.0 ∙ units_read n (is_wide flags) steps rest h.1

-- what was read as units is Units
pub record AreRead (n : ℕ) (wide : Bool) (ms : List Mark) (us : List ℕ) (rest : List Mark) : Type 0 where
  pub steps : List UnitStep
  pub whole : ms ≡ marks_of_units steps ++ rest
  pub units_are : us ≡ units_in steps
  pub are_units : AreUnits n wide steps

same_some : (x y : List ℕ × List Mark) → ◌≡◌ {A = Option (List ℕ × List Mark)} (Some x) (Some y) → x ≡ y
same_some x y e = cc

unit_from : (u : ℕ) (r : Option (List ℕ × List Mark)) (us : List ℕ) (rest : List Mark) → with_unit u r ≡ Some (us, rest) → (vs : List ℕ) × (r ≡ Some (vs, rest)) × (us ≡ u ∷ vs)
unit_from u None us rest e = absurd cc
unit_from u (Some x) us rest e =
    let p = same_some (u ∷ x.0, x.1) (us, rest) e in
    (x.0, ap (λ (r : List Mark). Some (x.0, r)) (ap (λ (q : List ℕ × List Mark). q.1) p), sym (ap (λ (q : List ℕ × List Mark). q.0) p))

are_more : (n b : ℕ) (ms : List Mark) (us vs : List ℕ) (rest : List Mark) → us ≡ b ∷ vs → AreRead n false ms vs rest → AreRead (suc n) false (Some b ∷ ms) us rest
are_more n b ms us vs rest e r = record {
  steps = one_byte b ∷ r.steps;
  whole = ap (λ (x : List Mark). Some b ∷ x) r.whole;
  units_are = e ∙ ap (λ (x : List ℕ). b ∷ x) r.units_are;
  are_units = (refl, n, refl, r.are_units);
}

are_more_wide : (n b c : ℕ) (ms : List Mark) (us vs : List ℕ) (rest : List Mark) → us ≡ (b + 256 * c) ∷ vs → AreRead n true ms vs rest → AreRead (suc n) true (Some b ∷ Some c ∷ ms) us rest
are_more_wide n b c ms us vs rest e r = record {
  steps = two_bytes b c ∷ r.steps;
  whole = ap (λ (x : List Mark). Some b ∷ Some c ∷ x) r.whole;
  units_are = e ∙ ap (λ (x : List ℕ). (b + 256 * c) ∷ x) r.units_are;
  are_units = (refl, n, refl, r.are_units);
}

are_in_piece : (n flags : ℕ) (wide : Bool) (ms : List Mark) (us : List ℕ) (rest : List Mark) → AreRead (suc n) (is_wide flags) ms us rest → AreRead (suc n) wide (None ∷ Some flags ∷ ms) us rest
are_in_piece n flags wide ms us rest r = record {
  steps = flags_byte flags ∷ r.steps;
  whole = ap (λ (x : List Mark). None ∷ Some flags ∷ x) r.whole;
  units_are = r.units_are;
  are_units = (omega arith, r.are_units);
}

units_split : (n : ℕ) (wide : Bool) (ms : List Mark) (us : List ℕ) (rest : List Mark) → units_at n wide ms ≡ Some (us, rest) → AreRead n wide ms us rest
unfolding units_at
units_split zero wide ms us rest e =
    let p = same_some ([], ms) (us, rest) e in
    record { steps = []; whole = ap (λ (q : List ℕ × List Mark). q.1) p; units_are = sym (ap (λ (q : List ℕ × List Mark). q.0) p); are_units = refl }
units_split (suc n) true [] us rest e = absurd cc
units_split (suc n) false [] us rest e = absurd cc
units_split (suc n) true (None ∷ []) us rest e = absurd cc
units_split (suc n) false (None ∷ []) us rest e = absurd cc
units_split (suc n) true (None ∷ None ∷ ms) us rest e = absurd cc
units_split (suc n) false (None ∷ None ∷ ms) us rest e = absurd cc
units_split (suc n) true (None ∷ Some flags ∷ ms) us rest e = are_in_piece n flags true ms us rest (units_split (suc n) (is_wide flags) ms us rest e)
units_split (suc n) false (None ∷ Some flags ∷ ms) us rest e = are_in_piece n flags false ms us rest (units_split (suc n) (is_wide flags) ms us rest e)
units_split (suc n) false (Some b ∷ ms) us rest e =
    let g = unit_from b (units_at n false ms) us rest e in
    are_more n b ms us g.0 rest g.2 (units_split n false ms g.0 rest g.1)
units_split (suc n) true (Some b ∷ []) us rest e = absurd cc
units_split (suc n) true (Some b ∷ None ∷ ms) us rest e = absurd cc
units_split (suc n) true (Some b ∷ Some c ∷ ms) us rest e =
    let g = unit_from (b + 256 * c) (units_at n true ms) us rest e in
    are_more_wide n b c ms us g.0 rest g.2 (units_split n true ms g.0 rest g.1)

-- ---- tails

tail_read : (k : ℕ) (ms rest : List Mark) → IsTail k ms → tail_at k (ms ++ rest) ≡ Some rest
unfolding tail_at
tail_read k [] rest h = rw h refl
tail_read zero (None ∷ ms) rest h = absurd (let z = h.0 in omega arith)
tail_read (suc k) (None ∷ ms) rest h = tail_read (suc k) ms rest h.1
tail_read k (Some b ∷ ms) rest h = rw h.1 (tail_read h.0 ms rest h.2)

tail_split : (k : ℕ) (ms rest : List Mark) → tail_at k ms ≡ Some rest → (tail : List Mark) × (ms ≡ tail ++ rest) × IsTail k tail
unfolding tail_at
tail_split zero ms rest e = ([], cc, refl)
tail_split (suc k) [] rest e = absurd cc
tail_split (suc k) (None ∷ ms) rest e =
    let t = tail_split (suc k) ms rest e in
    (None ∷ t.0, ap (λ (x : List Mark). None ∷ x) t.1, (omega arith, t.2))
tail_split (suc k) (Some b ∷ ms) rest e =
    let t = tail_split k ms rest e in
    (Some b ∷ t.0, ap (λ (x : List Mark). Some b ∷ x) t.1, (k, refl, t.2))

-- ---- heads

not_below : (m n : ℕ) → n ≤ m → nat_lt m n ≡ false
not_below m n h = grind arith

below : (m n : ℕ) → m < n → nat_lt m n ≡ true
below m n h = grind arith

-- the parts of a head
pub record HeadParts (prefix : List ℕ) (flags : ℕ) : Type 0 where
  pub count : List ℕ
  pub runs : List ℕ
  pub extension : List ℕ
  pub whole : take (head_len flags) prefix ≡ count ++ flags ∷ (runs ++ extension)
  pub count_len : length count ≡ 2
  pub runs_len : length runs ≡ cond (has_runs flags) 2 0
  pub extension_len : length extension ≡ cond (has_extension flags) 4 0
  pub count_is : le (take 2 prefix) ≡ le count
  pub runs_is : runs_at prefix ≡ le runs
  pub extension_is : extension_at prefix ≡ le extension

parts_by : (x y f : ℕ) (rest : List ℕ) (a b : Bool) → has_runs f ≡ a → has_extension f ≡ b → cond b (cond a 5 3 + 4) (cond a 5 3) ≤ 3 + length rest → HeadParts (x ∷ y ∷ f ∷ rest) f
parts_by x y f rest false false ea eb long = record {
  count = x ∷ y ∷ [];
  runs = [];
  extension = [];
  whole = rw (ea, eb) refl;
  count_len = refl;
  runs_len = rw ea refl;
  extension_len = rw eb refl;
  count_is = refl;
  runs_is = rw ea refl;
  extension_is = rw (ea, eb) refl;
}
parts_by x y f [] true false ea eb long = absurd (omega arith)
parts_by x y f (r ∷ []) true false ea eb long = absurd (omega arith)
parts_by x y f (r ∷ s ∷ rest) true false ea eb long = record {
  count = x ∷ y ∷ [];
  runs = r ∷ s ∷ [];
  extension = [];
  whole = rw (ea, eb) refl;
  count_len = refl;
  runs_len = rw ea refl;
  extension_len = rw eb refl;
  count_is = refl;
  runs_is = rw ea refl;
  extension_is = rw (ea, eb) refl;
}
parts_by x y f [] false true ea eb long = absurd (omega arith)
parts_by x y f (c ∷ []) false true ea eb long = absurd (omega arith)
parts_by x y f (c ∷ d ∷ []) false true ea eb long = absurd (omega arith)
parts_by x y f (c ∷ d ∷ e ∷ []) false true ea eb long = absurd (omega arith)
parts_by x y f (c ∷ d ∷ e ∷ g ∷ rest) false true ea eb long = record {
  count = x ∷ y ∷ [];
  runs = [];
  extension = c ∷ d ∷ e ∷ g ∷ [];
  whole = rw (ea, eb) refl;
  count_len = refl;
  runs_len = rw ea refl;
  extension_len = rw eb refl;
  count_is = refl;
  runs_is = rw ea refl;
  extension_is = rw (ea, eb) refl;
}
parts_by x y f [] true true ea eb long = absurd (omega arith)
parts_by x y f (r ∷ []) true true ea eb long = absurd (omega arith)
parts_by x y f (r ∷ s ∷ []) true true ea eb long = absurd (omega arith)
parts_by x y f (r ∷ s ∷ c ∷ []) true true ea eb long = absurd (omega arith)
parts_by x y f (r ∷ s ∷ c ∷ d ∷ []) true true ea eb long = absurd (omega arith)
parts_by x y f (r ∷ s ∷ c ∷ d ∷ e ∷ []) true true ea eb long = absurd (omega arith)
parts_by x y f (r ∷ s ∷ c ∷ d ∷ e ∷ g ∷ rest) true true ea eb long = record {
  count = x ∷ y ∷ [];
  runs = r ∷ s ∷ [];
  extension = c ∷ d ∷ e ∷ g ∷ [];
  whole = rw (ea, eb) refl;
  count_len = refl;
  runs_len = rw ea refl;
  extension_len = rw eb refl;
  count_is = refl;
  runs_is = rw ea refl;
  extension_is = rw (ea, eb) refl;
}

-- the bytes at the start of marks
bytes_split : (n : ℕ) (ms : List Mark) → n ≤ length (prefix_of ms) → ms ≡ map Some (take n (prefix_of ms)) ++ drop n ms
bytes_split zero ms h = refl
bytes_split (suc n) [] h = absurd (omega arith)
bytes_split (suc n) (None ∷ ms) h = absurd (omega arith)
bytes_split (suc n) (Some b ∷ ms) h = ap (λ (x : List Mark). Some b ∷ x) (bytes_split n ms (omega arith))

-- the head of Str is read so
nil_of : (xs : List ℕ) → length xs ≡ 0 → xs ≡ []
nil_of [] e = refl
nil_of (x ∷ xs) e = absurd (omega arith)

two_of : (xs : List ℕ) → length xs ≡ 2 → (r : ℕ) × (s : ℕ) × (xs ≡ r ∷ s ∷ [])
two_of [] e = absurd (omega arith)
two_of (r ∷ []) e = absurd (omega arith)
two_of (r ∷ s ∷ []) e = (r, s, refl)
two_of (r ∷ s ∷ t ∷ xs) e = absurd (omega arith)

four_of : (xs : List ℕ) → length xs ≡ 4 → (c : ℕ) × (d : ℕ) × (e : ℕ) × (g : ℕ) × (xs ≡ c ∷ d ∷ e ∷ g ∷ [])
four_of [] h = absurd (omega arith)
four_of (c ∷ []) h = absurd (omega arith)
four_of (c ∷ d ∷ []) h = absurd (omega arith)
four_of (c ∷ d ∷ e ∷ []) h = absurd (omega arith)
four_of (c ∷ d ∷ e ∷ g ∷ []) h = (c, d, e, g, refl)
four_of (c ∷ d ∷ e ∷ g ∷ i ∷ xs) h = absurd (omega arith)

head_three : (x y f : ℕ) (prefix : List ℕ) → has_runs f ≡ false → has_extension f ≡ false
    → head_at (x ∷ y ∷ f ∷ prefix) ≡ Ok (record { len = 3; count = le (x ∷ y ∷ []); wide = is_wide f; following = Some 0 })
head_three x y f prefix a b =
    let n = suc (suc (suc (length prefix))) in
    rw (a, b, not_below n 3 (omega arith)) refl

head_five : (x y f r s : ℕ) (prefix : List ℕ) → has_runs f ≡ true → has_extension f ≡ false
    → head_at (x ∷ y ∷ f ∷ r ∷ s ∷ prefix) ≡ Ok (record { len = 5; count = le (x ∷ y ∷ []); wide = is_wide f; following = Some (4 * le (r ∷ s ∷ []) + 0) })
head_five x y f r s prefix a b =
    let n = suc (suc (suc (suc (suc (length prefix))))) in
    rw (a, b, not_below n 3 (omega arith), not_below n 5 (omega arith)) refl

head_seven : (x y f c d e g : ℕ) (prefix : List ℕ) → has_runs f ≡ false → has_extension f ≡ true → le (c ∷ d ∷ e ∷ g ∷ []) < 2 ^ 31
    → head_at (x ∷ y ∷ f ∷ c ∷ d ∷ e ∷ g ∷ prefix) ≡ Ok (record { len = 7; count = le (x ∷ y ∷ []); wide = is_wide f; following = Some (0 + le (c ∷ d ∷ e ∷ g ∷ [])) })
head_seven x y f c d e g prefix a b small =
    let n = suc (suc (suc (suc (suc (suc (suc (length prefix))))))) in
    rw (a, b, not_below n 3 (omega arith), not_below n 7 (omega arith), below (le (c ∷ d ∷ e ∷ g ∷ [])) 2147483648 small) refl

head_nine : (x y f r s c d e g : ℕ) (prefix : List ℕ) → has_runs f ≡ true → has_extension f ≡ true → le (c ∷ d ∷ e ∷ g ∷ []) < 2 ^ 31
    → head_at (x ∷ y ∷ f ∷ r ∷ s ∷ c ∷ d ∷ e ∷ g ∷ prefix) ≡ Ok (record { len = 9; count = le (x ∷ y ∷ []); wide = is_wide f; following = Some (4 * le (r ∷ s ∷ []) + le (c ∷ d ∷ e ∷ g ∷ [])) })
head_nine x y f r s c d e g prefix a b small =
    let n = suc (suc (suc (suc (suc (suc (suc (suc (suc (length prefix))))))))) in
    rw (a, b, not_below n 3 (omega arith), not_below n 9 (omega arith), below (le (c ∷ d ∷ e ∷ g ∷ [])) 2147483648 small) refl

head_by : (x y f : ℕ) (runs extension prefix : List ℕ) (a b : Bool) → has_runs f ≡ a → has_extension f ≡ b → length runs ≡ cond a 2 0 → length extension ≡ cond b 4 0 → le extension < 2 ^ 31
    → head_at (x ∷ y ∷ f ∷ ((runs ++ extension) ++ prefix)) ≡ Ok (record { len = suc (suc (suc (length (runs ++ extension)))); count = le (x ∷ y ∷ []); wide = is_wide f; following = Some (4 * le runs + le extension) })
head_by x y f runs extension prefix false false ea eb la lb small =
    let r = nil_of runs la in
    let t = nil_of extension lb in
    rw (r, t) (head_three x y f prefix ea eb)
head_by x y f runs extension prefix true false ea eb la lb small =
    let r = two_of runs la in
    let t = nil_of extension lb in
    rw (r.2, t) (head_five x y f r.0 r.1 prefix ea eb)
head_by x y f runs extension prefix false true ea eb la lb small =
    let r = nil_of runs la in
    let t = four_of extension lb in
    let u = t.4 in
    let less : le (t.0 ∷ t.1 ∷ t.2 ∷ t.3 ∷ []) < 2 ^ 31 = rw u at small in
    rw (r, u) (head_seven x y f t.0 t.1 t.2 t.3 prefix ea eb less)
head_by x y f runs extension prefix true true ea eb la lb small =
    let r = two_of runs la in
    let t = four_of extension lb in
    let u = t.4 in
    let less : le (t.0 ∷ t.1 ∷ t.2 ∷ t.3 ∷ []) < 2 ^ 31 = rw u at small in
    rw (r.2, u) (head_nine x y f r.0 r.1 t.0 t.1 t.2 t.3 prefix ea eb less)

head_read : (count : List ℕ) (f : ℕ) (runs extension prefix : List ℕ) → length count ≡ 2 → length runs ≡ cond (has_runs f) 2 0 → length extension ≡ cond (has_extension f) 4 0 → le extension < 2 ^ 31
    → head_at ((count ++ f ∷ (runs ++ extension)) ++ prefix) ≡ Ok (record { len = length (count ++ f ∷ (runs ++ extension)); count = le count; wide = is_wide f; following = Some (4 * le runs + le extension) })
head_read count f runs extension prefix lc la lb small =
    let c = two_of count lc in
    rw c.2 (head_by c.0 c.1 f runs extension prefix (has_runs f) (has_extension f) refl refl la lb small)

-- ---- Str

prefix_over : (bs : List ℕ) (ms : List Mark) → prefix_of (map Some bs ++ ms) ≡ bs ++ prefix_of ms
prefix_over [] ms = refl
prefix_over (b ∷ bs) ms = ap (λ (x : List ℕ). b ∷ x) (prefix_over bs ms)

-- what is Str is read as a string
str_read : (ms : List Mark) (units : List ℕ) (after : List Mark) → Str ms units after → str_at ms ≡ Ok (units, after)
str_read ms units after h =
    let bytes = h.count ++ h.flags ∷ (h.runs ++ h.extension) in
    let more = marks_of_units h.steps ++ (h.tail ++ after) in
    let all = map Some bytes ++ more in
    let size = 4 * le h.runs + le h.extension in
    let n = le h.count in
    let w = is_wide h.flags in
    let first : head_at (prefix_of all) ≡ Ok (record { len = length bytes; count = n; wide = w; following = Some size }) =
    ap head_at (prefix_over bytes more) ∙ head_read h.count h.flags h.runs h.extension (prefix_of more) h.count_len h.runs_len h.extension_len h.not_negative in
    let left : drop (length bytes) all ≡ more = drop_at (map Some bytes) more (length bytes) (length-map bytes Some) in
    let us : units_at n w more ≡ Some (units_in h.steps, h.tail ++ after) = units_read n w h.steps (h.tail ++ after) h.are_units in
    let end : tail_at size (h.tail ++ after) ≡ Some after = tail_read size h.tail after h.is_tail in
    ap str_at h.whole
    ∙ ap (with_head all) first
    ∙ ap (λ (x : List Mark). with_units (Some size) (units_at n w x)) left
    ∙ ap (with_units (Some size)) us
    ∙ ap (with_tail (units_in h.steps)) end
    ∙ ap (λ (x : List ℕ). Ok (x, after)) (sym h.units_are)

-- ---- what is read as a string is Str

tail_from : (us : List ℕ) (r : Option (List Mark)) (units : List ℕ) (after : List Mark) → with_tail us r ≡ Ok (units, after) → (us ≡ units) × (r ≡ Some after)
tail_from us None units after e = absurd cc
tail_from us (Some ms) units after e =
    let p = same_ok (us, ms) (units, after) e in
    (ap (λ (q : List ℕ × List Mark). q.0) p, ap (λ (q : List ℕ × List Mark). Some q.1) p)
  where
    same_ok : (x y : List ℕ × List Mark) → ◌≡◌ {A = Result (List ℕ × List Mark) Missing} (Ok x) (Ok y) → x ≡ y
    same_ok x y e = cc

-- the length of the tail is there, and so are the units and the tail
pub record AfterHead (following : Option ℕ) (n : ℕ) (wide : Bool) (ms : List Mark) (units : List ℕ) (after : List Mark) : Type 0 where
  pub size : ℕ
  pub size_is : following ≡ Some size
  pub middle : List Mark
  pub units_are : units_at n wide ms ≡ Some (units, middle)
  pub tail_is : tail_at size middle ≡ Some after

after_by : (following : Option ℕ) (n : ℕ) (wide : Bool) (ms : List Mark) (r : Option (List ℕ × List Mark)) (units : List ℕ) (after : List Mark) → units_at n wide ms ≡ r → with_units following r ≡ Ok (units, after) → AfterHead following n wide ms units after
after_by following n wide ms None units after e h = absurd cc
after_by None n wide ms (Some x) units after e h = absurd cc
after_by (Some k) n wide ms (Some x) units after e h =
    let t = tail_from x.0 (tail_at k x.1) units after h in
    record { size = k; size_is = refl; middle = x.1; units_are = e ∙ ap (λ (us : List ℕ). Some (us, x.1)) t.0; tail_is = t.1 }

-- the head is whole, and this stands after it
pub record HeadRead (ms : List Mark) (units : List ℕ) (after : List Mark) : Type 0 where
  pub long : 3 ≤ length (prefix_of ms)
  pub whole : head_len (slice_index (prefix_of ms) 2) ≤ length (prefix_of ms)
  pub following : AfterHead (after_at (prefix_of ms)) (le (take 2 (prefix_of ms))) (is_wide (slice_index (prefix_of ms) 2)) (drop (head_len (slice_index (prefix_of ms) 2)) ms) units after

head_from : (ms : List Mark) (a b : Bool) (units : List ℕ) (after : List Mark)
    → nat_lt (length (prefix_of ms)) 3 ≡ a → nat_lt (length (prefix_of ms)) (head_len (slice_index (prefix_of ms) 2)) ≡ b
    → with_head ms (cond a (Err (short_head 3 (length (prefix_of ms)))) (cond b (Err (short_head (head_len (slice_index (prefix_of ms) 2)) (length (prefix_of ms)))) (Ok (record { len = head_len (slice_index (prefix_of ms) 2); count = le (take 2 (prefix_of ms)); wide = is_wide (slice_index (prefix_of ms) 2); following = after_at (prefix_of ms) })))) ≡ Ok (units, after)
    → HeadRead ms units after
head_from ms true b units after ea eb h = absurd cc
head_from ms false true units after ea eb h = absurd cc
head_from ms false false units after ea eb h =
    let prefix = prefix_of ms in
    let flags = slice_index prefix 2 in
    record {
      long = ltb-false (length prefix) 3 ea;
      whole = ltb-false (length prefix) (head_len flags) eb;
      following = after_by (after_at prefix) (le (take 2 prefix)) (is_wide flags) (drop (head_len flags) ms) (units_at (le (take 2 prefix)) (is_wide flags) (drop (head_len flags) ms)) units after refl h;
    }

size_from : (prefix : List ℕ) (x r k : ℕ) (b : Bool) → extension_at prefix ≡ x → runs_at prefix ≡ r → nat_lt (extension_at prefix) 2147483648 ≡ b → after_at prefix ≡ Some k → (x < 2 ^ 31) × (k ≡ 4 * r + x)
size_from prefix x r k true ex er eb h =
    let s : x < 2147483648 = subst (λ (n : ℕ). n < 2147483648) ex (ltb-true (extension_at prefix) 2147483648 eb) in
    let g : ◌≡◌ {A = Option ℕ} (Some (4 * runs_at prefix + extension_at prefix)) (Some k) = rw eb at h in
    let e : 4 * runs_at prefix + extension_at prefix ≡ k = cc in
    (s, sym e ∙ ap (λ (n : ℕ). 4 * n + extension_at prefix) er ∙ ap (λ (n : ℕ). 4 * r + n) ex)
size_from prefix x r k false ex er eb h =
    let g : ◌≡◌ {A = Option ℕ} None (Some k) = rw eb at h in
    absurd cc

parts_of : (prefix : List ℕ) → 3 ≤ length prefix → head_len (slice_index prefix 2) ≤ length prefix → HeadParts prefix (slice_index prefix 2)
parts_of [] long whole = absurd (omega arith)
parts_of (x ∷ []) long whole = absurd (omega arith)
parts_of (x ∷ y ∷ []) long whole = absurd (omega arith)
parts_of (x ∷ y ∷ f ∷ rest) long whole = parts_by x y f rest (has_runs f) (has_extension f) refl refl (omega (arith, whole))

str_from : (ms : List Mark) (units : List ℕ) (after : List Mark) → str_at ms ≡ Ok (units, after) → Str ms units after
str_from ms units after e =
    let prefix = prefix_of ms in
    let flags = slice_index prefix 2 in
    let h = head_from ms (nat_lt (length prefix) 3) (nat_lt (length prefix) (head_len flags)) units after refl refl e in
    let p = parts_of prefix h.long h.whole in
    let b = h.following in
    let size = size_from prefix (le p.extension) (le p.runs) b.size (nat_lt (extension_at prefix) 2147483648) p.extension_is p.runs_is refl b.size_is in
    let us = units_split (le (take 2 prefix)) (is_wide flags) (drop (head_len flags) ms) units b.middle b.units_are in
    let t = tail_split b.size b.middle after b.tail_is in
    record {
      count = p.count;
      flags = flags;
      runs = p.runs;
      extension = p.extension;
      steps = us.steps;
      tail = t.0;
      whole = bytes_split (head_len flags) ms h.whole
          ∙ ap (λ (x : List ℕ). map Some x ++ drop (head_len flags) ms) p.whole
          ∙ ap (λ (x : List Mark). map Some (p.count ++ flags ∷ (p.runs ++ p.extension)) ++ x) (us.whole ∙ ap (λ (x : List Mark). marks_of_units us.steps ++ x) t.1);
      count_len = p.count_len;
      runs_len = p.runs_len;
      extension_len = p.extension_len;
      not_negative = size.0;
      are_units = subst (λ (n : ℕ). AreUnits n (is_wide flags) us.steps) p.count_is us.are_units;
      is_tail = subst (λ (n : ℕ). IsTail n t.0) size.1 t.2;
      units_are = us.units_are;
    }

-- ---- elements

starts_byte : (ms : List Mark) (units : List ℕ) (after : List Mark) → Str ms units after → (b : ℕ) × (rest : List Mark) × (ms ≡ Some b ∷ rest)
starts_byte ms units after h =
    let c = two_of h.count h.count_len in
    let more = marks_of_units h.steps ++ (h.tail ++ after) in
    let e : ms ≡ Some c.0 ∷ Some c.1 ∷ (Some h.flags ∷ map Some (h.runs ++ h.extension)) ++ more =
    h.whole ∙ ap (λ (x : List ℕ). map Some (x ++ h.flags ∷ (h.runs ++ h.extension)) ++ more) c.2 in
    (c.0, Some c.1 ∷ (Some h.flags ∷ map Some (h.runs ++ h.extension)) ++ more, e)

next_at_byte : (ms : List Mark) (b : ℕ) (rest : List Mark) → ms ≡ Some b ∷ rest → next_at ms ≡ str_at ms
next_at_byte ms b rest e = rw e refl

next_in_piece : (ms : List Mark) (b : ℕ) (rest : List Mark) → ms ≡ Some b ∷ rest → next_at (None ∷ ms) ≡ str_at ms
next_in_piece ms b rest e = rw e refl

next_empty : (after : List Mark) → StartsNoByte after → next_at (None ∷ after) ≡ Ok ([], after)
next_empty [] h = refl
next_empty (None ∷ ms) h = refl
next_empty (Some b ∷ ms) h = absurd h

element_read : (ms : List Mark) (units : List ℕ) (after : List Mark) → IsElement ms units after → next_at ms ≡ Ok (units, after)
element_read ms units after h = elim h [
  | inl s ↦ let b = starts_byte ms units after s in next_at_byte ms b.0 b.1 b.2 ∙ str_read ms units after s
  | inr more ↦ elim more [
    | inl p ↦
        let b = starts_byte p.0 units after p.2 in
        ap next_at p.1 ∙ next_in_piece p.0 b.0 b.1 b.2 ∙ str_read p.0 units after p.2
    | inr n ↦ ap next_at n.0 ∙ next_empty after n.2 ∙ ap (λ (us : List ℕ). Ok (us, after)) (sym n.1)
  ]
]

same_pair : (x y : List ℕ × List Mark) → ◌≡◌ {A = Result (List ℕ × List Mark) Missing} (Ok x) (Ok y) → x ≡ y
same_pair x y e = cc

empty_from : (ms : List Mark) (units : List ℕ) (after : List Mark) → StartsNoByte ms → ◌≡◌ {A = Result (List ℕ × List Mark) Missing} (Ok ([], ms)) (Ok (units, after)) → IsElement (None ∷ ms) units after
empty_from ms units after n e =
    let p = same_pair ([], ms) (units, after) e in
    let a : ms ≡ after = ap (λ (q : List ℕ × List Mark). q.1) p in
    inr (inr (ap (λ (x : List Mark). None ∷ x) a, sym (ap (λ (q : List ℕ × List Mark). q.0) p), subst StartsNoByte a n))

element_from : (ms : List Mark) (units : List ℕ) (after : List Mark) → next_at ms ≡ Ok (units, after) → IsElement ms units after
element_from [] units after e = inl (str_from [] units after e)
element_from (None ∷ []) units after e = empty_from [] units after tt e
element_from (None ∷ None ∷ ms) units after e = empty_from (None ∷ ms) units after tt e
element_from (None ∷ Some b ∷ ms) units after e = inr (inl (Some b ∷ ms, refl, str_from (Some b ∷ ms) units after e))
element_from (Some b ∷ ms) units after e = inl (str_from (Some b ∷ ms) units after e)

pub same_elements : (ms : List Mark) (units : List ℕ) (after : List Mark) → (next_at ms ≡ Ok (units, after)) ↔ IsElement ms units after
same_elements ms units after = (element_from ms units after, element_read ms units after)

-- ---- tables

table_from : (ms : List Mark) (strings : List (List ℕ)) → Table ms strings → IsStringTable ms strings
table_from ms [] h = h
table_from ms (s ∷ strings) h = (h.0, element_from ms s h.0 h.1, table_from h.0 strings h.2)

table_read : (ms : List Mark) (strings : List (List ℕ)) → IsStringTable ms strings → Table ms strings
table_read ms [] h = h
table_read ms (s ∷ strings) h = (h.0, element_read ms s h.0 h.1, table_read h.0 strings h.2)

pub same_tables : (ms : List Mark) (strings : List (List ℕ)) → Table ms strings ↔ IsStringTable ms strings
same_tables ms strings = (table_from ms strings, table_read ms strings)
