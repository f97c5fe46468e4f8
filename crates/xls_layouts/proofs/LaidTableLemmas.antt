-- A laid table is read as its strings.
use Rattle.std.proofs.Common.{◌≡◌, ℕ, zero, suc, ◌+◌, ◌*◌, ◌/◌, ◌%◌, ◌^◌, ◌<◌, ◌≤◌, Bool, true, false, List, [], ◌∷◌, ◌++◌, length, map, drop, Option, Some, None, Ok, refl, sym, ap, subst, ◌∙◌, append_assoc, arith}
use Rattle.std.specs.Prelude.{nat_lt}
use Rattle.std.specs.List.{AllByRecursion}
use Rattle.std.proofs.lemmas.List.{drop_at, length-map, length-append}
use Rattle.xls_bytes.specs.Numbers.{le, le16}
use Rattle.xls_stream.specs.StringTable.{Mark, is_wide, prefix_of, marked, with_unit, units_at, tail_at, has_runs, has_extension, head_at, with_tail, with_units, with_head, str_at, next_at, Table}
use Rattle.xls_layouts.specs.LaidStrings.{le32, Step, put, cut, wide_bit, marks_of_steps, units_of_steps, AreSteps, bytes_in, IsCutWell, number_or_zero, LaidString, code_units, head_bytes, marks_of_break, marks_of_string, IsLaidString, marks_of_strings, lists_of, pieces_of, IsLaidTable}

over_mark : (n : ℕ) (wide next : Bool) (ms : List Mark) → 0 < n → units_at n wide (None ∷ Some (wide_bit next) ∷ ms) ≡ units_at n next ms
unfolding units_at
over_mark zero wide next ms some = absurd (omega arith)
over_mark (suc n) true true ms some = refl
over_mark (suc n) true false ms some = refl
over_mark (suc n) false true ms some = refl
over_mark (suc n) false false ms some = refl

pub laid_units : (wide : Bool) (steps : List Step) (rest : List Mark) → AreSteps wide steps → units_at (length (units_of_steps steps)) wide (marks_of_steps wide steps ++ rest) ≡ Some (units_of_steps steps, rest)
unfolding units_at
laid_units wide [] rest h = refl
laid_units false (put u ∷ steps) rest h = ap (with_unit u) (laid_units false steps rest h.1)
laid_units true (put u ∷ steps) rest h =
    let sum : u % 256 + 256 * (u / 256) ≡ u = omega arith in
    rw sum (ap (with_unit u) (laid_units true steps rest h.1))
laid_units wide (cut next ∷ steps) rest h = over_mark (length (units_of_steps steps)) wide next (marks_of_steps next steps ++ rest) h.0 ∙ laid_units next steps rest h.1

pub laid_tail : (ms rest : List Mark) → IsCutWell ms → tail_at (bytes_in ms) (ms ++ rest) ≡ Some rest
unfolding tail_at
laid_tail [] rest h = refl
laid_tail (Some b ∷ ms) rest h = laid_tail ms rest h
laid_tail (None ∷ []) rest h = absurd h.0
laid_tail (None ∷ None ∷ ms) rest h = absurd h.0
laid_tail (None ∷ Some b ∷ ms) rest h = laid_tail ms rest h.1

prefix_over : (bs : List ℕ) (ms : List Mark) → prefix_of (map Some bs ++ ms) ≡ bs ++ prefix_of ms
prefix_over [] ms = refl
prefix_over (b ∷ bs) ms = ap (λ (x : List ℕ). b ∷ x) (prefix_over bs ms)

not_below : (m n : ℕ) → n ≤ m → nat_lt m n ≡ false
not_below m n h = grind arith

below : (m n : ℕ) → m < n → nat_lt m n ≡ true
below m n h = grind arith

le-le16 : (n : ℕ) → n < 2 ^ 16 → le (le16 n) ≡ n
le-le16 n h = omega arith

le-le32 : (n : ℕ) → n < 2 ^ 32 → le (le32 n) ≡ n
le-le32 n h = omega arith

head_five : (wide : Bool) (flags r count : ℕ) (prefix : List ℕ) → is_wide flags ≡ wide → has_runs flags ≡ true → has_extension flags ≡ false → count < 2 ^ 16 → r < 2 ^ 16
    → head_at (count % 256 ∷ count / 256 ∷ flags ∷ r % 256 ∷ r / 256 ∷ prefix) ≡ Ok (record { len = 5; count = count; wide = wide; following = Some (4 * r + 0) })
head_five wide flags r count prefix w a b hc hr =
    let n = suc (suc (suc (suc (suc (length prefix))))) in
    rw (a, b, w, not_below n 3 (omega arith), not_below n 5 (omega arith), le-le16 count hc, le-le16 r hr) refl

head_seven : (wide : Bool) (flags x count : ℕ) (prefix : List ℕ) → is_wide flags ≡ wide → has_runs flags ≡ false → has_extension flags ≡ true → count < 2 ^ 16 → x < 2 ^ 31
    → head_at (count % 256 ∷ count / 256 ∷ flags ∷ x % 256 ∷ x / 256 % 256 ∷ x / 65536 % 256 ∷ x / 16777216 ∷ prefix) ≡ Ok (record { len = 7; count = count; wide = wide; following = Some (0 + x) })
head_seven wide flags x count prefix w a b hc hx =
    let n = suc (suc (suc (suc (suc (suc (suc (length prefix))))))) in
    rw (a, b, w, not_below n 3 (omega arith), not_below n 7 (omega arith), le-le16 count hc, le-le32 x (omega arith), below x 2147483648 (omega arith)) refl

head_nine : (wide : Bool) (flags r x count : ℕ) (prefix : List ℕ) → is_wide flags ≡ wide → has_runs flags ≡ true → has_extension flags ≡ true → count < 2 ^ 16 → r < 2 ^ 16 → x < 2 ^ 31
    → head_at (count % 256 ∷ count / 256 ∷ flags ∷ r % 256 ∷ r / 256 ∷ x % 256 ∷ x / 256 % 256 ∷ x / 65536 % 256 ∷ x / 16777216 ∷ prefix) ≡ Ok (record { len = 9; count = count; wide = wide; following = Some (4 * r + x) })
head_nine wide flags r x count prefix w a b hc hr hx =
    let n = suc (suc (suc (suc (suc (suc (suc (suc (suc (length prefix))))))))) in
    rw (a, b, w, not_below n 3 (omega arith), not_below n 9 (omega arith), le-le16 count hc, le-le16 r hr, le-le32 x (omega arith), below x 2147483648 (omega arith)) refl

pub laid_head : (wide : Bool) (count : ℕ) (runs extension : Option ℕ) (prefix : List ℕ) → count < 2 ^ 16 → number_or_zero runs < 2 ^ 16 → number_or_zero extension < 2 ^ 31
    → head_at (head_bytes wide count runs extension ++ prefix) ≡ Ok (record { len = length (head_bytes wide count runs extension); count = count; wide = wide; following = Some (4 * number_or_zero runs + number_or_zero extension) })
laid_head true count None None prefix hc hr hx =
    rw (not_below (suc (suc (suc (length prefix)))) 3 (omega arith), le-le16 count hc) refl
laid_head false count None None prefix hc hr hx =
    rw (not_below (suc (suc (suc (length prefix)))) 3 (omega arith), le-le16 count hc) refl
laid_head true count (Some r) None prefix hc hr hx = head_five true 9 r count prefix refl refl refl hc hr
laid_head false count (Some r) None prefix hc hr hx = head_five false 8 r count prefix refl refl refl hc hr
laid_head true count None (Some x) prefix hc hr hx = head_seven true 5 x count prefix refl refl refl hc hx
laid_head false count None (Some x) prefix hc hr hx = head_seven false 4 x count prefix refl refl refl hc hx
laid_head true count (Some r) (Some x) prefix hc hr hx = head_nine true 13 r x count prefix refl refl refl hc hr hx
laid_head false count (Some r) (Some x) prefix hc hr hx = head_nine false 12 r x count prefix refl refl refl hc hr hx

-- a head, units and what is behind them
str_laid : (s : LaidString) (rest : List Mark) → IsLaidString s → str_at (map Some (head_bytes s.wide (length (code_units s)) s.runs s.extension) ++ (marks_of_steps s.wide s.steps ++ (s.following ++ rest))) ≡ Ok (code_units s, rest)
str_laid s rest h =
    let bytes = head_bytes s.wide (length (code_units s)) s.runs s.extension in
    let more = marks_of_steps s.wide s.steps ++ (s.following ++ rest) in
    let ms = map Some bytes ++ more in
    let size = 4 * number_or_zero s.runs + number_or_zero s.extension in
    let first : head_at (prefix_of ms) ≡ Ok (record { len = length bytes; count = length (code_units s); wide = s.wide; following = Some size }) =
    ap head_at (prefix_over bytes more) ∙ laid_head s.wide (length (code_units s)) s.runs s.extension (prefix_of more) h.count h.runs h.extension in
    let left : drop (length bytes) ms ≡ more = drop_at (map Some bytes) more (length bytes) (length-map bytes Some) in
    let us : units_at (length (code_units s)) s.wide more ≡ Some (code_units s, s.following ++ rest) = laid_units s.wide s.steps (s.following ++ rest) h.steps in
    let end : tail_at size (s.following ++ rest) ≡ Some rest = subst (λ (n : ℕ). tail_at n (s.following ++ rest) ≡ Some rest) h.all_after (laid_tail s.following rest h.cut_well) in
    ap (with_head ms) first
    ∙ ap (λ (x : List Mark). with_units (Some size) (units_at (length (code_units s)) s.wide x)) left
    ∙ ap (with_units (Some size)) us
    ∙ ap (with_tail (code_units s)) end

at_break : (b : Bool) (x : ℕ) (ms : List Mark) → next_at (marks_of_break b ++ (Some x ∷ ms)) ≡ str_at (Some x ∷ ms)
at_break true x ms = refl
at_break false x ms = refl

regroup : (a b c d e : List Mark) → (a ++ (b ++ (c ++ d))) ++ e ≡ a ++ (b ++ (c ++ (d ++ e)))
regroup a b c d e = simp append_assoc

pub laid_string : (s : LaidString) (rest : List Mark) → IsLaidString s → next_at (marks_of_string s ++ rest) ≡ Ok (code_units s, rest)
laid_string s rest h =
    let bytes = head_bytes s.wide (length (code_units s)) s.runs s.extension in
    ap next_at (regroup (marks_of_break s.begins_piece) (map Some bytes) (marks_of_steps s.wide s.steps) s.following rest)
    ∙ at_break s.begins_piece _ _
    ∙ str_laid s rest h

pub table_of_laid : (strings : List LaidString) → AllByRecursion IsLaidString strings → Table (marks_of_strings strings) (lists_of strings)
table_of_laid [] h = refl
table_of_laid (s ∷ strings) h = (marks_of_strings strings, laid_string s (marks_of_strings strings) h.0, table_of_laid strings h.1)

-- ---- an SST record and its Continue records

pub marked-pieces : (ms : List Mark) → marked (prefix_of ms) (pieces_of ms) ≡ ms
marked-pieces [] = refl
marked-pieces (None ∷ ms) = ap (λ (x : List Mark). None ∷ x) (marked-pieces ms)
marked-pieces (Some b ∷ ms) = ap (λ (x : List Mark). Some b ∷ x) (marked-pieces ms)

-- the marked bytes after the first eight
pub laid_marks : (first : List ℕ) (strings : List LaidString) → IsLaidTable first strings
    → marked (drop 8 (first ++ prefix_of (marks_of_strings strings))) (pieces_of (marks_of_strings strings)) ≡ marks_of_strings strings
laid_marks first strings h =
    let ms = marks_of_strings strings in
    let e = h.eight in
    ap (λ (x : List ℕ). marked x (pieces_of ms)) (drop_at first (prefix_of ms) 8 e) ∙ marked-pieces ms

pub laid_eight : (first : List ℕ) (strings : List LaidString) → IsLaidTable first strings
    → 8 ≤ length (first ++ prefix_of (marks_of_strings strings))
laid_eight first strings h = let e = h.eight in omega (arith, length-append first (prefix_of (marks_of_strings strings)))

-- they are its strings
pub laid_sst : (first : List ℕ) (strings : List LaidString) → IsLaidTable first strings
    → Table (marked (drop 8 (first ++ prefix_of (marks_of_strings strings))) (pieces_of (marks_of_strings strings))) (lists_of strings)
laid_sst first strings h =
    subst (λ (x : List Mark). Table x (lists_of strings)) (sym (laid_marks first strings h)) (table_of_laid strings h.are_laid)
