-- Where cells and formulas stand in a part, and what is read there.
use Rattle.std.proofs.Common.{◌≡◌, ℕ, zero, suc, ◌+◌, ◌-◌, ◌<◌, ◌≤◌, List, [], ◌∷◌, ◌++◌, map, length, drop, refl, sym, ap, subst, ◌∙◌, append_assoc, arith, Bool, true, false, Option, Some, None, Result, Ok, Err}
use Rattle.std.specs.Prelude.{◌==◌, if◌then◌else◌, slice_get, unwrap_or, OnOk}
use Rattle.std.specs.Option.{option_map}
use Rattle.std.specs.List.{AllByRecursion, range_with_len, flat_map}
use Rattle.std.proofs.lemmas.List.{map-append, length-append}
use Rattle.xls_stream.specs.Stream.{Group, Begins, group_bytes}
use Rattle.xls_stream.specs.Cut.{Cut}
use Rattle.xls_stream.specs.Walks.{IsBytes, Groups}
use Rattle.xls_stream.specs.Listing.{Kept, kept_group}
use Rattle.xls_stream.specs.declared.part.Part.{Part}
use Rattle.xls_stream.specs.declared.types.TheConstants as types
use Rattle.xls_stream.proofs.Ends.{has_groups, one_groups}
use Rattle.xls_stream.proofs.Runs.{Run-whole}
use Rattle.xls_stream.proofs.Outlines.{run_bytes}
use Rattle.xls_data.specs.Content.{Content, nothing, text}
use Rattle.xls_range.specs.Positions.{Position, Precedes, IsAscending, last_at, cell_position}
use Rattle.xls_record.specs.declared.error.XlsError.{XlsError}
use Rattle.xls_record.specs.Reading.{gives, results_listed, fault_in}
use Rattle.xls_biff.specs.Cells.{CellEntry}
use Rattle.xls_biff.specs.Outer.{Keeps}
use Rattle.xls_biff.specs.Records.Rk.{first_column, mul_rk_at, mul_rk_count, rk_cell}
use Rattle.xls_biff.specs.SheetTable.{SheetRecord, empty_record, cells_record, shared_record, string_record, formula_record, regions_record}
use Rattle.xls_formula.specs.Context.{Context}
use Rattle.xls_meaning.specs.Settings.{Settings}
use Rattle.xls_meaning.specs.SheetTable.{Yield, adds, yield_at, kept_line, listed_cell}
use Rattle.xls_meaning.specs.Reading.{yield_of}
use Rattle.xls_meaning.specs.Order.{somes}
use Rattle.xls_view.specs.SheetContents.{settled}
use Rattle.xls_view.specs.Formulas.{Formula, formula_of}
use Rattle.xls_view.specs.Groups.{groups_in}
use Rattle.xls_view.specs.Values.{lent_content}
use Rattle.xls_view.specs.declared.value.CellValue.{CellValue}
use Rattle.xls_view.specs.Formats.{FormattedCell, with_format, with_formats}
use Rattle.xls_view.specs.Formatting.{place_of}
use Rattle.xls_view.specs.Placed.{FormattedPlace, cell_in, cell_number, cell_placed, first_kept, formula_placed, record_at, tokens_in, value_at}
use Rattle.xls_view.specs.SheetPlacing.{value_or_blank}
use Rattle.xls_view.proofs.SettledLemmas.{is_settled, seen, settled_seen}
use Rattle.xls_view.proofs.WalkLemmas.{are_groups, drop_bytes}

-- ---- positions that ascend

through : (a b c d e f : ℕ) → Precedes (a, b) (c, d) → Precedes (c, d) (e, f) → Precedes (a, b) (e, f)
through a b c d e f h k = grind arith

all_last : (P : Position → Type 0) (prefix : List Position) (q : Position) → AllByRecursion P (prefix ++ q ∷ []) → P q
all_last P [] q a = a.0
all_last P (x ∷ prefix) q a = all_last P prefix q a.1

all_more : (P : Position → Type 0) (ps : List Position) (q : Position) → AllByRecursion P ps → P q → AllByRecursion P (ps ++ q ∷ [])
all_more P [] q a h = (h, tt)
all_more P (p ∷ ps) q a h = (a.0, all_more P ps q a.1 h)

pub ascends_more : (prefix : List Position) (last p : Position) → IsAscending (prefix ++ last ∷ []) → Precedes last p
    → IsAscending ((prefix ++ last ∷ []) ++ p ∷ [])
ascends_more [] last p a h = ((h, tt), (tt, tt))
ascends_more (x ∷ prefix) last p a h =
    let far = through x.0 x.1 last.0 last.1 p.0 p.1 (all_last (Precedes x) prefix last a.0) h in
    (all_more (Precedes x) (prefix ++ last ∷ []) p a.0 far, ascends_more prefix last p a.1 h)

-- one more of what is gone through
pub seen_more : {X : Type 0} (at : X → Position) (all done : List X) (x : X) (left : List X) (before : List X) → done ++ before ≡ all → before ≡ x ∷ left
    → (done ++ x ∷ []) ++ left ≡ all
seen_more at all done x left before e f = append_assoc done (x ∷ []) left ∙ ap (λ l. done ++ l) (sym f) ∙ e

-- ---- the first record of bytes

pub first_begun : (bytes : List ℕ) (g : Group) (rest : List ℕ) → IsBytes bytes → Begins bytes g rest → first_kept (groups_in bytes).0 ≡ kept_group g
first_begun bytes g rest fits b =
    let more = has_groups rest (run_bytes bytes (g ∷ []) rest (rest, b, refl) fits) in
    let here : Groups bytes (g ∷ more.0) more.1 = record {
      rest = more.2.rest;
      run = (rest, b, more.2.run);
      end = more.2.end;
    } in
    let all = groups_in bytes in
    ap first_kept (one_groups bytes all.0 (g ∷ more.0) all.1 more.1 (are_groups bytes fits) here).0

pub first_cut : (bytes : List ℕ) (p : Part) → IsBytes bytes → Cut bytes p → first_kept (groups_in bytes).0 ≡ record { typ = 0; body = [] }
first_cut bytes p fits c =
    let here : Groups bytes [] (Some p) = record { rest = bytes; run = refl; end = c } in
    let all = groups_in bytes in
    ap first_kept (one_groups bytes all.0 [] all.1 (Some p) (are_groups bytes fits) here).0

pub first_none : (bytes : List ℕ) → IsBytes bytes → bytes ≡ [] → first_kept (groups_in bytes).0 ≡ record { typ = 0; body = [] }
first_none bytes fits e =
    let here : Groups bytes [] None = record { rest = []; run = e; end = refl } in
    let all = groups_in bytes in
    ap first_kept (one_groups bytes all.0 [] all.1 None (are_groups bytes fits) here).0

-- ---- tails of a part

pub drop_prefix : (prefix rest : List ℕ) → drop (length (prefix ++ rest) - length rest) (prefix ++ rest) ≡ rest
drop_prefix prefix rest =
    let n : length (prefix ++ rest) - length rest ≡ length prefix = omega (arith, length-append prefix rest) in
    rw n (by_prefix prefix)
  where
    by_prefix : (f : List ℕ) → drop (length f) (f ++ rest) ≡ rest
    by_prefix [] = refl
    by_prefix (x ∷ f) = by_prefix f

-- a record that begins a tail of the part stands at its offset
pub tail_record : (part prefix start : List ℕ) (g : Group) (rest : List ℕ) → IsBytes start → part ≡ prefix ++ start → Begins start g rest
    → record_at part (length part - length start) ≡ kept_group g
tail_record part prefix start g rest fits e b =
    ap (λ (x : List ℕ). first_kept (groups_in (drop (length x - length start) x)).0) e
    ∙ ap (λ (x : List ℕ). first_kept (groups_in x).0) (drop_prefix prefix start)
    ∙ first_begun start g rest fits b

pub tail_bytes : (before skipped start : List ℕ) → IsBytes before → before ≡ skipped ++ start → IsBytes start
tail_bytes before skipped start fits e = subst IsBytes (drop_prefix skipped start) (drop_bytes (skipped ++ start) (length (skipped ++ start) - length start) (subst IsBytes e fits))

pub tail_tail : (part prefix before skipped start : List ℕ) → part ≡ prefix ++ before → before ≡ skipped ++ start → part ≡ (prefix ++ skipped) ++ start
tail_tail part prefix before skipped start e f = e ∙ ap (λ (x : List ℕ). prefix ++ x) f ∙ sym (append_assoc prefix skipped start)

pub tail_short : (part prefix start : List ℕ) → part ≡ prefix ++ start → length start ≤ length part
tail_short part prefix start e = rw e (omega (arith, length-append prefix start))

-- what a step leaves is a tail
pub tail_after : (part prefix before : List ℕ) (was : ℕ) (g : Group) (after : List ℕ) (now : ℕ) → part ≡ prefix ++ before → Keeps before was g after now
    → (following : List ℕ) × (part ≡ following ++ after)
tail_after part prefix before was g after now e k =
    let bytes = flat_map group_bytes (k.groups ++ g ∷ []) in
    (prefix ++ bytes, tail_tail part prefix before bytes after e (Run-whole before (k.groups ++ g ∷ []) after k.run))

-- ---- formulas at their places

pub formulas_placed : (part : List ℕ) (at : ℕ) (k : Kept) → record_at part at ≡ k
    → map (formula_placed part) (map (λ (f : Formula). (f.0, at)) (somes (formula_of k ∷ []))) ≡ somes (formula_of k ∷ [])
formulas_placed part at k e = by_formula (formula_of k) refl
  where
    by_formula : (o : Option Formula) → formula_of k ≡ o → map (formula_placed part) (map (λ (f : Formula). (f.0, at)) (somes (o ∷ []))) ≡ somes (o ∷ [])
    by_formula None f = refl
    by_formula (Some x) f = ap (λ (cs : List ℕ). (x.0, cs) ∷ []) (ap (λ (j : Kept). tokens_in (formula_of j)) e ∙ ap tokens_in f)

-- ---- cells at their places

-- the cells of a MulRk
pub run_is : {X : Type 0} (f : ℕ → X) (r : Result ℕ XlsError) (n : ℕ) (cells : List X) → r ≡ Ok n → results_listed f r ≡ Ok cells → cells ≡ map f (range_with_len 0 n)
run_is f r n cells e h = let l : results_listed f (Ok n) ≡ Ok cells = rw e at h in cc

pub get_run : {X : Type 0} (f : ℕ → X) (a n i : ℕ) → i < n → slice_get (map f (range_with_len a n)) i ≡ Some (f (a + i))
get_run f a zero i l = absurd (omega arith)
get_run f a (suc n) zero l = let e : a ≡ a + 0 = omega arith in ap (λ (j : ℕ). Some (f j)) e
get_run f a (suc n) (suc i) l = let e : a + 1 + i ≡ a + suc i = omega arith in get_run f (a + 1) n i (omega arith) ∙ ap (λ (j : ℕ). Some (f j)) e

pub get_past_run : {X : Type 0} (f : ℕ → X) (a n i : ℕ) → n ≤ i → slice_get (map f (range_with_len a n)) i ≡ None
get_past_run f a zero i l = refl
get_past_run f a (suc n) zero l = absurd (omega arith)
get_past_run f a (suc n) (suc i) l = get_past_run f (a + 1) n i (omega arith)

-- ---- in order

pub sorted_seen : {X Y : Type 0} (content : Position → X → Y) (xs found : List (Position × X)) → IsAscending (map cell_position found)
    → ((p : Position) → last_at found p ≡ last_at xs p) → map (seen content) found ≡ settled (map (seen content) xs)
sorted_seen content xs found a h = ap (map (seen content)) (is_settled xs found a h) ∙ settled_seen content xs

-- ---- the value of a cell of a record

abbrev pub value_of : Option CellEntry → Content
value_of o = unwrap_or (option_map (λ (c : CellEntry). c.1) o) nothing

same_value : (p : Position) (o : Option CellEntry) → value_of o ≡ (unwrap_or o (p, nothing)).1
same_value p None = refl
same_value p (Some c) = refl

pub no_record : (s : Settings) (p : Position) (k : Kept) → k ≡ record { typ = 0; body = [] } → cell_in s p k ≡ nothing
no_record s p k e = rw e refl

pub faulty_record : (s : Settings) (p : Position) (k : Kept) (e : XlsError) → fault_in (kept_line s.cells k) ≡ Err e → cell_in s p k ≡ nothing
faulty_record s p k e h = by_line (kept_line s.cells k) h
  where
    by_line : (r : Result SheetRecord XlsError) → fault_in r ≡ Err e
        → (unwrap_or (slice_get (yield_of (gives (adds s.formulas p) r)).cells (cell_number p k)) (p, nothing)).1 ≡ nothing
    by_line (Ok g) f = absurd cc
    by_line (Err x) f = refl

pub sound_record : (r : Result SheetRecord XlsError) → fault_in r ≡ Ok tt → (g : SheetRecord) × (r ≡ Ok g)
sound_record (Ok g) f = (g, refl)
sound_record (Err x) f = absurd cc

-- of a MulRk
pub value_run : (s : Settings) (p : Position) (n : ℕ) (o : Option Content) (g : SheetRecord) (r : Result (List CellEntry) XlsError) → gives cells_record r ≡ Ok g
    → ((cells : List CellEntry) → r ≡ Ok cells → o ≡ option_map (λ (c : CellEntry). c.1) (slice_get cells n))
    → unwrap_or o nothing ≡ (unwrap_or (slice_get (yield_of (gives (adds s.formulas p) (gives cells_record r))).cells n) (p, nothing)).1
value_run s p n o g (Ok cells) h k = ap (λ (x : Option Content). unwrap_or x nothing) (k cells refl) ∙ same_value p (slice_get cells n)
value_run s p n o g (Err e) h k = absurd cc

-- of a record with one cell
pub value_one : (s : Settings) (p : Position) (found : Option CellEntry) (g : SheetRecord) (r : Result SheetRecord XlsError) → r ≡ Ok g
    → listed_cell found ≡ (adds s.formulas p g).cells
    → value_of found ≡ (unwrap_or (slice_get (yield_of (gives (adds s.formulas p) r)).cells 0) (p, nothing)).1
value_one s p found g r e h =
    rw (e, sym h) (by_found found)
  where
    by_found : (o : Option CellEntry) → value_of o ≡ (unwrap_or (slice_get (listed_cell o) 0) (p, nothing)).1
    by_found None = refl
    by_found (Some c) = refl

-- ---- the places of a record's cells

-- a cell that a record gives is read at its position again
same_adds : (s : Settings) (at : Position) (g : SheetRecord) (c : CellEntry) → (adds s.formulas at g).cells ≡ c ∷ [] → (adds s.formulas c.0 g).cells ≡ c ∷ []
same_adds s at empty_record c h = absurd cc
same_adds s at (cells_record cs) c h = h
same_adds s at (shared_record o) c h = h
same_adds s at (string_record cs) c h =
    let same : ◌≡◌ {A = CellEntry} (at, text cs) c = cc in
    let one : Position → List CellEntry = λ p. (p, text cs) ∷ [] in
    ap one (ap (λ (x : CellEntry). x.0) (sym same)) ∙ h
same_adds s at (formula_record p value tokens) c h = h
same_adds s at (regions_record rs) c h = absurd cc

one_of : (o : Option CellEntry) (c : CellEntry) → o ≡ Some c → listed_cell o ≡ c ∷ []
one_of o c e = ap listed_cell e

-- a record with one cell
pub place_one : (s : Settings) (part : List ℕ) (at : ℕ) (last : Position) (k : Kept) (g : SheetRecord) (c : CellEntry) → record_at part at ≡ k
    → (k.typ == types.MUL_RK) ≡ false → kept_line s.cells k ≡ Ok g → c ∷ [] ≡ (adds s.formulas last g).cells
    → value_at s part c.0 at ≡ c.1
place_one s part at last k g c here typ line one =
    let again : yield_of (yield_at s c.0 k) ≡ adds s.formulas c.0 g = ap (λ (r : Result SheetRecord XlsError). yield_of (gives (adds s.formulas c.0) r)) line in
    let cells : (yield_of (yield_at s c.0 k)).cells ≡ c ∷ [] = ap (λ (x : Yield). x.cells) again ∙ same_adds s last g c (sym one) in
    let n : cell_number c.0 k ≡ 0 = ap (λ (b : Bool). if b then c.0.1 - first_column k.body else 0) typ in
    ap (λ (j : Kept). cell_in s c.0 j) here
    ∙ ap (λ (xs : List CellEntry). (unwrap_or (slice_get xs (cell_number c.0 k)) (c.0, nothing)).1) cells
    ∙ ap (λ (m : ℕ). (unwrap_or (slice_get (c ∷ []) m) (c.0, nothing)).1) n

-- a cell of a MulRk by its number
run_value : (s : Settings) (part : List ℕ) (at : ℕ) (k : Kept) (a count : ℕ) → record_at part at ≡ k → k.typ ≡ types.MUL_RK
    → mul_rk_at s.cells.classes s.cells.is_1904 k.body ≡ Ok (map (rk_cell s.cells.classes s.cells.is_1904 k.body) (range_with_len 0 count)) → a < count
    → value_at s part (rk_cell s.cells.classes s.cells.is_1904 k.body a).0 at ≡ (rk_cell s.cells.classes s.cells.is_1904 k.body a).1
run_value s part at k a count here typ read within =
    let f = rk_cell s.cells.classes s.cells.is_1904 k.body in
    let p = (f a).0 in
    let t : (k.typ == types.MUL_RK) ≡ true = rw typ refl in
    let over : first_column k.body + a - first_column k.body ≡ a = omega arith in
    let number : cell_number p k ≡ a = ap (λ (b : Bool). if b then p.1 - first_column k.body else 0) t ∙ over in
    let line : kept_line s.cells k ≡ Ok (cells_record (map f (range_with_len 0 count))) = rw typ (ap (gives cells_record) read) in
    let cells : (yield_of (yield_at s p k)).cells ≡ map f (range_with_len 0 count) =
    ap (λ (r : Result SheetRecord XlsError). (yield_of (gives (adds s.formulas p) r)).cells) line in
    let zero_add : 0 + a ≡ a = omega arith in
    ap (λ (j : Kept). cell_in s p j) here
    ∙ ap (λ (xs : List CellEntry). (unwrap_or (slice_get xs (cell_number p k)) (p, nothing)).1) cells
    ∙ ap (λ (m : ℕ). (unwrap_or (slice_get (map f (range_with_len 0 count)) m) (p, nothing)).1) number
    ∙ ap (λ (o : Option CellEntry). (unwrap_or o (p, nothing)).1) (get_run f 0 count a within)
    ∙ ap (λ (i : ℕ). (f i).1) zero_add

-- its cells, at their places
pub run_each : (s : Settings) (part : List ℕ) (at : ℕ) (k : Kept) (xf : ℕ → ℕ) (a n count : ℕ) → record_at part at ≡ k → k.typ ≡ types.MUL_RK
    → mul_rk_at s.cells.classes s.cells.is_1904 k.body ≡ Ok (map (rk_cell s.cells.classes s.cells.is_1904 k.body) (range_with_len 0 count)) → a + n ≡ count
    → map (cell_placed s part) (map (place_of at) (with_formats xf a (map (rk_cell s.cells.classes s.cells.is_1904 k.body) (range_with_len a n))))
    ≡ with_formats xf a (map (rk_cell s.cells.classes s.cells.is_1904 k.body) (range_with_len a n))
run_each s part at k xf a zero count here typ read len = refl
run_each s part at k xf a (suc n) count here typ read len =
    let f = rk_cell s.cells.classes s.cells.is_1904 k.body in
    let others = with_formats xf (a + 1) (map f (range_with_len (a + 1) n)) in
    ap (λ (v : Content). with_format ((f a).0, v) (xf a) ∷ map (cell_placed s part) (map (place_of at) others)) (run_value s part at k a count here typ read (omega (arith, len)))
    ∙ ap (λ (l : List FormattedCell). with_format (f a) (xf a) ∷ l) (run_each s part at k xf (a + 1) n count here typ read (omega (arith, len)))

-- ---- the places of any record

-- the cells of a MulRk without a fault, at their places
pub run_placed : (s : Settings) (part : List ℕ) (at : ℕ) (last : Position) (k : Kept) (xf : ℕ → ℕ) (g : SheetRecord) → record_at part at ≡ k → k.typ ≡ types.MUL_RK
    → gives cells_record (mul_rk_at s.cells.classes s.cells.is_1904 k.body) ≡ Ok g
    → map (cell_placed s part) (map (place_of at) (with_formats xf 0 (adds s.formulas last g).cells)) ≡ with_formats xf 0 (adds s.formulas last g).cells
run_placed s part at last k xf g here typ line = by_count (mul_rk_count k.body) refl line
  where
    by_count : (r : Result ℕ XlsError) → mul_rk_count k.body ≡ r → gives cells_record (results_listed (rk_cell s.cells.classes s.cells.is_1904 k.body) r) ≡ Ok g
        → map (cell_placed s part) (map (place_of at) (with_formats xf 0 (adds s.formulas last g).cells)) ≡ with_formats xf 0 (adds s.formulas last g).cells
    by_count (Err e) c h = absurd cc
    by_count (Ok count) c h =
        let f = rk_cell s.cells.classes s.cells.is_1904 k.body in
        let same : cells_record (map f (range_with_len 0 count)) ≡ g = cc in
        subst (λ (x : SheetRecord). map (cell_placed s part) (map (place_of at) (with_formats xf 0 (adds s.formulas last x).cells)) ≡ with_formats xf 0 (adds s.formulas last x).cells) same
        (run_each s part at k xf 0 count count here typ (ap (results_listed f) c) (omega arith))

-- what was put
pub on_ok : {E P Q : Type 0} (r : Result (Unit {0}) E) → (P → Q) → OnOk r P → OnOk r Q
on_ok (Ok u) f h = f h
on_ok (Err e) f h = tt

pub put_all : (s : Settings) (part : List ℕ) (old new more : List FormattedPlace) (cells : List FormattedCell) → new ≡ old ++ more → map (cell_placed s part) more ≡ cells
    → map (cell_placed s part) new ≡ map (cell_placed s part) old ++ cells
put_all s part old new more cells e h =
    ap (map (cell_placed s part)) e ∙ map-append (cell_placed s part) old more ∙ ap (λ (l : List FormattedCell). map (cell_placed s part) old ++ l) h

pub same_ok : (a b : SheetRecord) → ◌≡◌ {A = Result SheetRecord XlsError} (Ok a) (Ok b) → a ≡ b
same_ok a b e = cc

-- what the places of a MulRk's cells are, by its line
pub run_pushed : (P : List CellEntry → Type 0) (context : Context) (at : Position) (g : SheetRecord) (r : Result (List CellEntry) XlsError) → gives cells_record r ≡ Ok g
    → ((cells : List CellEntry) → r ≡ Ok cells → P cells) → P ((adds context at g).cells)
run_pushed P context at g (Ok cells) h k =
    let same : cells_record cells ≡ g = cc in subst (λ (x : SheetRecord). P ((adds context at x).cells)) same (k cells refl)
run_pushed P context at g (Err e) h k = absurd cc

-- a value by its content
pub or_blank : (o : Option CellValue) → value_or_blank o ≡ unwrap_or (option_map lent_content o) nothing
or_blank None = refl
or_blank (Some v) = refl

-- a record of another type than MulRk
pub apart : (k : Kept) → (k.typ ≡ types.MUL_RK → ⊥) → (k.typ == types.MUL_RK) ≡ false
apart k h = by_test (k.typ == types.MUL_RK) refl
  where
    by_test : (b : Bool) → (k.typ == types.MUL_RK) ≡ b → b ≡ false
    by_test true e = absurd (h (grind arith))
    by_test false e = refl
