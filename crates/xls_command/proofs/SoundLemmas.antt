-- No place of the stream has a fault.
use Rattle.std.proofs.Common.{◌≡◌, ℕ, ◌+◌, ◌*◌, ◌≤◌, false, List, [], ◌∷◌, ◌++◌, length, refl, sym, ap, subst, ◌∙◌, arith, Option, Some, None, Result, Ok}
use Rattle.std.specs.Prelude.{pos, nat_lt}
use Rattle.std.specs.Option.{option_or}
use Rattle.std.specs.List.{flat_map, range_with_len, AllByRecursion}
use Rattle.std.proofs.lemmas.List.FromFn.{length-range_with_len}
use Rattle.xls_stream.specs.Listing.{Kept}
use Rattle.xls_data.specs.Content.{int, text}
use Rattle.xls_biff.specs.SheetTable.{CellContext, SheetRecord, cells_record, shared_record}
use Rattle.xls_record.specs.declared.error.XlsError.{XlsError}
use Rattle.xls_meaning.specs.Order.{map_with_earlier, first_of}
use Rattle.xls_meaning.specs.Settings.{cells_of}
use Rattle.xls_meaning.specs.GlobalsTable.{fault_of}
use Rattle.xls_meaning.specs.SheetTable.{kept_line}
use Rattle.xls_meaning.specs.Faults.{weight_from, weight_in, weight_fault, kept_fault, IsFull, IsSound}
use Rattle.xls_open.specs.Opening.{default_rules}
use Rattle.xls_open.proofs.LaidLemmas.{laid_sound}
use Rattle.xls_command.specs.Sample.{sample_word, kept_row, sample_list, sample_stream, sample_layout}
use Rattle.xls_command.proofs.LengthLemmas.{sample_length}
use Rattle.xls_command.proofs.LayoutLemmas.{laid_so, list_so, valid}
use Rattle.xls_command.proofs.YieldLemmas.{int_kept, word_kept, int_line, word_line}
use Rattle.xls_command.proofs.ReadLemmas.{IsRow, IsSet, is_set, rows_below}

-- ---- weights

-- the weight of one record more
weight_more : (s : CellContext) (ks : List Kept) (k : Kept)
    → weight_in s (ks ++ k ∷ []) ≡ weight_in s ks + weight_from (kept_line s k)
weight_more s [] k = omega arith
weight_more s (j ∷ ks) k = omega (arith, weight_more s ks k)

-- a number that isn't greater fails the test
not_below : (n m : ℕ) → m ≤ n → nat_lt n m ≡ false
not_below n m h = grind arith

-- a weight within the limit is no fault
light : (s : CellContext) (ks : List Kept) → weight_in s ks ≤ 33554432 → weight_fault default_rules s ks ≡ None
light s ks h = let t : nat_lt 33554432 (weight_in s ks) ≡ false = not_below 33554432 (weight_in s ks) h in
    rw t refl

-- ---- the rows

-- a record that gives something, after those before it
clear : (s : CellContext) (before : List Kept) (k : Kept) (g : SheetRecord) → kept_line s k ≡ Ok g
    → weight_in s (before ++ k ∷ []) ≤ 33554432 → kept_fault default_rules s before k ≡ None
clear s before k g line small =
    ap (λ (r : Result SheetRecord XlsError). option_or (fault_of r) (weight_fault default_rules s (before ++ k ∷ []))) line
    ∙ light s (before ++ k ∷ []) small

-- no record of the rows has a fault
rows_clear : (s : CellContext) → IsSet s → (is : List ℕ) (before : List Kept) → AllByRecursion IsRow is
    → weight_in s before + 2 * length is ≤ 33554432
    → first_of (map_with_earlier (kept_fault default_rules s) before (flat_map kept_row is)) ≡ None
rows_clear s f [] before h small = refl
rows_clear s f (i ∷ is) before h small =
    let middle = before ++ int_kept i ∷ [] in
    let after = middle ++ word_kept i ∷ [] in
    let others = map_with_earlier (kept_fault default_rules s) after (flat_map kept_row is) in
    let first : kept_line s (int_kept i) ≡ Ok (cells_record (((i, 0), int (pos i)) ∷ [])) = int_line s i h.0 f.classes f.epoch in
    let second : kept_line s (word_kept i) ≡ Ok (shared_record (Some ((i, 1), text (sample_word i)))) = word_line s i f.strings in
    let one : weight_in s middle ≡ weight_in s before + weight_from (kept_line s (int_kept i)) = weight_more s before (int_kept i) in
    let two : weight_in s after ≡ weight_in s middle + weight_from (kept_line s (word_kept i)) = weight_more s middle (word_kept i) in
    let one_cell : weight_from (kept_line s (int_kept i)) ≡ 1 = ap weight_from first in
    let one_text : weight_from (kept_line s (word_kept i)) ≡ 1 = ap weight_from second in
    let no_int = clear s before (int_kept i) _ first (omega (arith, one, one_cell)) in
    let no_word = clear s middle (word_kept i) _ second (omega (arith, one, one_cell, two, one_text)) in
    ap (λ (o : Option XlsError). option_or o (option_or (kept_fault default_rules s middle (word_kept i)) (first_of others))) no_int
    ∙ ap (λ (o : Option XlsError). option_or o (first_of others)) no_word
    ∙ rows_clear s f is after h.1 (omega (arith, one, one_cell, two, one_text))

-- ---- the list and the stream

-- no entry and no record of the list has one
full : (n : ℕ) → n ≤ 65536 → IsFull default_rules (sample_list n)
full n h =
    let count = length-range_with_len 0 n in
    record {
      forced = refl;
      globals = refl;
      sheets = (tt, (rows_clear (cells_of default_rules (sample_list n)) (is_set n) (range_with_len 0 n) [] (rows_below 0 n (omega arith)) (omega arith), (tt, tt)));
    }

-- the stream is within the byte limit
within : (n : ℕ) → n ≤ 65536 → length (sample_stream n) ≤ 268435456
within n h = let size : length (sample_stream n) ≡ 28 * n + 64 = sample_length n in omega arith

-- so no place of the stream has a fault, as of any layout of such a list
pub sound : (n : ℕ) → n ≤ 65536 → IsSound default_rules (sample_stream n)
sound n h =
    let full_there = subst (IsFull default_rules) (sym (list_so n)) (full n h) in
    let within_there = subst (λ (bytes : List ℕ). length bytes ≤ 268435456) (sym (laid_so n)) (within n h) in
    subst (IsSound default_rules) (laid_so n) (laid_sound default_rules (sample_layout n) (valid n h) full_there within_there)
