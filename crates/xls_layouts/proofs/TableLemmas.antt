-- What the readers of string tables answer over a laid table.
use Rattle.std.proofs.Common.{◌≡◌, ℕ, ◌≤◌, false, List, ◌++◌, length, map, drop, Result, Ok, Err, refl, ap, subst, ◌∙◌, arith}
use Rattle.std.specs.Prelude.{nat_lt}
use Rattle.std.specs.List.{AllByRecursion}
use Rattle.std.specs.Char.Utf16.{utf16_lossy_chars}
use Rattle.std.proofs.lemmas.List.{length-map}
use Rattle.xls_stream.specs.StringTable.{Mark, prefix_of, marked, Table}
use Rattle.xls_stream.proofs.TableReadings.{one_reading}
use Rattle.xls_record.specs.declared.error.XlsError.{XlsError}
use Rattle.xls_record.specs.declared.error.XlsError.TheVariants as errors
use Rattle.xls_strings.specs.Sst.{FailsTable, ReadsTable, CountsTable, InTable, sst_marks}
use Rattle.xls_layouts.specs.TableGrammar.{IsStringTable}
use Rattle.xls_layouts.specs.LaidStrings.{LaidString, code_units, IsLaidString, marks_of_strings, lists_of, pieces_of, IsLaidTable}
use Rattle.xls_layouts.specs.Laws.{GivesTexts}
use Rattle.xls_layouts.proofs.LaidTableLemmas.{table_of_laid, laid_sst, laid_eight}
use Rattle.xls_layouts.proofs.GrammarLemmas.{same_tables}

pub laid_strings : (strings : List LaidString) → AllByRecursion IsLaidString strings → IsStringTable (marks_of_strings strings) (lists_of strings)
laid_strings strings h = (same_tables (marks_of_strings strings) (lists_of strings)).0 (table_of_laid strings h)

not_below : (m n : ℕ) → n ≤ m → nat_lt m n ≡ false
not_below m n h = grind arith

-- a body of eight bytes or more has marked bytes
marks_are : (body : List ℕ) (tail : List (List ℕ)) → 8 ≤ length body → sst_marks body tail ≡ Ok (marked (drop 8 body) tail)
marks_are body tail h = rw (not_below (length body) 8 h) refl

no_fault : (ms : List Mark) (strings : List (List ℕ)) (e : XlsError) → Table ms strings → FailsTable ms e → ⊥
no_fault ms strings e t f = (one_reading ms).apart strings f.0 t f.2

texts_by : (ms : List Mark) (strings : List LaidString) (result : Result (List (List ℕ)) XlsError) → Table ms (lists_of strings) → ReadsTable ms result → GivesTexts strings result
texts_by ms strings (Ok texts) t r = r.2 ∙ ap (map utf16_lossy_chars) ((one_reading ms).table r.0 (lists_of strings) r.1 t)
texts_by ms strings (Err errors.Memory) t r = tt
texts_by ms strings (Err e) t r = no_fault ms (lists_of strings) e t r

count_by : (ms : List Mark) (strings : List LaidString) (result : Result ℕ XlsError) → Table ms (lists_of strings) → CountsTable ms result → result ≡ Ok (length strings)
count_by ms strings (Ok n) t r =
    ap (λ (x : ℕ). Ok x) (r.2 ∙ ap length ((one_reading ms).table r.0 (lists_of strings) r.1 t) ∙ length-map strings code_units)
count_by ms strings (Err e) t r = absurd (no_fault ms (lists_of strings) e t r)

pub laid_texts : (first : List ℕ) (strings : List LaidString) → IsLaidTable first strings → (result : Result (List (List ℕ)) XlsError)
    → InTable ReadsTable (sst_marks (first ++ prefix_of (marks_of_strings strings)) (pieces_of (marks_of_strings strings))) result → GivesTexts strings result
laid_texts first strings h result r =
    let body = first ++ prefix_of (marks_of_strings strings) in
    let tail = pieces_of (marks_of_strings strings) in
    texts_by (marked (drop 8 body) tail) strings result (laid_sst first strings h)
    (subst (λ (x : Result (List Mark) XlsError). InTable ReadsTable x result) (marks_are body tail (laid_eight first strings h)) r)

pub laid_count : (first : List ℕ) (strings : List LaidString) → IsLaidTable first strings → (result : Result ℕ XlsError)
    → InTable CountsTable (sst_marks (first ++ prefix_of (marks_of_strings strings)) (pieces_of (marks_of_strings strings))) result → result ≡ Ok (length strings)
laid_count first strings h result r =
    let body = first ++ prefix_of (marks_of_strings strings) in
    let tail = pieces_of (marks_of_strings strings) in
    count_by (marked (drop 8 body) tail) strings result (laid_sst first strings h)
    (subst (λ (x : Result (List Mark) XlsError). InTable CountsTable x result) (marks_are body tail (laid_eight first strings h)) r)
