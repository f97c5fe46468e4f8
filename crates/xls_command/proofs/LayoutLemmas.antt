-- The stream is the canonical layout of its list.
use Rattle.std.proofs.Common.{◌≡◌, ℕ, ◌≤◌, List, [], ◌∷◌, ◌++◌, refl, sym, ap, subst, ◌∙◌, lit<, arith}
use Rattle.std.specs.List.{flat_map, range_with_len, AllByRecursion}
use Rattle.std.proofs.lemmas.List.{append-nil}
use Rattle.xls_stream.specs.Stream.{record_bytes, group_bytes}
use Rattle.xls_stream.specs.Substreams.{AreItems, groups_of, outer_of, kept_groups}
use Rattle.xls_stream.specs.Listing.{Kept, kept_of, plain_entry, table_entry, sheet_entry, Carries}
use Rattle.xls_stream.specs.declared.types.TheConstants as types
use Rattle.xls_layouts.specs.Layout.{eof_group, lay, list_of, IsLaidGroup, IsLaidPart, IsLaidItem, IsLayout}
use Rattle.xls_layouts.specs.Canonical.{canonical_records, canonical_part, FitsString}
use Rattle.xls_layouts.proofs.LaidStreamLemmas.{carries_laid}
use Rattle.xls_layouts.proofs.CanonicalListLemmas.{bof_laid, table_laid}
use Rattle.xls_command.specs.SampleLaws.{IsSampleLayout}
use Rattle.xls_command.proofs.ByteLemmas.{are_bytes}
use Rattle.xls_stream.specs.Walks.{IsBytes}
use Rattle.xls_command.specs.Sample.{globals_body, part_body, name_bytes, sample_globals, sample_part, sample_strings, sample_row, kept_row, sample_kept, sample_stream, sample_list, sample_layout}

-- ---- its bytes

rows_bytes : (is : List ℕ) → flat_map group_bytes (groups_of (canonical_records (flat_map kept_row is)) ++ eof_group ∷ []) ≡ flat_map sample_row is ++ record_bytes types.EOF []
rows_bytes [] = refl
rows_bytes (i ∷ is) = ap (λ (x : List ℕ). sample_row i ++ x) (rows_bytes is)

pub laid_so : (n : ℕ) → lay (sample_layout n) ≡ sample_stream n
unfolding sample_stream
laid_so n =
    ap (λ (x : List ℕ). sample_globals ++ ((record_bytes types.BOF part_body ++ x) ++ [])) (rows_bytes (range_with_len 0 n))
    ∙ ap (λ (x : List ℕ). sample_globals ++ x) (append-nil (sample_part n))

-- ---- its list

rows_kept : (is : List ℕ) → kept_of (kept_groups (outer_of (canonical_records (flat_map kept_row is)))) ≡ flat_map kept_row is
rows_kept [] = refl
rows_kept (i ∷ is) = ap (λ (ks : List Kept). kept_row i ++ ks) (rows_kept is)

pub list_so : (n : ℕ) → list_of (sample_layout n) ≡ sample_list n
list_so n =
    ap (λ (ks : List Kept). plain_entry types.BOF globals_body ∷ sheet_entry 0 0 name_bytes ks ∷ table_entry sample_strings ∷ []) (rows_kept (range_with_len 0 n))

-- ---- it is valid

rows_laid : (is : List ℕ) → AllByRecursion IsLaidGroup (groups_of (canonical_records (flat_map kept_row is)))
rows_laid [] = tt
rows_laid (i ∷ is) = (
  record { fits = record { typ = lit< tt; body = lit< tt; tail = tt }; no_continue = λ e. omega arith },
  (record { fits = record { typ = lit< tt; body = lit< tt; tail = tt }; no_continue = λ e. omega arith }, rows_laid is),
)

rows_plain : (is : List ℕ) → AreItems (canonical_records (flat_map kept_row is))
rows_plain [] = tt
rows_plain (i ∷ is) = ((λ e. omega arith, λ e. omega arith), ((λ e. omega arith, λ e. omega arith), rows_plain is))

pub part_laid : (n : ℕ) → IsLaidPart (canonical_part (sample_kept n))
part_laid n = record {
  groups = (bof_laid, rows_laid (range_with_len 0 n));
  prefix = tt;
  is_bof = refl;
  items = rows_plain (range_with_len 0 n);
}

strings_fit : AllByRecursion FitsString sample_strings
strings_fit = (
  record { count = lit< tt; are_units = (lit< tt, tt) },
  (
    record { count = lit< tt; are_units = (lit< tt, (lit< tt, tt)) },
    (record { count = lit< tt; are_units = (lit< tt, (lit< tt, (lit< tt, tt))) }, tt),
  ),
)

pub items_laid : (n : ℕ) → AllByRecursion (IsLaidItem (sample_layout n)) (sample_layout n).globals
items_laid n = (
  record {
    laid = record { fits = record { typ = lit< tt; body = lit< tt; tail = tt }; no_continue = λ e. omega arith };
    is_plain = (refl, refl);
  },
  (
    record { name_fits = lit< tt; tail_fits = tt; has_part = lit< tt; offset_fits = lit< tt },
    (table_laid sample_strings strings_fit, tt),
  ),
)

-- so its bytes carry the list
pub carries : (n : ℕ) → Carries (sample_stream n) (sample_list n)
carries n =
    subst (λ (bytes : List ℕ). Carries bytes (sample_list n)) (laid_so n)
    (subst (Carries (lay (sample_layout n))) (list_so n) (carries_laid (sample_layout n) (items_laid n) (part_laid n, tt)))

-- with at most as many rows as there are row numbers it is valid
pub valid : (n : ℕ) → n ≤ 65536 → IsLayout (sample_layout n)
valid n h = record {
  globals = items_laid n;
  parts = (part_laid n, tt);
  bytes = subst IsBytes (sym (laid_so n)) (are_bytes n h);
}

pub sample_laid : (n : ℕ) → IsSampleLayout n
sample_laid n = record { bytes = laid_so n; list = list_so n; valid = valid n }
