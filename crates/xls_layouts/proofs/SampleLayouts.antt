-- Two layouts of one list, by hand: a workbook of Excel's record kinds with three sheets. In the first
-- the string table is cut inside `Café €`, and the parts stand in the order of the sheets; in the
-- second it isn't cut and has that text in two-byte units, and the parts stand in another order.
use Rattle.std.proofs.Common.{◌≡◌, ◌≢◌, ℕ, ◌^◌, ◌<◌, Bool, true, false, List, [], ◌∷◌, ◌++◌, length, map, Some, None, refl, arith, lit<}
use Rattle.std.specs.Prelude.{replicate, codes, nat_lt, ◌&&◌}
use Rattle.std.specs.List.{AllByRecursion}
use Rattle.std.proofs.lemmas.Bool.{ltb-true}
use Rattle.xls_stream.specs.Stream.{Group, IsBody}
use Rattle.xls_stream.specs.Substreams.{Items, none, plain}
use Rattle.xls_stream.specs.Listing.{is_globals_type}
use Rattle.xls_stream.specs.declared.types.TheConstants as types
use Rattle.xls_layouts.specs.LaidStrings.{Step, put, cut, LaidString, IsLaidString}
use Rattle.xls_layouts.specs.Layout.{LaidPart, LaidItem, a_loose, a_plain, a_sheet, a_table, Layout, offset_in, lay, list_of, IsLaidGroup, IsLaidPart, IsLooseItem, IsLaidItem, IsLayout}
use Rattle.xls_layouts.specs.Canonical.{bare_group, canonical, AreBytes}
use Rattle.xls_layouts.proofs.CanonicalByteLemmas.{each_byte}
use Rattle.xls_layouts.proofs.CanonicalListLemmas.{plain_laid}

abbrev zeros : ℕ → List ℕ
zeros n = replicate n 0

-- ---- the parts

abbrev part_bof : Group
part_bof = bare_group 0x0809 (0x00 ∷ 0x06 ∷ 0x10 ∷ 0x00 ∷ 0xBB ∷ 0x0D ∷ 0xCC ∷ 0x07 ∷ (zeros 4 ++ (0x06 ∷ 0x00 ∷ 0x00 ∷ 0x00 ∷ [])))

abbrev data_items : Items
data_items =
    plain (bare_group 0x020B (zeros 16))
    (plain (bare_group 0x0200 (zeros 4 ++ (0x03 ∷ 0x00 ∷ 0x00 ∷ 0x00 ∷ 0x00 ∷ 0x00 ∷ 0x03 ∷ 0x00 ∷ 0x00 ∷ 0x00 ∷ [])))
    (plain (bare_group 0x0208 (zeros 4 ++ (0x03 ∷ 0x00 ∷ 0xFF ∷ 0x00 ∷ (zeros 5 ++ (0x01 ∷ 0x0F ∷ 0x00 ∷ [])))))
    (plain (bare_group 0x00FD (zeros 10))
    (plain (bare_group 0x00FD (0x00 ∷ 0x00 ∷ 0x01 ∷ 0x00 ∷ 0x00 ∷ 0x00 ∷ 0x01 ∷ 0x00 ∷ 0x00 ∷ 0x00 ∷ []))
    (plain (bare_group 0x00FD (0x01 ∷ 0x00 ∷ 0x00 ∷ 0x00 ∷ 0x00 ∷ 0x00 ∷ 0x02 ∷ 0x00 ∷ 0x00 ∷ 0x00 ∷ []))
    (plain (bare_group 0x0006 (0x01 ∷ 0x00 ∷ 0x01 ∷ 0x00 ∷ (zeros 8 ++ (0x12 ∷ 0x40 ∷ (zeros 6 ++ (0x0D ∷ 0x00 ∷ 0x25 ∷ 0x02 ∷ 0x00 ∷ 0x02 ∷ 0x00 ∷ 0x00 ∷ 0xC0 ∷ 0x01 ∷ 0xC0 ∷ 0x19 ∷ 0x10 ∷ 0x00 ∷ 0x00 ∷ []))))))
    (plain (bare_group 0x00BD (0x02 ∷ 0x00 ∷ 0x00 ∷ 0x00 ∷ 0x00 ∷ 0x00 ∷ 0x0A ∷ 0x00 ∷ 0x00 ∷ 0x00 ∷ 0x00 ∷ 0x00 ∷ 0xEB ∷ 0x03 ∷ 0x00 ∷ 0x00 ∷ 0x01 ∷ 0x00 ∷ []))
    (plain (bare_group 0x0203 (0x02 ∷ 0x00 ∷ 0x02 ∷ 0x00 ∷ 0x01 ∷ 0x00 ∷ (zeros 4 ++ (0xE0 ∷ 0x66 ∷ 0xE5 ∷ 0x40 ∷ []))))
    (plain (bare_group 0x00E5 (0x01 ∷ 0x00 ∷ 0x00 ∷ 0x00 ∷ 0x00 ∷ 0x00 ∷ 0x01 ∷ 0x00 ∷ 0x02 ∷ 0x00 ∷ []))
    (none))))))))))

abbrev data_part : LaidPart
data_part = record { prefix = []; bof = part_bof; items = data_items }

abbrev log_items : Items
log_items =
    plain (bare_group 0x0006 (zeros 12 ++ (0xFF ∷ 0xFF ∷ (zeros 6 ++ (0x0C ∷ 0x00 ∷ 0x17 ∷ 0x01 ∷ 0x00 ∷ 0x78 ∷ 0x3A ∷ 0x00 ∷ 0x00 ∷ 0x01 ∷ 0x00 ∷ 0x00 ∷ 0xC0 ∷ 0x08 ∷ [])))))
    (plain (bare_group 0x0207 (0x04 ∷ 0x00 ∷ 0x00 ∷ (codes "xSum")))
    (plain (bare_group 0x0205 (0x01 ∷ 0x00 ∷ 0x00 ∷ 0x00 ∷ 0x00 ∷ 0x00 ∷ 0x2A ∷ 0x01 ∷ []))
    (none)))

abbrev log_part : LaidPart
log_part = record { prefix = []; bof = part_bof; items = log_items }

abbrev old_items : Items
old_items =
    plain (bare_group 0x0200 (zeros 14))
    (none)

abbrev old_part : LaidPart
old_part = record { prefix = []; bof = part_bof; items = old_items }

-- ---- the string table

abbrev puts : List ℕ → List Step
puts us = map put us

-- a string of one-byte units in one piece
abbrev narrow_string : List ℕ → LaidString
narrow_string us = record { begins_piece = false; wide = false; runs = None; extension = None; steps = puts us; following = [] }

-- `Café €`, cut before the last unit, which is wide
abbrev cut_string : LaidString
cut_string = record { begins_piece = false; wide = false; runs = None; extension = None; steps = puts (0x43 ∷ 0x61 ∷ 0x66 ∷ 0xE9 ∷ 0x20 ∷ []) ++ cut true ∷ put 0x20AC ∷ []; following = [] }

-- and in wide units
abbrev wide_string : LaidString
wide_string = record { begins_piece = false; wide = true; runs = None; extension = None; steps = puts (0x43 ∷ 0x61 ∷ 0x66 ∷ 0xE9 ∷ 0x20 ∷ 0x20AC ∷ []); following = [] }

-- `Sum` with one run
abbrev run_string : LaidString
run_string = record { begins_piece = false; wide = false; runs = Some 1; extension = None; steps = puts (codes "Sum"); following = Some 0 ∷ Some 0 ∷ Some 5 ∷ Some 0 ∷ [] }

abbrev table_with : LaidString → LaidItem
table_with s = a_table (3 ∷ 0 ∷ 0 ∷ 0 ∷ 3 ∷ 0 ∷ 0 ∷ 0 ∷ []) (narrow_string (codes "Item") ∷ s ∷ run_string ∷ [])

-- ---- the globals

-- where the parts of the three sheets stand in this order, and this is the string table
abbrev globals_with : ℕ → ℕ → ℕ → LaidItem → List LaidItem
globals_with first second third table =
    a_plain (bare_group 0x0809 (0x00 ∷ 0x06 ∷ 0x05 ∷ 0x00 ∷ 0xBB ∷ 0x0D ∷ 0xCC ∷ 0x07 ∷ (zeros 4 ++ (0x06 ∷ 0x00 ∷ 0x00 ∷ 0x00 ∷ []))))
    ∷ a_plain (bare_group 0x0042 (0xB0 ∷ 0x04 ∷ []))
    ∷ a_loose (bare_group 0x0031 (0xC8 ∷ 0x00 ∷ 0x00 ∷ 0x00 ∷ 0xFF ∷ 0x7F ∷ 0x90 ∷ 0x01 ∷ (zeros 6 ++ (0x05 ∷ 0x00 ∷ (codes "Arial")))))
    ∷ a_plain (bare_group 0x041E (0xA4 ∷ 0x00 ∷ 0x0A ∷ 0x00 ∷ 0x00 ∷ (codes "yyyy-mm-dd")))
    ∷ a_plain (bare_group 0x00E0 (zeros 20))
    ∷ a_plain (bare_group 0x00E0 (0x00 ∷ 0x00 ∷ 0xA4 ∷ 0x00 ∷ (zeros 16)))
    ∷ a_sheet 0x00 0x00 (0x04 ∷ 0x00 ∷ codes "Data") [] first
    ∷ a_sheet 0x00 0x00 (0x03 ∷ 0x00 ∷ codes "Log") [] second
    ∷ a_sheet 0x01 0x00 (0x03 ∷ 0x00 ∷ codes "Old") [] third
    ∷ a_loose (bare_group 0x01AE (0x03 ∷ 0x00 ∷ 0x01 ∷ 0x04 ∷ []))
    ∷ a_plain (bare_group 0x0017 (0x01 ∷ 0x00 ∷ (zeros 6)))
    ∷ a_plain (bare_group 0x0018 (0x00 ∷ 0x00 ∷ 0x00 ∷ 0x05 ∷ 0x07 ∷ 0x00 ∷ (zeros 8 ++ (0x00 ∷ (codes "Total" ++ (0x3A ∷ 0x00 ∷ 0x00 ∷ 0x01 ∷ 0x00 ∷ 0x01 ∷ 0x00 ∷ []))))))
    ∷ table ∷ []

-- ---- the two layouts

abbrev pub sample : Layout
sample = record { globals = globals_with 0 1 2 (table_with cut_string); parts = data_part ∷ log_part ∷ old_part ∷ [] }

abbrev pub other : Layout
other = record { globals = globals_with 2 0 1 (table_with wide_string); parts = log_part ∷ old_part ∷ data_part ∷ [] }

-- each has 609 bytes
pub sample_length : length (lay sample) ≡ 609
sample_length = refl

pub other_length : length (lay other) ≡ 609
other_length = refl

-- the parts of Data, Log and Old begin at 265, 482 and 567, and in the other layout at 392, 265 and 350
pub sample_offsets : map (offset_in sample) (0 ∷ 1 ∷ 2 ∷ []) ≡ 265 ∷ 482 ∷ 567 ∷ []
sample_offsets = refl

pub other_offsets : map (offset_in other) (2 ∷ 0 ∷ 1 ∷ []) ≡ 392 ∷ 265 ∷ 350 ∷ []
other_offsets = refl

-- both are layouts of one list
pub one_list : list_of sample ≡ list_of other
one_list = refl

-- its canonical layout has 494 bytes, and its parts begin at 226, 391 and 464
pub canonical_length : length (lay (canonical (list_of sample))) ≡ 494
canonical_length = refl

pub canonical_offsets : map (offset_in (canonical (list_of sample))) (0 ∷ 1 ∷ 2 ∷ []) ≡ 226 ∷ 391 ∷ 464 ∷ []
canonical_offsets = refl

-- ---- both are valid

all_small : List ℕ → Bool
all_small [] = true
all_small (b ∷ bs) = nat_lt b 256 && all_small bs

both_true : (a b : Bool) → (a && b) ≡ true → (a ≡ true) × (b ≡ true)
both_true true b e = (refl, e)
both_true false b e = absurd cc

small_bytes : (bs : List ℕ) → all_small bs ≡ true → AreBytes bs
unfolding all_small
small_bytes [] e = tt
small_bytes (b ∷ bs) e = let h = both_true (nat_lt b 256) (all_small bs) e in (ltb-true b 256 h.0, small_bytes bs h.1)

loose_laid : (typ : ℕ) (body : List ℕ) → typ < 2 ^ 16 → typ ≢ types.CONTINUE → is_globals_type (bare_group typ body) ≡ false
    → typ ≢ types.EOF → IsBody body → IsLooseItem (bare_group typ body)
loose_laid typ body t c f e b = record {
  laid = record { fits = record { typ = t; body = b; tail = tt }; no_continue = c };
  not_read = f;
  no_eof = e;
}

globals_laid : (d : Layout) (first second third : ℕ) (table : LaidItem) → IsLaidItem d table
    → first < length d.parts → second < length d.parts → third < length d.parts
    → offset_in d first < 2 ^ 32 → offset_in d second < 2 ^ 32 → offset_in d third < 2 ^ 32
    → AllByRecursion (IsLaidItem d) (globals_with first second third table)
globals_laid d first second third table t a b c x y z = (
  plain_laid _ _ (refl, refl) (lit< tt),
  (
    plain_laid _ _ (refl, refl) (lit< tt),
    (
      loose_laid _ _ (lit< tt) (λ e. omega arith) refl (λ e. omega arith) (lit< tt),
      (
        plain_laid _ _ (refl, refl) (lit< tt),
        (
          plain_laid _ _ (refl, refl) (lit< tt),
          (
            plain_laid _ _ (refl, refl) (lit< tt),
            (
              record { name_fits = lit< tt; tail_fits = tt; has_part = a; offset_fits = x },
              (
                record { name_fits = lit< tt; tail_fits = tt; has_part = b; offset_fits = y },
                (
                  record { name_fits = lit< tt; tail_fits = tt; has_part = c; offset_fits = z },
                  (
                    loose_laid _ _ (lit< tt) (λ e. omega arith) refl (λ e. omega arith) (lit< tt),
                    (
                      plain_laid _ _ (refl, refl) (lit< tt),
                      (
                        plain_laid _ _ (refl, refl) (lit< tt),
                        (t, tt),
                      ),
                    ),
                  ),
                ),
              ),
            ),
          ),
        ),
      ),
    ),
  ),
)

group_laid : (typ : ℕ) (body : List ℕ) → typ < 2 ^ 16 → typ ≢ types.CONTINUE → IsBody body → IsLaidGroup (bare_group typ body)
group_laid typ body t c b = record { fits = record { typ = t; body = b; tail = tt }; no_continue = c }

bof_laid : IsLaidGroup part_bof
bof_laid = group_laid _ _ (lit< tt) (λ e. omega arith) (lit< tt)

log_laid : IsLaidPart log_part
log_laid = record {
  groups = (bof_laid, (group_laid _ _ (lit< tt) (λ e. omega arith) (lit< tt), (group_laid _ _ (lit< tt) (λ e. omega arith) (lit< tt), (group_laid _ _ (lit< tt) (λ e. omega arith) (lit< tt), tt))));
  prefix = tt;
  is_bof = refl;
  items = ((λ e. omega arith, λ e. omega arith), ((λ e. omega arith, λ e. omega arith), ((λ e. omega arith, λ e. omega arith), tt)));
}

old_laid : IsLaidPart old_part
old_laid = record {
  groups = (bof_laid, (group_laid _ _ (lit< tt) (λ e. omega arith) (lit< tt), tt));
  prefix = tt;
  is_bof = refl;
  items = ((λ e. omega arith, λ e. omega arith), tt);
}

data_laid : IsLaidPart data_part
data_laid = record {
  groups = (bof_laid, (group_laid _ _ (lit< tt) (λ e. omega arith) (lit< tt), (group_laid _ _ (lit< tt) (λ e. omega arith) (lit< tt), (group_laid _ _ (lit< tt) (λ e. omega arith) (lit< tt), (group_laid _ _ (lit< tt) (λ e. omega arith) (lit< tt), (group_laid _ _ (lit< tt) (λ e. omega arith) (lit< tt), (group_laid _ _ (lit< tt) (λ e. omega arith) (lit< tt), (group_laid _ _ (lit< tt) (λ e. omega arith) (lit< tt), (group_laid _ _ (lit< tt) (λ e. omega arith) (lit< tt), (group_laid _ _ (lit< tt) (λ e. omega arith) (lit< tt), (group_laid _ _ (lit< tt) (λ e. omega arith) (lit< tt), tt)))))))))));
  prefix = tt;
  is_bof = refl;
  items = ((λ e. omega arith, λ e. omega arith), ((λ e. omega arith, λ e. omega arith), ((λ e. omega arith, λ e. omega arith), ((λ e. omega arith, λ e. omega arith), ((λ e. omega arith, λ e. omega arith), ((λ e. omega arith, λ e. omega arith), ((λ e. omega arith, λ e. omega arith), ((λ e. omega arith, λ e. omega arith), ((λ e. omega arith, λ e. omega arith), ((λ e. omega arith, λ e. omega arith), tt))))))))));
}

item_string : IsLaidString (narrow_string (codes "Item"))
item_string = record { count = lit< tt; steps = (lit< tt, (lit< tt, (lit< tt, (lit< tt, tt)))); runs = lit< tt; extension = lit< tt; cut_well = tt; all_after = refl }

cut_laid : IsLaidString cut_string
cut_laid = record { count = lit< tt; steps = (lit< tt, (lit< tt, (lit< tt, (lit< tt, (lit< tt, (lit< tt, (lit< tt, tt))))))); runs = lit< tt; extension = lit< tt; cut_well = tt; all_after = refl }

wide_laid : IsLaidString wide_string
wide_laid = record { count = lit< tt; steps = (lit< tt, (lit< tt, (lit< tt, (lit< tt, (lit< tt, (lit< tt, tt)))))); runs = lit< tt; extension = lit< tt; cut_well = tt; all_after = refl }

run_laid : IsLaidString run_string
run_laid = record { count = lit< tt; steps = (lit< tt, (lit< tt, (lit< tt, tt))); runs = lit< tt; extension = lit< tt; cut_well = tt; all_after = refl }

pub sample_valid : IsLayout sample
unfolding all_small
sample_valid = record {
  globals = globals_laid sample 0 1 2 (table_with cut_string)
      (record { eight = refl; are_laid = (item_string, (cut_laid, (run_laid, tt))); fits = record { typ = lit< tt; body = lit< tt; tail = (lit< tt, tt) } })
      (lit< tt) (lit< tt) (lit< tt) (lit< tt) (lit< tt) (lit< tt);
  parts = (data_laid, (log_laid, (old_laid, tt)));
  bytes = each_byte (lay sample) (small_bytes (lay sample) refl);
}

pub other_valid : IsLayout other
unfolding all_small
other_valid = record {
  globals = globals_laid other 2 0 1 (table_with wide_string)
      (record { eight = refl; are_laid = (item_string, (wide_laid, (run_laid, tt))); fits = record { typ = lit< tt; body = lit< tt; tail = tt } })
      (lit< tt) (lit< tt) (lit< tt) (lit< tt) (lit< tt) (lit< tt);
  parts = (log_laid, (old_laid, (data_laid, tt)));
  bytes = each_byte (lay other) (small_bytes (lay other) refl);
}
