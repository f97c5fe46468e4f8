-- A layout by hand that takes each liberty that a layout has: Continue records behind any record, an empty
-- one too, records before a BOF, nested substreams, a part that two sheets share and one that is nobody's,
-- and a string table with runs and extension bytes that is cut wherever it may be. And the longest strings.
use Rattle.std.proofs.Common.{◌≡◌, ◌≢◌, ℕ, zero, suc, ◌+◌, ◌*◌, ◌^◌, ◌<◌, Bool, true, false, List, [], ◌∷◌, length, map, Some, None, refl, ap, arith, lit<}
use Rattle.std.specs.Prelude.{replicate, nat_lt, ◌&&◌}
use Rattle.std.specs.List.{AllByRecursion}
use Rattle.std.proofs.lemmas.Bool.{ltb-true}
use Rattle.xls_stream.specs.Stream.{Group, IsBody}
use Rattle.xls_stream.specs.Substreams.{none, plain, nested}
use Rattle.xls_stream.specs.Listing.{plain_entry, table_entry, sheet_entry}
use Rattle.xls_layouts.specs.LaidStrings.{put, cut, units_of_steps, AreSteps, bytes_in, IsCutWell, LaidString, IsLaidString, IsLaidTable}
use Rattle.xls_layouts.specs.Layout.{LaidPart, a_loose, a_plain, a_sheet, a_table, Layout, offset_in, lay, list_of, IsLaidGroup, IsLaidPart, IsLayout}
use Rattle.xls_layouts.specs.Canonical.{bare_group, AreBytes}
use Rattle.xls_layouts.proofs.CanonicalByteLemmas.{each_byte}

abbrev group : ℕ → List ℕ → List (List ℕ) → Group
group typ body tail = record { typ = typ; body = body; tail = tail }

-- ---- the parts

-- the part of no sheet
abbrev empty_part : LaidPart
empty_part = record { prefix = []; bof = bare_group 0x0809 []; items = none }

-- two records before the BOF, of which one has two Continues; a Number with a Continue; a chart that holds
-- a Number and a substream of its own; a record that isn't read, and a Formula
abbrev shared_part : LaidPart
shared_part = record {
  prefix = group 0x0208 (0x01 ∷ []) ((0x02 ∷ []) ∷ [] ∷ []) ∷ bare_group 0x000C [] ∷ [];
  bof = group 0x0809 (0x00 ∷ 0x06 ∷ 0x10 ∷ 0x00 ∷ []) ([] ∷ []);
  items = plain (group 0x0203 (0x03 ∷ []) ((0x04 ∷ []) ∷ []))
      (nested (group 0x0809 [] ((0x05 ∷ []) ∷ []))
      (plain (group 0x0203 (0x06 ∷ []) ((0x07 ∷ []) ∷ [])) (nested (bare_group 0x0809 []) none (bare_group 0x000A []) none))
      (group 0x000A (0x08 ∷ []) ((0x09 ∷ []) ∷ []))
      (plain (group 0x0208 [] ([] ∷ [])) (plain (bare_group 0x0006 (0x0A ∷ [])) none)));
}

abbrev last_part : LaidPart
last_part = record { prefix = []; bof = bare_group 0x0809 []; items = plain (bare_group 0x00E5 (0x00 ∷ 0x00 ∷ [])) none }

-- ---- the string table

-- wide, narrow and wide again; cut inside its two runs, between them and the extension, and inside that
abbrev cut_after : LaidString
cut_after = record {
  begins_piece = false;
  wide = true;
  runs = Some 2;
  extension = Some 3;
  steps = put 0x20AC ∷ cut false ∷ put 0xFF ∷ cut true ∷ put 0xD83D ∷ [];
  following = Some 0x11 ∷ Some 0x12 ∷ Some 0x13 ∷ None ∷ Some 0x14 ∷ Some 0x15 ∷ Some 0x16 ∷ Some 0x17 ∷ Some 0x18 ∷ None ∷ Some 0x19 ∷ None ∷ Some 0x1A ∷ Some 0x1B ∷ [];
}

-- a piece begins with it, and one holds a flags byte alone
abbrev begins : LaidString
begins = record { begins_piece = true; wide = false; runs = None; extension = None; steps = put 0x41 ∷ cut true ∷ cut false ∷ put 0x42 ∷ []; following = [] }

-- no units, runs or extension bytes, though it says how many
abbrev empty : LaidString
empty = record { begins_piece = false; wide = true; runs = Some 0; extension = Some 0; steps = []; following = [] }

-- cut before its first unit, and before the first byte of its extension
abbrev cut_before : LaidString
cut_before = record { begins_piece = true; wide = false; runs = None; extension = Some 1; steps = cut true ∷ put 0x20AC ∷ []; following = None ∷ Some 0x1C ∷ [] }

-- ---- the layout

abbrev pub free : Layout
free = record {
  globals = a_plain (group 0x0809 (0x00 ∷ 0x06 ∷ 0x05 ∷ 0x00 ∷ []) ((0x21 ∷ []) ∷ []))
      ∷ a_loose (group 0x0031 [] ([] ∷ (0x22 ∷ []) ∷ []))
      ∷ a_sheet 0x00 0x00 (0x01 ∷ 0x00 ∷ 0x41 ∷ []) ((0x23 ∷ []) ∷ []) 1
      ∷ a_table (replicate 8 0x24) (cut_after ∷ begins ∷ empty ∷ cut_before ∷ [])
      ∷ a_sheet 0x02 0x02 (0x01 ∷ 0x00 ∷ 0x42 ∷ []) [] 2
      ∷ a_plain (group 0x0022 (0x01 ∷ 0x00 ∷ []) ((0x25 ∷ []) ∷ []))
      ∷ a_sheet 0x01 0x06 [] [] 1 ∷ [];
  parts = empty_part ∷ shared_part ∷ last_part ∷ [];
}

-- its list: neither Continues nor records that aren't read, and no record of a chart
pub free_list : list_of free
    ≡ plain_entry 0x0809 (0x00 ∷ 0x06 ∷ 0x05 ∷ 0x00 ∷ [])
    ∷ sheet_entry 0x00 0x00 (0x01 ∷ 0x00 ∷ 0x41 ∷ []) (record { typ = 0x0203; body = 0x03 ∷ [] } ∷ record { typ = 0x0006; body = 0x0A ∷ [] } ∷ [])
    ∷ table_entry ((0x20AC ∷ 0xFF ∷ 0xD83D ∷ []) ∷ (0x41 ∷ 0x42 ∷ []) ∷ [] ∷ (0x20AC ∷ []) ∷ [])
    ∷ sheet_entry 0x02 0x02 (0x01 ∷ 0x00 ∷ 0x42 ∷ []) (record { typ = 0x00E5; body = 0x00 ∷ 0x00 ∷ [] } ∷ [])
    ∷ plain_entry 0x0022 (0x01 ∷ 0x00 ∷ [])
    ∷ sheet_entry 0x01 0x06 [] (record { typ = 0x0203; body = 0x03 ∷ [] } ∷ record { typ = 0x0006; body = 0x0A ∷ [] } ∷ []) ∷ []
free_list = refl

-- where the parts begin, and its 308 bytes
pub free_offsets : map (offset_in free) (0 ∷ 1 ∷ 2 ∷ []) ≡ 192 ∷ 200 ∷ 294 ∷ []
free_offsets = refl

pub free_bytes : lay free
    ≡ 0x09 ∷ 0x08 ∷ 0x04 ∷ 0x00 ∷ 0x00 ∷ 0x06 ∷ 0x05 ∷ 0x00 ∷ 0x3C ∷ 0x00 ∷ 0x01 ∷ 0x00 ∷ 0x21
    ∷ 0x31 ∷ 0x00 ∷ 0x00 ∷ 0x00 ∷ 0x3C ∷ 0x00 ∷ 0x00 ∷ 0x00 ∷ 0x3C ∷ 0x00 ∷ 0x01 ∷ 0x00 ∷ 0x22
    ∷ 0x85 ∷ 0x00 ∷ 0x09 ∷ 0x00 ∷ 0xC8 ∷ 0x00 ∷ 0x00 ∷ 0x00 ∷ 0x00 ∷ 0x00 ∷ 0x01 ∷ 0x00 ∷ 0x41
    ∷ 0x3C ∷ 0x00 ∷ 0x01 ∷ 0x00 ∷ 0x23
    ∷ 0xFC ∷ 0x00 ∷ 0x13 ∷ 0x00 ∷ 0x24 ∷ 0x24 ∷ 0x24 ∷ 0x24 ∷ 0x24 ∷ 0x24 ∷ 0x24 ∷ 0x24 ∷ 0x03 ∷ 0x00 ∷ 0x0D ∷ 0x02 ∷ 0x00 ∷ 0x03 ∷ 0x00 ∷ 0x00 ∷ 0x00 ∷ 0xAC ∷ 0x20
    ∷ 0x3C ∷ 0x00 ∷ 0x02 ∷ 0x00 ∷ 0x00 ∷ 0xFF ∷ 0x3C ∷ 0x00 ∷ 0x06 ∷ 0x00 ∷ 0x01 ∷ 0x3D ∷ 0xD8 ∷ 0x11 ∷ 0x12 ∷ 0x13
    ∷ 0x3C ∷ 0x00 ∷ 0x05 ∷ 0x00 ∷ 0x14 ∷ 0x15 ∷ 0x16 ∷ 0x17 ∷ 0x18 ∷ 0x3C ∷ 0x00 ∷ 0x01 ∷ 0x00 ∷ 0x19
    ∷ 0x3C ∷ 0x00 ∷ 0x02 ∷ 0x00 ∷ 0x1A ∷ 0x1B ∷ 0x3C ∷ 0x00 ∷ 0x04 ∷ 0x00 ∷ 0x02 ∷ 0x00 ∷ 0x00 ∷ 0x41
    ∷ 0x3C ∷ 0x00 ∷ 0x01 ∷ 0x00 ∷ 0x01
    ∷ 0x3C ∷ 0x00 ∷ 0x0B ∷ 0x00 ∷ 0x00 ∷ 0x42 ∷ 0x00 ∷ 0x00 ∷ 0x0D ∷ 0x00 ∷ 0x00 ∷ 0x00 ∷ 0x00 ∷ 0x00 ∷ 0x00
    ∷ 0x3C ∷ 0x00 ∷ 0x07 ∷ 0x00 ∷ 0x01 ∷ 0x00 ∷ 0x04 ∷ 0x01 ∷ 0x00 ∷ 0x00 ∷ 0x00
    ∷ 0x3C ∷ 0x00 ∷ 0x03 ∷ 0x00 ∷ 0x01 ∷ 0xAC ∷ 0x20 ∷ 0x3C ∷ 0x00 ∷ 0x01 ∷ 0x00 ∷ 0x1C
    ∷ 0x85 ∷ 0x00 ∷ 0x09 ∷ 0x00 ∷ 0x26 ∷ 0x01 ∷ 0x00 ∷ 0x00 ∷ 0x02 ∷ 0x02 ∷ 0x01 ∷ 0x00 ∷ 0x42
    ∷ 0x22 ∷ 0x00 ∷ 0x02 ∷ 0x00 ∷ 0x01 ∷ 0x00 ∷ 0x3C ∷ 0x00 ∷ 0x01 ∷ 0x00 ∷ 0x25
    ∷ 0x85 ∷ 0x00 ∷ 0x06 ∷ 0x00 ∷ 0xC8 ∷ 0x00 ∷ 0x00 ∷ 0x00 ∷ 0x01 ∷ 0x06 ∷ 0x0A ∷ 0x00 ∷ 0x00 ∷ 0x00
    ∷ 0x09 ∷ 0x08 ∷ 0x00 ∷ 0x00 ∷ 0x0A ∷ 0x00 ∷ 0x00 ∷ 0x00 ∷ 0x08 ∷ 0x02 ∷ 0x01 ∷ 0x00 ∷ 0x01
    ∷ 0x3C ∷ 0x00 ∷ 0x01 ∷ 0x00 ∷ 0x02 ∷ 0x3C ∷ 0x00 ∷ 0x00 ∷ 0x00 ∷ 0x0C ∷ 0x00 ∷ 0x00 ∷ 0x00
    ∷ 0x09 ∷ 0x08 ∷ 0x04 ∷ 0x00 ∷ 0x00 ∷ 0x06 ∷ 0x10 ∷ 0x00 ∷ 0x3C ∷ 0x00 ∷ 0x00 ∷ 0x00
    ∷ 0x03 ∷ 0x02 ∷ 0x01 ∷ 0x00 ∷ 0x03 ∷ 0x3C ∷ 0x00 ∷ 0x01 ∷ 0x00 ∷ 0x04 ∷ 0x09 ∷ 0x08 ∷ 0x00 ∷ 0x00
    ∷ 0x3C ∷ 0x00 ∷ 0x01 ∷ 0x00 ∷ 0x05 ∷ 0x03 ∷ 0x02 ∷ 0x01 ∷ 0x00 ∷ 0x06 ∷ 0x3C ∷ 0x00 ∷ 0x01 ∷ 0x00 ∷ 0x07
    ∷ 0x09 ∷ 0x08 ∷ 0x00 ∷ 0x00 ∷ 0x0A ∷ 0x00 ∷ 0x00 ∷ 0x00 ∷ 0x0A ∷ 0x00 ∷ 0x01 ∷ 0x00 ∷ 0x08
    ∷ 0x3C ∷ 0x00 ∷ 0x01 ∷ 0x00 ∷ 0x09 ∷ 0x08 ∷ 0x02 ∷ 0x00 ∷ 0x00 ∷ 0x3C ∷ 0x00 ∷ 0x00 ∷ 0x00
    ∷ 0x06 ∷ 0x00 ∷ 0x01 ∷ 0x00 ∷ 0x0A ∷ 0x0A ∷ 0x00 ∷ 0x00 ∷ 0x00 ∷ 0x09 ∷ 0x08 ∷ 0x00 ∷ 0x00
    ∷ 0xE5 ∷ 0x00 ∷ 0x02 ∷ 0x00 ∷ 0x00 ∷ 0x00 ∷ 0x0A ∷ 0x00 ∷ 0x00 ∷ 0x00 ∷ []
free_bytes = refl

-- ---- it is valid

all_small : List ℕ → Bool
all_small [] = true
all_small (b ∷ bs) = nat_lt b 256 && all_small bs

both_true : (a b : Bool) → (a && b) ≡ true → (a ≡ true) × (b ≡ true)
both_true true b e = (refl, e)
both_true false b e = absurd cc

small_bytes : (bs : List ℕ) → all_small bs ≡ true → AreBytes bs
unfolding all_small
small_bytes [] e = tt
small_bytes (b ∷ bs) e = let h = both_true (nat_lt b 256) (all_small bs) e in (ltb-true b 256 h.0, small_bytes bs h.1)

-- of this type, whose body and Continues have lengths of 16 bits
laid : (typ : ℕ) (body : List ℕ) (tail : List (List ℕ)) → typ < 2 ^ 16 → typ ≢ 0x3C → IsBody body → AllByRecursion IsBody tail → IsLaidGroup (group typ body tail)
laid typ body tail t c b all = record { fits = record { typ = t; body = b; tail = all }; no_continue = c }

bare : (typ : ℕ) (body : List ℕ) → typ < 2 ^ 16 → typ ≢ 0x3C → IsBody body → IsLaidGroup (bare_group typ body)
bare typ body t c b = laid typ body [] t c b tt

empty_laid : IsLaidPart empty_part
empty_laid = record { groups = (bare 0x0809 [] (lit< tt) (λ e. omega arith) (lit< tt), tt); prefix = tt; is_bof = refl; items = tt }

shared_laid : IsLaidPart shared_part
shared_laid = record {
  groups = (
    laid _ _ _ (lit< tt) (λ e. omega arith) (lit< tt) (lit< tt, (lit< tt, tt)),
    (
      bare _ _ (lit< tt) (λ e. omega arith) (lit< tt),
      (
        laid _ _ _ (lit< tt) (λ e. omega arith) (lit< tt) (lit< tt, tt),
        (
          laid _ _ _ (lit< tt) (λ e. omega arith) (lit< tt) (lit< tt, tt),
          (
            laid _ _ _ (lit< tt) (λ e. omega arith) (lit< tt) (lit< tt, tt),
            (
              laid _ _ _ (lit< tt) (λ e. omega arith) (lit< tt) (lit< tt, tt),
              (
                bare _ _ (lit< tt) (λ e. omega arith) (lit< tt),
                (
                  bare _ _ (lit< tt) (λ e. omega arith) (lit< tt),
                  (
                    laid _ _ _ (lit< tt) (λ e. omega arith) (lit< tt) (lit< tt, tt),
                    (
                      laid _ _ _ (lit< tt) (λ e. omega arith) (lit< tt) (lit< tt, tt),
                      (bare _ _ (lit< tt) (λ e. omega arith) (lit< tt), tt),
                    ),
                  ),
                ),
              ),
            ),
          ),
        ),
      ),
    ),
  );
  prefix = (((λ e. omega arith, λ e. omega arith), refl), (((λ e. omega arith, λ e. omega arith), refl), tt));
  is_bof = refl;
  items = (
    (λ e. omega arith, λ e. omega arith),
    (
      refl,
      ((λ e. omega arith, λ e. omega arith), (refl, tt, refl, tt)),
      refl,
      ((λ e. omega arith, λ e. omega arith), ((λ e. omega arith, λ e. omega arith), tt)),
    ),
  );
}

last_laid : IsLaidPart last_part
last_laid = record {
  groups = (bare _ _ (lit< tt) (λ e. omega arith) (lit< tt), (bare _ _ (lit< tt) (λ e. omega arith) (lit< tt), tt));
  prefix = tt;
  is_bof = refl;
  items = ((λ e. omega arith, λ e. omega arith), tt);
}

table_laid : IsLaidTable (replicate 8 0x24) (cut_after ∷ begins ∷ empty ∷ cut_before ∷ [])
table_laid = record {
  eight = refl;
  are_laid = (
    record { count = lit< tt; steps = (lit< tt, (lit< tt, (lit< tt, (lit< tt, (lit< tt, tt))))); runs = lit< tt; extension = lit< tt; cut_well = (tt, (tt, (tt, tt))); all_after = refl },
    (
      record { count = lit< tt; steps = (lit< tt, (lit< tt, (lit< tt, (lit< tt, tt)))); runs = lit< tt; extension = lit< tt; cut_well = tt; all_after = refl },
      (
        record { count = lit< tt; steps = tt; runs = lit< tt; extension = lit< tt; cut_well = tt; all_after = refl },
        (record { count = lit< tt; steps = (lit< tt, (lit< tt, tt)); runs = lit< tt; extension = lit< tt; cut_well = (tt, tt); all_after = refl }, tt),
      ),
    ),
  );
  fits = record { typ = lit< tt; body = lit< tt; tail = (lit< tt, (lit< tt, (lit< tt, (lit< tt, (lit< tt, (lit< tt, (lit< tt, (lit< tt, (lit< tt, (lit< tt, (lit< tt, tt))))))))))) };
}

pub free_valid : IsLayout free
unfolding all_small
free_valid = record {
  globals = (
    record { laid = laid _ _ _ (lit< tt) (λ e. omega arith) (lit< tt) (lit< tt, tt); is_plain = (refl, refl) },
    (
      record { laid = laid _ _ _ (lit< tt) (λ e. omega arith) (lit< tt) (lit< tt, (lit< tt, tt)); not_read = refl; no_eof = λ e. omega arith },
      (
        record { name_fits = lit< tt; tail_fits = (lit< tt, tt); has_part = lit< tt; offset_fits = lit< tt },
        (
          table_laid,
          (
            record { name_fits = lit< tt; tail_fits = tt; has_part = lit< tt; offset_fits = lit< tt },
            (
              record { laid = laid _ _ _ (lit< tt) (λ e. omega arith) (lit< tt) (lit< tt, tt); is_plain = (refl, refl) },
              (record { name_fits = lit< tt; tail_fits = tt; has_part = lit< tt; offset_fits = lit< tt }, tt),
            ),
          ),
        ),
      ),
    ),
  );
  parts = (empty_laid, (shared_laid, (last_laid, tt)));
  bytes = each_byte (lay free) (small_bytes (lay free) refl);
}

-- ---- the longest strings

many : (n u : ℕ) → length (units_of_steps (map put (replicate n u))) ≡ n
many zero u = refl
many (suc n) u = ap suc (many n u)

narrow : (n u : ℕ) → u < 2 ^ 8 → AreSteps false (map put (replicate n u))
narrow zero u small = tt
narrow (suc n) u small = (small, narrow n u small)

uncut : (n b : ℕ) → IsCutWell (map Some (replicate n b))
uncut zero b = tt
uncut (suc n) b = uncut n b

all_there : (n b : ℕ) → bytes_in (map Some (replicate n b)) ≡ n
all_there zero b = refl
all_there (suc n) b = ap suc (all_there n b)

-- a string of up to FFFF units and runs and 7FFFFFFF extension bytes
pub longest : (units runs extension : ℕ) → units < 0x10000 → runs < 0x10000 → extension < 0x80000000
    → IsLaidString (record { begins_piece = true; wide = false; runs = Some runs; extension = Some extension; steps = map put (replicate units 0x61); following = map Some (replicate (4 * runs + extension) 0x00) })
longest units runs extension u r e = record {
  count = rw (many units 0x61) u;
  steps = narrow units 0x61 (lit< tt);
  runs = r;
  extension = e;
  cut_well = uncut (4 * runs + extension) 0x00;
  all_after = all_there (4 * runs + extension) 0x00;
}
