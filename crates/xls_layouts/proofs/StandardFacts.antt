-- Known values, so that a wrong rule in the specs does not check.
use Rattle.std.proofs.Common.{◌≡◌, ℕ, true, false, List, [], ◌∷◌, ◌++◌, length, map, Some, None, Ok, Err, refl, arith, lit<}
use Rattle.std.specs.Prelude.{replicate}
use Rattle.std.specs.List.{filter}
use Rattle.xls_bytes.specs.Numbers.{le16}
use Rattle.xls_stream.specs.Stream.{record_bytes, group_bytes, Begins}
use Rattle.xls_stream.specs.Substreams.{none, plain, nested, kept_groups}
use Rattle.xls_stream.specs.StringTable.{prefix_of, marked, short_head, no_units, no_tail, units_at, tail_at, next_at, Table}
use Rattle.xls_stream.specs.Listing.{plain_entry, sheet_entry, is_globals_type}
use Rattle.xls_layouts.specs.TableGrammar.{one_byte, two_bytes, flags_byte, Str}
use Rattle.xls_layouts.specs.LaidStrings.{le32, put, cut, AreSteps, IsCutWell, marks_of_steps, marks_of_string, marks_of_strings, pieces_of}
use Rattle.xls_layouts.specs.Layout.{LaidPart, lay, eof_group, bytes_of_part, kept_of_part}
use Rattle.xls_layouts.specs.Canonical.{bare_group, canonical, canonical_strings}

-- ---- canonical layouts

-- a list of nothing is an EOF record
pub nothing : lay (canonical []) ≡ 0x0A ∷ 0x00 ∷ 0x00 ∷ 0x00 ∷ []
nothing = refl

-- a sheet A with one RK cell: 51 bytes
pub one_cell : lay (canonical (plain_entry 0x0809 (0x00 ∷ 0x06 ∷ 0x05 ∷ 0x00 ∷ []) ∷ sheet_entry 0 0 (0x01 ∷ 0x00 ∷ 0x41 ∷ []) (record { typ = 0x027E; body = 0x00 ∷ 0x00 ∷ 0x00 ∷ 0x00 ∷ 0x00 ∷ 0x00 ∷ 0xE7 ∷ 0xC0 ∷ 0x00 ∷ 0x00 ∷ [] } ∷ []) ∷ []))
    ≡ 0x09 ∷ 0x08 ∷ 0x04 ∷ 0x00 ∷ 0x00 ∷ 0x06 ∷ 0x05 ∷ 0x00 ∷ 0x85 ∷ 0x00 ∷ 0x09 ∷ 0x00 ∷ 25 ∷ 0x00 ∷ 0x00 ∷ 0x00 ∷ 0x00 ∷ 0x00 ∷ 0x01 ∷ 0x00 ∷ 0x41 ∷ 0x0A ∷ 0x00 ∷ 0x00 ∷ 0x00
    ∷ 0x09 ∷ 0x08 ∷ 0x04 ∷ 0x00 ∷ 0x00 ∷ 0x06 ∷ 0x10 ∷ 0x00 ∷ 0x7E ∷ 0x02 ∷ 0x0A ∷ 0x00 ∷ 0x00 ∷ 0x00 ∷ 0x00 ∷ 0x00 ∷ 0x00 ∷ 0x00 ∷ 0xE7 ∷ 0xC0 ∷ 0x00 ∷ 0x00 ∷ 0x0A ∷ 0x00 ∷ 0x00 ∷ 0x00 ∷ []
one_cell = refl

-- the bytes after the first eight, and in the pieces, of one string of so many letters a
pub sizes : ℕ → ℕ × List ℕ
sizes n = let ms = marks_of_strings (canonical_strings 8 (replicate n 0x61 ∷ [])) in (length (prefix_of ms), map length (pieces_of ms))

-- 9,000 letters fill a body of 8,224 bytes, and 788 bytes of a piece: its flags byte and 787 letters
pub long_string : sizes 9000 ≡ (8216, 788 ∷ [])
unfolding sizes
long_string = refl

-- 8,213 letters fill the body, and there is no piece
pub full_body : sizes 8213 ≡ (8216, [])
unfolding sizes
full_body = refl

-- ---- string tables

-- a pair of surrogates cut in two, wide before the cut and after it, with one extension byte
pub cut_pair : marks_of_string (record { begins_piece = false; wide = true; runs = None; extension = Some 1; steps = put 0xD83D ∷ cut true ∷ put 0xDE00 ∷ []; following = Some 7 ∷ [] })
    ≡ Some 2 ∷ Some 0 ∷ Some 0x05 ∷ Some 1 ∷ Some 0 ∷ Some 0 ∷ Some 0 ∷ Some 0x3D ∷ Some 0xD8 ∷ None ∷ Some 0x01 ∷ Some 0x00 ∷ Some 0xDE ∷ Some 7 ∷ []
cut_pair = refl

-- the grammar over the same pair without an extension
pub pair : Str (marked (2 ∷ 0 ∷ 1 ∷ 0x3D ∷ 0xD8 ∷ []) ((1 ∷ 0x00 ∷ 0xDE ∷ []) ∷ [])) (0xD83D ∷ 0xDE00 ∷ []) []
pair = record {
  count = 2 ∷ 0 ∷ [];
  flags = 1;
  runs = [];
  extension = [];
  steps = two_bytes 0x3D 0xD8 ∷ flags_byte 1 ∷ two_bytes 0x00 0xDE ∷ [];
  tail = [];
  whole = refl;
  count_len = refl;
  runs_len = refl;
  extension_len = refl;
  not_negative = lit< tt;
  are_units = (refl, 1, refl, (lit< tt, (refl, 0, refl, refl)));
  is_tail = refl;
  units_are = refl;
}

-- narrow, then wide in the next piece
pub widened : Str (marked (2 ∷ 0 ∷ 0 ∷ 0x41 ∷ []) ((1 ∷ 0x42 ∷ 0x00 ∷ []) ∷ [])) (0x41 ∷ 0x42 ∷ []) []
widened = record {
  count = 2 ∷ 0 ∷ [];
  flags = 0;
  runs = [];
  extension = [];
  steps = one_byte 0x41 ∷ flags_byte 1 ∷ two_bytes 0x42 0x00 ∷ [];
  tail = [];
  whole = refl;
  count_len = refl;
  runs_len = refl;
  extension_len = refl;
  not_negative = lit< tt;
  are_units = (refl, 1, refl, (lit< tt, (refl, 0, refl, refl)));
  is_tail = refl;
  units_are = refl;
}

-- ---- what would be wrong without a condition

-- a cut inside a head: the head isn't there
pub cut_head : next_at (marked (1 ∷ 0 ∷ []) ((0 ∷ 0x61 ∷ []) ∷ [])) ≡ Err (short_head 3 2)
cut_head = refl

-- a cut inside a wide unit: the unit isn't there
pub cut_unit : next_at (marked (1 ∷ 0 ∷ 1 ∷ 0x3D ∷ []) ((1 ∷ 0xD8 ∷ []) ∷ [])) ≡ Err no_units
unfolding units_at tail_at
cut_unit = refl

-- a cut after the last unit, before no remaining one: the flags byte is no head of a next string
pub cut_after_units : AreSteps false (put 0x61 ∷ cut false ∷ []) → ⊥
cut_after_units h = let c = h.1.0 in omega arith

pub flags_after_units : next_at (marked [] ((0 ∷ []) ∷ [])) ≡ Err (short_head 3 1)
flags_after_units = refl

-- an empty piece between two strings: a third string, which is empty
pub empty_piece : Table (marked (1 ∷ 0 ∷ 0 ∷ 0x61 ∷ []) ([] ∷ (1 ∷ 0 ∷ 0 ∷ 0x62 ∷ []) ∷ [])) ((0x61 ∷ []) ∷ [] ∷ (0x62 ∷ []) ∷ [])
unfolding units_at tail_at
empty_piece = (_, refl, (_, refl, ([], refl, refl)))

-- an empty piece inside a string: the units aren't there
pub empty_inside : next_at (marked (2 ∷ 0 ∷ 0 ∷ 0x41 ∷ []) ([] ∷ (0 ∷ 0x42 ∷ []) ∷ [])) ≡ Err no_units
unfolding units_at tail_at
empty_inside = refl

-- a cut after the last byte of the runs: a piece that is an empty string of its own
pub cut_after_tail : IsCutWell (Some 0 ∷ None ∷ []) → ⊥
cut_after_tail h = h.0

pub empty_at_end : next_at (marked [] ([] ∷ [])) ≡ Ok ([], [])
empty_at_end = refl

-- a unit of 256 in a narrow stretch: what is written is no byte
pub wide_in_narrow : marks_of_steps false (put 256 ∷ []) ≡ Some 256 ∷ []
wide_in_narrow = refl

-- the flag 04 without an extension length: four bytes more are wanted of the head
pub flag_without_length : next_at (marked (1 ∷ 0 ∷ 4 ∷ 0x61 ∷ []) []) ≡ Err (short_head 7 4)
flag_without_length = refl

-- an extension of 2 ^ 31 bytes: the length is negative
pub negative : next_at (marked (0 ∷ 0 ∷ 4 ∷ 0 ∷ 0 ∷ 0 ∷ 0x80 ∷ []) []) ≡ Err no_tail
unfolding units_at tail_at
negative = refl

-- a loose record of a type that is read in a sheet: it is kept
pub loose_number : kept_groups (bare_group 0x0203 [] ∷ bare_group 0x0208 [] ∷ []) ≡ bare_group 0x0203 [] ∷ []
loose_number = refl

-- and one of a type that is read in the globals: it is an entry
pub loose_format : filter is_globals_type (bare_group 0x041E [] ∷ bare_group 0x0031 [] ∷ []) ≡ bare_group 0x041E [] ∷ []
loose_format = refl

-- a part that begins with a Continue: the EOF before the part takes it
pub continue_first : Begins (group_bytes eof_group ++ (record_bytes 0x003C (1 ∷ []) ++ group_bytes eof_group)) (record { typ = 0x000A; body = []; tail = (1 ∷ []) ∷ [] }) (group_bytes eof_group)
continue_first = record {
  whole = refl;
  fits = record { typ = lit< tt; body = lit< tt; tail = (lit< tt, tt) };
  room = (lit< tt, tt);
  ended = λ s. let t = s.typ in cc;
}

-- a body, a count of units or of runs of 65,536, and an offset of 2 ^ 32: what is written is no byte
pub sixteen_bits : le16 65536 ≡ 0 ∷ 256 ∷ []
sixteen_bits = refl

pub thirty_two_bits : le32 4294967296 ≡ 0 ∷ 0 ∷ 0 ∷ 256 ∷ []
thirty_two_bits = refl

-- ---- a sheet part

-- a loose record before the BOF; a Number with a Continue, a chart with a Number of its own, a loose
-- record and a Formula
abbrev chart_part : LaidPart
chart_part = record {
  prefix = bare_group 0x0208 [] ∷ [];
  bof = bare_group 0x0809 [];
  items = plain (record { typ = 0x0203; body = 1 ∷ []; tail = (9 ∷ []) ∷ [] }) (nested (bare_group 0x0809 []) (plain (bare_group 0x0203 (2 ∷ [])) none) (bare_group 0x000A []) (plain (bare_group 0x0208 []) (plain (bare_group 0x0006 (3 ∷ [])) none)));
}

-- the Number and the Formula are its sheet's, without the Continue
pub chart_kept : kept_of_part chart_part ≡ record { typ = 0x0203; body = 1 ∷ [] } ∷ record { typ = 0x0006; body = 3 ∷ [] } ∷ []
chart_kept = refl

pub chart_bytes : bytes_of_part chart_part
    ≡ 0x08 ∷ 0x02 ∷ 0 ∷ 0 ∷ 0x09 ∷ 0x08 ∷ 0 ∷ 0 ∷ 0x03 ∷ 0x02 ∷ 1 ∷ 0 ∷ 1 ∷ 0x3C ∷ 0 ∷ 1 ∷ 0 ∷ 9
    ∷ 0x09 ∷ 0x08 ∷ 0 ∷ 0 ∷ 0x03 ∷ 0x02 ∷ 1 ∷ 0 ∷ 2 ∷ 0x0A ∷ 0 ∷ 0 ∷ 0
    ∷ 0x08 ∷ 0x02 ∷ 0 ∷ 0 ∷ 0x06 ∷ 0 ∷ 1 ∷ 0 ∷ 3 ∷ 0x0A ∷ 0 ∷ 0 ∷ 0 ∷ []
chart_bytes = refl
