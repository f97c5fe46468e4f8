-- Known values on a stream of 55 bytes: a sheet `A` with the number 3 in its first cell.
use Rattle.std.proofs.Common.{◌≡◌, ℕ, suc, zero, false, true, Bool, ◌&&◌, List, [], ◌∷◌, ◌++◌, take, refl, lit<, lit≤, arith, ltb, ltb-true, inl, None, Some, codes}
use Rattle.xls_stream.specs.Stream.{record_bytes, Run}
use Rattle.xls_stream.specs.Walks.{IsBytes}
use Rattle.xls_stream.specs.Substreams.{IsPlain, GlobalsPart, SheetPart, none, no_more, plain, own_closed, own_open}
use Rattle.xls_stream.specs.Listing.{Kept, Item, plain_item, sheet_item, ListEntry, plain_entry, sheet_entry, Holds, Carries}
use Rattle.xls_stream.specs.declared.part.Part.TheVariants as parts
use Rattle.xls_data.specs.Content.{float}
use Rattle.xls_dates.specs.declared.numbers.Number.TheVariants.{Bits}
use Rattle.xls_data.specs.declared.sheets.SheetType.TheVariants.{WorkSheet}
use Rattle.xls_data.specs.declared.sheets.SheetVisible.TheVariants.{Visible}
use Rattle.xls_record.specs.declared.error.XlsError.TheVariants as errors
use Rattle.xls_formula.specs.declared.numbers.NumberStyle.TheVariants.{Bits}
use Rattle.xls_meaning.specs.Reading.{BookView, IsReading}
use Rattle.xls_meaning.specs.Faults.{FirstFault, IsFull, IsSound}
use Rattle.xls_meaning.specs.Rules.{Rules}
use Rattle.xls_meaning.proofs.LawLemmas.{sound_where_full}
use Rattle.xls_meaning.proofs.SampleStreams.{bare, eof, nothing_starts, begins, following}

abbrev rules : Rules
rules = record { force_codepage = None; max_bytes = 55; max_cells = 1; functions = []; numbers = Bits }

-- ---- the stream

abbrev bof : List ℕ
bof = 0x00 ∷ 0x06 ∷ 0x05 ∷ 0x00 ∷ []

abbrev bound_sheet : List ℕ
bound_sheet = 25 ∷ 0 ∷ 0 ∷ 0 ∷ 0 ∷ 0 ∷ 1 ∷ 0 ∷ 0x41 ∷ []

abbrev sheet_bof : List ℕ
sheet_bof = 0x00 ∷ 0x06 ∷ 0x10 ∷ 0x00 ∷ []

-- a Number: row, column and XF index 0, and the double 3
abbrev number : List ℕ
number = 0 ∷ 0 ∷ 0 ∷ 0 ∷ 0 ∷ 0 ∷ 0 ∷ 0 ∷ 0 ∷ 0 ∷ 0 ∷ 0 ∷ 0x08 ∷ 0x40 ∷ []

-- the sheet's part from byte 25 on
abbrev part : List ℕ
part = record_bytes 0x0809 sheet_bof ++ (record_bytes 0x0203 number ++ eof)

abbrev stream : List ℕ
stream = record_bytes 0x0809 bof ++ (record_bytes 0x0085 bound_sheet ++ (eof ++ part))

pub known_stream : stream ≡
    0x09 ∷ 0x08 ∷ 0x04 ∷ 0x00 ∷ 0x00 ∷ 0x06 ∷ 0x05 ∷ 0x00 ∷
    0x85 ∷ 0x00 ∷ 0x09 ∷ 0x00 ∷ 0x19 ∷ 0x00 ∷ 0x00 ∷ 0x00 ∷ 0x00 ∷ 0x00 ∷ 0x01 ∷ 0x00 ∷ 0x41 ∷
    0x0A ∷ 0x00 ∷ 0x00 ∷ 0x00 ∷
    0x09 ∷ 0x08 ∷ 0x04 ∷ 0x00 ∷ 0x00 ∷ 0x06 ∷ 0x10 ∷ 0x00 ∷
    0x03 ∷ 0x02 ∷ 0x0E ∷ 0x00 ∷ 0x00 ∷ 0x00 ∷ 0x00 ∷ 0x00 ∷ 0x00 ∷ 0x00 ∷
    0x00 ∷ 0x00 ∷ 0x00 ∷ 0x00 ∷ 0x00 ∷ 0x00 ∷ 0x08 ∷ 0x40 ∷
    0x0A ∷ 0x00 ∷ 0x00 ∷ 0x00 ∷ []
known_stream = refl

-- ---- what it holds, and the list that it carries

-- the globals before any part that begins with a BOF
globals_before : (rest : List ℕ) → Run (record_bytes 0x0809 bof ++ (record_bytes 0x0085 bound_sheet ++ (eof ++ (record_bytes 0x0809 sheet_bof ++ rest)))) (bare 0x0809 bof ∷ bare 0x0085 bound_sheet ∷ bare 0x000A [] ∷ []) (record_bytes 0x0809 sheet_bof ++ rest)
globals_before rest = (
  _,
  begins 0x0809 bof _ tt tt (λ s. let t = s.typ in cc),
  (
    _,
    begins 0x0085 bound_sheet _ tt tt (λ s. let t = s.typ in cc),
    (_, begins 0x000A [] _ tt tt (λ s. let t = s.typ in cc), refl),
  ),
)

globals_part : (rest : List ℕ) → GlobalsPart (record_bytes 0x0809 bof ++ (record_bytes 0x0085 bound_sheet ++ (eof ++ (record_bytes 0x0809 sheet_bof ++ rest)))) (bare 0x0809 bof ∷ bare 0x0085 bound_sheet ∷ []) None
globals_part rest = record {
  no_eof = ((λ e. cc), ((λ e. cc), tt));
  rest = record_bytes 0x0809 sheet_bof ++ rest;
  ends = inl (bare 0x000A [], refl, globals_before rest, refl);
}

number_plain : IsPlain (bare 0x0203 number)
number_plain = ((λ e. let u : 0x0203 ≡ 0x0809 = e in omega arith), (λ e. let u : 0x0203 ≡ 0x000A = e in omega arith))

-- BOF, a Number, EOF
sheet_part : SheetPart part (bare 0x0203 number ∷ []) None
sheet_part = record {
  outline = own_closed [] (bare 0x0809 sheet_bof) (plain (bare 0x0203 number) none) (bare 0x000A []);
  is_outline = (tt, refl, (number_plain, tt), refl);
  rest = [];
  run = (
    _,
    begins 0x0809 sheet_bof _ tt tt (λ s. let t = s.typ in cc),
    (
      _,
      begins 0x0203 number _ tt tt (λ s. let t = s.typ in cc),
      (_, begins 0x000A [] _ tt tt nothing_starts, refl),
    ),
  );
  kept_is = refl;
  ends = refl;
}

abbrev kept : Kept
kept = record { typ = 0x0203; body = number }

abbrev items : List Item
items = plain_item 0x0809 bof ∷ sheet_item bound_sheet (kept ∷ []) None ∷ []

pub known_holds : Holds stream items None
known_holds = record {
  groups = bare 0x0809 bof ∷ bare 0x0085 bound_sheet ∷ [];
  globals = globals_part (record_bytes 0x0203 number ++ eof);
  items_are = ((refl, refl, refl), ((refl, refl, inl (lit≤ tt, (_, sheet_part, refl))), tt));
}

abbrev entries : List ListEntry
entries = plain_entry 0x0809 bof ∷ sheet_entry 0 0 (1 ∷ 0 ∷ 0x41 ∷ []) (kept ∷ []) ∷ []

pub known_carries : Carries stream entries
known_carries = record { items = items; holds = known_holds; whole = (tt, ((lit≤ tt, refl), tt)); entries_are = refl }

-- ---- what the list says

abbrev book : BookView
book = record {
  sheets = record { name = codes "A"; typ = WorkSheet; visible = Visible } ∷ [];
  names = [];
  contents = record { cells = ((0, 0), float (Bits 0x4008_0000_0000_0000)) ∷ []; formulas = []; merges = [] } ∷ [];
  is_1904 = false;
  classes = [];
}

pub known_reading : IsReading rules entries book
known_reading = record {
  sheets = refl;
  names = refl;
  contents = (record { ascending = (tt, tt); last = λ p. refl; formulas_ascending = tt; last_formulas = λ p. refl; merges = refl }, tt);
  date_system = refl;
  classes = refl;
}

-- ---- faults

-- it has none, where 55 bytes and one cell are the limits
pub known_full : IsFull rules entries
known_full = record { forced = refl; globals = refl; sheets = (tt, (refl, tt)) }

-- and one byte less is too little
pub known_limit : FirstFault (record { force_codepage = None; max_bytes = 54; max_cells = 1; functions = []; numbers = Bits }) stream (errors.TooLarge 54)
known_limit = refl

all_small : List ℕ → Bool
all_small [] = true
all_small (b ∷ bs) = ltb b 256 && all_small bs

both_true : (a b : Bool) → (a && b) ≡ true → (a ≡ true) × (b ≡ true)
both_true true b e = (refl, e)
both_true false b e = absurd cc

small_bytes : (bs : List ℕ) → all_small bs ≡ true → IsBytes bs
unfolding all_small
small_bytes [] e i = lit< tt
small_bytes (b ∷ bs) e zero = ltb-true b 256 (both_true (ltb b 256) (all_small bs) e).0
small_bytes (b ∷ bs) e (suc i) = small_bytes bs (both_true (ltb b 256) (all_small bs) e).1 i

pub known_sound : IsSound rules stream
unfolding all_small
known_sound = (sound_where_full rules stream (small_bytes stream refl)).1 (lit≤ tt, entries, known_carries, known_full)

-- a Number of 13 bytes
abbrev short : List ℕ
short = take 13 number

abbrev short_part : List ℕ
short_part = record_bytes 0x0809 sheet_bof ++ (record_bytes 0x0203 short ++ eof)

abbrev short_stream : List ℕ
short_stream = record_bytes 0x0809 bof ++ (record_bytes 0x0085 bound_sheet ++ (eof ++ short_part))

short_is : SheetPart short_part (bare 0x0203 short ∷ []) None
short_is = record {
  outline = own_closed [] (bare 0x0809 sheet_bof) (plain (bare 0x0203 short) none) (bare 0x000A []);
  is_outline = (tt, refl, (number_plain, tt), refl);
  rest = [];
  run = (
    _,
    begins 0x0809 sheet_bof _ tt tt (λ s. let t = s.typ in cc),
    (
      _,
      begins 0x0203 short _ tt tt (λ s. let t = s.typ in cc),
      (_, begins 0x000A [] _ tt tt nothing_starts, refl),
    ),
  );
  kept_is = refl;
  ends = refl;
}

abbrev short_items : List Item
short_items = plain_item 0x0809 bof ∷ sheet_item bound_sheet (record { typ = 0x0203; body = short } ∷ []) None ∷ []

pub known_short : FirstFault rules short_stream (errors.Len 14 13 parts.Number)
known_short = following rules short_stream (errors.Len 14 13 parts.Number) short_items None refl (record {
  groups = bare 0x0809 bof ∷ bare 0x0085 bound_sheet ∷ [];
  globals = globals_part (record_bytes 0x0203 short ++ eof);
  items_are = ((refl, refl, refl), ((refl, refl, inl (lit≤ tt, (_, short_is, refl))), tt));
}) refl

-- the stream without its last byte: a header is cut, after the Number was read
abbrev cut_end : List ℕ
cut_end = 0x0A ∷ 0x00 ∷ 0x00 ∷ []

abbrev cut_stream : List ℕ
cut_stream = take 54 stream

cut_is : SheetPart (record_bytes 0x0809 sheet_bof ++ (record_bytes 0x0203 number ++ cut_end)) (bare 0x0203 number ∷ []) (Some parts.RecordHeader)
cut_is = record {
  outline = own_open [] (bare 0x0809 sheet_bof) (plain (bare 0x0203 number) none) no_more;
  is_outline = (tt, refl, (number_plain, tt), tt);
  rest = cut_end;
  run = (
    _,
    begins 0x0809 sheet_bof _ tt tt (λ s. let t = s.typ in cc),
    (_, begins 0x0203 number _ tt tt (λ s. let t = s.typ in cc), refl),
  );
  kept_is = refl;
  ends = (lit< tt, lit< tt);
}

abbrev cut_items : List Item
cut_items = plain_item 0x0809 bof ∷ sheet_item bound_sheet (kept ∷ []) (Some parts.RecordHeader) ∷ []

pub known_cut : FirstFault rules cut_stream (errors.EoStream parts.RecordHeader)
known_cut = following rules cut_stream (errors.EoStream parts.RecordHeader) cut_items None refl (record {
  groups = bare 0x0809 bof ∷ bare 0x0085 bound_sheet ∷ [];
  globals = globals_part (record_bytes 0x0203 number ++ cut_end);
  items_are = ((refl, refl, refl), ((refl, refl, inl (lit≤ tt, (_, cut_is, refl))), tt));
}) refl
