-- Known values, in the bytes of records, so that a wrong rule in the definitions does not check.
use Rattle.std.proofs.Common.{◌≡◌, ℕ, List, [], ◌∷◌, ◌++◌, map, replicate, refl, Bool, true, false, Some, None, Ok, Err}
use Rattle.xls_bytes.specs.Numbers.{le16}
use Rattle.xls_range.specs.Positions.{cell_position}
use Rattle.xls_stream.specs.Stream.{record_bytes}
use Rattle.xls_stream.specs.declared.part.Part.TheVariants as parts
use Rattle.xls_record.specs.declared.error.XlsError.TheVariants as errors
use Rattle.xls_parts.specs.PartRecords.{Placed, records_within, outer_from, own_from, own_records}
use Rattle.xls_bodies.specs.Bodies.{body_of, continued}
use Rattle.xls_style_cells.specs.Order.{ascends}
use Rattle.xls_shown_ptg.specs.declared.fault.Fault.TheVariants as faults
use Rattle.xls_formula_cells.specs.declared.place.FormulaPlace.{FormulaPlace}
use Rattle.xls_formula_cells.specs.Formulas.{formula_at, formulas_in, places_of}
use Rattle.xls_formula_cells.specs.Contents.{formula_contents}

-- ---- records

abbrev typed : ℕ → List ℕ → Placed
typed typ body = record { offset = 9; typ = typ; body = body }

-- the row comes before the column, and the lowest byte first; three bytes are too few
pub known_formulas : map (λ body. formula_at (typed 0x006 body)) ((1 ∷ 2 ∷ 3 ∷ 4 ∷ 5 ∷ []) ∷ (1 ∷ 2 ∷ 3 ∷ 4 ∷ [])
    ∷ (1 ∷ 2 ∷ 3 ∷ []) ∷ [] ∷ [])
    ≡ Some ((0x0201, 0x0403), 9) ∷ Some ((0x0201, 0x0403), 9) ∷ None ∷ None ∷ []
known_formulas = refl

-- the types of other cells, of formulas of ranges, and of formulas in versions before BIFF5 are none
pub known_others : map (λ typ. formula_at (typed typ (1 ∷ 2 ∷ 3 ∷ 4 ∷ 5 ∷ []))) (0x203 ∷ 0x207 ∷ 0x221 ∷ 0x236
    ∷ 0x4BC ∷ 0x206 ∷ 0x406 ∷ 0x03C ∷ [])
    ≡ None ∷ None ∷ None ∷ None ∷ None ∷ None ∷ None ∷ None ∷ []
known_others = refl

-- ---- a sheet

-- a Formula at a row and column, whose other bytes aren't looked at
abbrev formula_record : ℕ → ℕ → List ℕ
formula_record row column = record_bytes 0x006 (le16 row ++ le16 column)

-- F3, and H2 behind it; a Number; a Formula of three bytes; D259; one of a chart and one of a custom view; E3; H2 once more, which
-- goes on in a Continue; and one behind the EOF. The part begins at 1000
abbrev part : List ℕ
part = record_bytes 0x809 [] ++ formula_record 2 5 ++ formula_record 1 7 ++ record_bytes 0x203 (1 ∷ 0 ∷ 2 ∷ 0 ∷ [])
    ++ record_bytes 0x006 (1 ∷ 0 ∷ 2 ∷ []) ++ formula_record 258 3
    ++ record_bytes 0x809 [] ++ formula_record 0 0 ++ record_bytes 0x00A []
    ++ record_bytes 0x1AA [] ++ formula_record 0 1 ++ record_bytes 0x1AB []
    ++ formula_record 2 4 ++ record_bytes 0x006 (1 ∷ 0 ∷ 7 ∷ 0 ∷ 9 ∷ []) ++ record_bytes 0x03C (8 ∷ 7 ∷ [])
    ++ record_bytes 0x00A [] ++ formula_record 0 0

pub known_in_stream : formulas_in (own_records 1000 part)
    ≡ ((2, 5), 1004) ∷ ((1, 7), 1012) ∷ ((258, 3), 1035) ∷ ((2, 4), 1075) ∷ ((1, 7), 1083) ∷ []
unfolding records_within outer_from own_from
known_in_stream = refl

abbrev place : ℕ → ℕ → ℕ → FormulaPlace
place row column offset = record { row = row; column = column; offset = offset }

-- by row and then by column; of the cell that has two records the last counts
pub known_places : places_of (own_records 1000 part) ≡ place 1 7 1083 ∷ place 2 4 1075 ∷ place 2 5 1004 ∷ place 258 3 1035 ∷ []
unfolding records_within outer_from own_from
known_places = refl

pub known_bodies : map (body_of 1000 part) (1083 ∷ 1004 ∷ []) ≡ (1 ∷ 0 ∷ 7 ∷ 0 ∷ 9 ∷ 8 ∷ 7 ∷ []) ∷ (2 ∷ 0 ∷ 5 ∷ 0 ∷ []) ∷ []
unfolding records_within continued
known_bodies = refl

-- which sheets need no memory: one without formulas, and those whose cells ascend strictly
abbrev ascends_in : List ℕ → Bool
ascends_in bytes = ascends None (map cell_position (formulas_in (own_records 0 bytes)))

pub known_ascents : map ascends_in (record_bytes 0x809 [] ∷ (formula_record 1 7 ++ formula_record 1 8 ++ formula_record 2 0)
    ∷ (formula_record 1 7 ++ formula_record 1 7) ∷ (formula_record 1 7 ++ formula_record 1 6)
    ∷ (formula_record 2 0 ++ formula_record 1 7) ∷ [])
    ≡ true ∷ true ∷ false ∷ false ∷ false ∷ []
unfolding records_within outer_from own_from
known_ascents = refl

-- ---- contents

-- 20 bytes, a count, and bytes behind it
abbrev body : ℕ → List ℕ → List ℕ
body cce rest = replicate 20 9 ++ le16 cce ++ rest

pub known_contents : map formula_contents (body 3 (1 ∷ 2 ∷ 3 ∷ 4 ∷ 5 ∷ []) ∷ body 2 (1 ∷ 2 ∷ []) ∷ body 0 [] ∷ [])
    ≡ Ok (1 ∷ 2 ∷ 3 ∷ [], 4 ∷ 5 ∷ []) ∷ Ok (1 ∷ 2 ∷ [], []) ∷ Ok ([], []) ∷ []
known_contents = refl

-- a body that ends before its tokens, before their count, and inside it or them
pub known_cut : map formula_contents (replicate 19 9 ∷ replicate 20 9 ∷ replicate 21 9 ∷ body 1 [] ∷ body 0x0103 (1 ∷ 2 ∷ []) ∷ [])
    ≡ Err (faults.Xls (errors.Len 20 19 parts.Formula)) ∷ Err (faults.Xls (errors.Len 2 0 parts.Rgce))
    ∷ Err (faults.Xls (errors.Len 2 1 parts.Rgce)) ∷ Err (faults.Xls (errors.Len 3 2 parts.Rgce))
    ∷ Err (faults.Xls (errors.Len 0x0105 4 parts.Rgce)) ∷ []
known_cut = refl
