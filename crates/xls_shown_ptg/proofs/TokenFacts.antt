-- Values from outside, so that a wrong rule in the definitions does not check: each first byte of a token, and each
-- attribute.
use Rattle.std.proofs.Common.{◌≡◌, ℕ, ◌+◌, List, [], ◌∷◌, ◌++◌, refl, false, true, Some, Ok, Err, Result, replicate, map}
use Rattle.std.proofs.Common.{pos, negsuc}
use Rattle.std.specs.List.{range_with_len}
use Rattle.xls_stream.specs.declared.part.Part.TheVariants as parts
use Rattle.xls_data.specs.declared.errors.CellErrorType.TheVariants as failures
use Rattle.xls_record.specs.declared.error.XlsError.TheVariants as errors
use Rattle.xls_record.specs.declared.version.Biff.{Biff}
use Rattle.xls_record.specs.declared.version.Biff.TheVariants.{Biff5, Biff8}
use Rattle.xls_ptg.specs.declared.corner.Corner.{Corner}
use Rattle.xls_ptg.specs.declared.tokens.Ptg.TheVariants as ptg
use Rattle.xls_shown_ptg.specs.Reading.{Shown, gives, shared}
use Rattle.xls_shown_ptg.specs.ShownTokens.{shown_at, basic_by, classed_by, by_link, mem_by}
use Rattle.xls_shown_ptg.specs.declared.fault.Fault.{Fault}
use Rattle.xls_shown_ptg.specs.declared.fault.Fault.TheVariants as faults
use Rattle.xls_shown_ptg.specs.declared.tokens.NameLink.TheVariants as names
use Rattle.xls_shown_ptg.specs.declared.tokens.SheetLink.TheVariants as sheets
use Rattle.xls_shown_ptg.specs.declared.tokens.ShownPtg.TheVariants as shown
use Rattle.xls_shown_ptg.specs.declared.tokens.Space.{Space}
use Rattle.xls_shown_ptg.specs.declared.tokens.SpacePlace.TheVariants as places

-- how many bytes of a token stand behind its first, or its fault
abbrev Outcome : Type 0
Outcome = Result ℕ Fault

abbrev outcome : Shown → Outcome
outcome read = gives (λ x. x.1) read

abbrev sizes : List ℕ → List Outcome
sizes ns = map (λ (n : ℕ). Ok n) ns

-- so many tokens that aren't known
abbrev unknowns : ℕ → ℕ → List Outcome
unknowns first count = map (λ token. Err (faults.Xls (errors.Unrecognized parts.Ptg token))) (range_with_len first count)

-- ---- each first byte, with 31 zeros behind it

abbrev first_bytes : Biff → List Outcome
first_bytes biff = map (λ token. outcome (shown_at biff (token ∷ replicate 31 0))) (range_with_len 0x00 0x100)

-- 00 to 1F, where an empty string has so many bytes
abbrev basic : ℕ → List Outcome
basic str =
    unknowns 0x00 3 ++ (sizes (replicate 20 0) ++ (Ok str ∷ Err (faults.Eptg 0x00) ∷ Ok 3 ∷ [] ++ (unknowns 0x1A 2 ++ sizes (1 ∷ 1
    ∷ 2 ∷ 8 ∷ []))))

-- 20 to 3F, and the same from 40 and 60 on
abbrev classed : ℕ → List Outcome
classed class =
    sizes (7 ∷ 2 ∷ 3 ∷ 4 ∷ 4 ∷ 8 ∷ 6 ∷ 6 ∷ 6 ∷ 2 ∷ 4 ∷ 8 ∷ 4 ∷ 8 ∷ 2 ∷ 2 ∷ []) ++ (unknowns (class + 0x10) 9
    ++ (sizes (6 ∷ 6 ∷ 0x0A ∷ 6 ∷ 0x0A ∷ []) ++ unknowns (class + 0x1E) 2))

abbrev early_classed : ℕ → List Outcome
early_classed class =
    sizes (7 ∷ 2 ∷ 3 ∷ 0x0E ∷ 3 ∷ 6 ∷ 6 ∷ 6 ∷ 6 ∷ 2 ∷ 3 ∷ 6 ∷ 3 ∷ 6 ∷ 2 ∷ 2 ∷ []) ++ (unknowns (class + 0x10) 9
    ++ (sizes (0x18 ∷ 0x11 ∷ 0x14 ∷ 0x11 ∷ 0x14 ∷ []) ++ unknowns (class + 0x1E) 2))

known_first_bytes : first_bytes Biff8 ≡ basic 2 ++ (classed 0x20 ++ (classed 0x40 ++ (classed 0x60 ++ unknowns 0x80 0x80)))
unfolding shared basic_by classed_by by_link mem_by
known_first_bytes = refl

known_early_first_bytes : first_bytes Biff5 ≡ basic 1 ++ (early_classed 0x20 ++ (early_classed 0x40 ++ (early_classed 0x60
    ++ unknowns 0x80 0x80)))
unfolding shared basic_by classed_by by_link mem_by
known_early_first_bytes = refl

-- ---- each attribute, with eight zeros behind it

abbrev attributes : Biff → List Outcome
attributes biff = map (λ attribute. outcome (shown_at biff (0x19 ∷ attribute ∷ replicate 8 0))) (range_with_len 0x00 0x100)

abbrev no_attributes : ℕ → ℕ → List Outcome
no_attributes first count = map (λ attribute. Err (faults.Xls (errors.Etpg attribute))) (range_with_len first count)

-- 00, 01, 02, 04, 08, 10, 20, 21, 40 and 41
abbrev all_attributes : List Outcome
all_attributes =
    sizes (3 ∷ 3 ∷ 3 ∷ []) ++ (no_attributes 0x03 1 ++ (sizes (5 ∷ []) ++ (no_attributes 0x05 3 ++ (sizes (3 ∷ [])
    ++ (no_attributes 0x09 7
    ++ (sizes (3 ∷ []) ++ (no_attributes 0x11 15 ++ (sizes (3 ∷ 3 ∷ []) ++ (no_attributes 0x22 30 ++ (sizes (3 ∷ 3 ∷ [])
    ++ no_attributes 0x42 190))))))))))

known_attributes : attributes Biff8 ≡ all_attributes
unfolding shared basic_by
known_attributes = refl

known_early_attributes : attributes Biff5 ≡ all_attributes
unfolding shared basic_by
known_early_attributes = refl

-- ---- what they are

-- 19 00 and 18 0A write nothing; of 18 each other kind but 0B is refused
known_nothing : map (λ bytes. shown_at Biff8 bytes) ((0x19 ∷ 0x00 ∷ 1 ∷ 2 ∷ []) ∷ (0x18 ∷ 0x0A ∷ 1 ∷ 2 ∷ 3 ∷ 4 ∷ []) ∷ (0x18 ∷ 0x0B
    ∷ 1 ∷ 2 ∷ 3 ∷ 4 ∷ []) ∷ [])
    ≡ Ok (shown.Nothing, 3) ∷ Ok (shown.Nothing, 5) ∷ Ok (shown.ElfRadicalS, 5) ∷ []
unfolding basic_by
known_nothing = refl

abbrev labels : List Outcome
labels = map (λ kind. outcome (shown_at Biff5 (0x18 ∷ kind ∷ replicate 4 0))) (range_with_len 0x00 0x100)

abbrev no_labels : ℕ → ℕ → List Outcome
no_labels first count = map (λ kind. Err (faults.Eptg kind)) (range_with_len first count)

known_labels : labels ≡ no_labels 0x00 10 ++ (sizes (5 ∷ 5 ∷ []) ++ no_labels 0x0C 244)
unfolding basic_by
known_labels = refl

-- the tokens of other tokens: 26 has extra bytes
known_mems : map (λ token. shown_at Biff8 (token ∷ replicate 6 0)) (0x26 ∷ 0x27 ∷ 0x28 ∷ 0x29 ∷ 0x2E ∷ 0x2F ∷ [])
    ≡ Ok (shown.MemArea, 6) ∷ Ok (shown.Nothing, 6) ∷ Ok (shown.Nothing, 6) ∷ Ok (shown.Nothing, 2) ∷ Ok (shown.Nothing, 2)
    ∷ Ok (shown.Nothing, 2) ∷ []
unfolding classed_by by_link mem_by
known_mems = refl

-- the kinds of white space, 00 to 06, and one that is none
known_spaces : map (λ kind. shown_at Biff8 (0x19 ∷ 0x40 ∷ kind ∷ 3 ∷ [])) (range_with_len 0x00 8)
    ≡ map (λ (space : Space). Ok (shown.AttrSpace space, 3))
    (record { place = places.Before; is_newline = false; count = 3 } ∷ record { place = places.Before; is_newline = true; count = 3 }
    ∷ record { place = places.Before; is_newline = false; count = 3 } ∷ record { place = places.Before; is_newline = true; count = 3 }
    ∷ record { place = places.Closing; is_newline = false; count = 3 } ∷ record { place = places.Closing; is_newline = true; count = 3 }
    ∷ record { place = places.Front; is_newline = false; count = 3 } ∷ [])
    ++ Err (faults.Xls (errors.Unrecognized parts.SpaceKind 0x07)) ∷ []
unfolding basic_by
known_spaces = refl

-- a function, a call by name, commands; the top bit of a count is dropped
known_calls : map (λ bytes. shown_at Biff8 bytes)
    ((0x42 ∷ 0x82 ∷ 0x04 ∷ 0x00 ∷ []) ∷ (0x22 ∷ 0x01 ∷ 0xFF ∷ 0x00 ∷ []) ∷ (0x62 ∷ 0x83 ∷ 0xFF ∷ 0x80 ∷ []) ∷ (0x42 ∷ 0x7F ∷ 0xFF
    ∷ 0x7F ∷ []) ∷ (0x42 ∷ 0x80 ∷ 0x00 ∷ 0x80 ∷ []) ∷ [])
    ≡ Ok (shown.Known (ptg.FuncVar 2 0x0004), 3) ∷ Ok (shown.UserFunc 1, 3) ∷ Ok (shown.Command 3 0x00FF, 3)
    ∷ Ok (shown.Known (ptg.FuncVar 0x7F 0x7FFF), 3) ∷ Ok (shown.Command 0 0x0000, 3) ∷ []
unfolding classed_by
known_calls = refl

-- a token that each reading has
known_shared : map (λ bytes. shown_at Biff8 bytes) ((0x1C ∷ 0x2B ∷ []) ∷ (0x1C ∷ 0x08 ∷ []) ∷ (0x17 ∷ 1 ∷ 1 ∷ 0xAC ∷ 0x20 ∷ [])
    ∷ (0x64 ∷ 1 ∷ 0 ∷ 2 ∷ 0x40 ∷ []) ∷ (0x21 ∷ 0x18 ∷ 0x00 ∷ []) ∷ [])
    ≡ Ok (shown.Known (ptg.Err failures.GettingData), 1) ∷ Err (faults.Xls (errors.Unrecognized parts.BErr 0x08))
    ∷ Ok (shown.Known (ptg.Str (0xAC ∷ 0x20 ∷ []) 1 (Some true)), 4)
    ∷ Ok (shown.Known (ptg.Ref (record { row = 1; column = 2; is_row_relative = false; is_column_relative = true })), 4)
    ∷ Ok (shown.Known (ptg.Func 0x0018), 2) ∷ []
unfolding shared basic_by classed_by by_link mem_by
known_shared = refl

-- a cell with `$` before its row, and before its column
abbrev row_fixed : ℕ → ℕ → Corner
row_fixed row column = record { row = row; column = column; is_row_relative = false; is_column_relative = true }

abbrev column_fixed : ℕ → ℕ → Corner
column_fixed row column = record { row = row; column = column; is_row_relative = true; is_column_relative = false }

-- cells and areas, of BIFF8 (4000: the column is relative, 8000: the row) and before, where areas have flags too
known_areas : map (λ bytes. shown_at Biff8 bytes) ((0x25 ∷ 1 ∷ 0 ∷ 9 ∷ 0 ∷ 2 ∷ 0x40 ∷ 3 ∷ 0x80 ∷ []) ∷ (0x4C ∷ 1 ∷ 0 ∷ 2 ∷ 0x80 ∷ [])
    ∷ (0x6D ∷ 1 ∷ 0 ∷ 9 ∷ 0 ∷ 2 ∷ 0x40 ∷ 3 ∷ 0x80 ∷ []) ∷ [])
    ≡ Ok (shown.Known (ptg.Area (row_fixed 1 2) (column_fixed 9 3)), 8) ∷ Ok (shown.RefN (column_fixed 1 2), 4)
    ∷ Ok (shown.AreaN (row_fixed 1 2) (column_fixed 9 3), 8) ∷ []
unfolding classed_by
known_areas = refl

known_early_areas : map (λ bytes. shown_at Biff5 bytes) ((0x25 ∷ 1 ∷ 0x40 ∷ 9 ∷ 0x80 ∷ 2 ∷ 3 ∷ []) ∷ (0x2C ∷ 0xFF ∷ 0xBF ∷ 0xFF ∷ [])
    ∷ (0x4D ∷ 1 ∷ 0x40 ∷ 9 ∷ 0x80 ∷ 2 ∷ 3 ∷ []) ∷ [])
    ≡ Ok (shown.Known (ptg.Area (row_fixed 1 2) (column_fixed 9 3)), 6) ∷ Ok (shown.RefN (column_fixed 0x3FFF 0xFF), 3)
    ∷ Ok (shown.AreaN (row_fixed 1 2) (column_fixed 9 3), 6) ∷ []
unfolding classed_by
known_early_areas = refl

-- by reference, in BIFF8
known_links : map (λ bytes. shown_at Biff8 bytes)
    ((0x79 ∷ 1 ∷ 2 ∷ 3 ∷ 4 ∷ 5 ∷ 6 ∷ []) ∷ (0x3A ∷ 5 ∷ 1 ∷ 1 ∷ 0 ∷ 2 ∷ 0x40 ∷ []) ∷ (0x5B ∷ 5 ∷ 1 ∷ 1 ∷ 0 ∷ 9 ∷ 0 ∷ 2 ∷ 0x40 ∷ 3
    ∷ 0x80 ∷ []) ∷ (0x3C ∷ 5 ∷ 1 ∷ 0 ∷ 0 ∷ 0 ∷ 0 ∷ []) ∷ (0x3D ∷ 6 ∷ 1 ∷ 0 ∷ 0 ∷ 0 ∷ 0 ∷ 0 ∷ 0 ∷ 0 ∷ 0 ∷ []) ∷ [])
    ≡ Ok (shown.NameX (names.Xti 0x0201 0x0605_0403), 6) ∷ Ok (shown.Ref3d (sheets.Xti 0x0105) (row_fixed 1 2), 6)
    ∷ Ok (shown.Area3d (sheets.Xti 0x0105) (row_fixed 1 2) (column_fixed 9 3), 0x0A) ∷ Ok (shown.Err3d (sheets.Xti 0x0105), 6)
    ∷ Ok (shown.Err3d (sheets.Xti 0x0106), 0x0A) ∷ []
unfolding classed_by by_link
known_links = refl

-- and before it: a record at byte 0, names and sheets from byte A on, cells from byte E on
abbrev front : ℕ → ℕ → List ℕ
front low high = low ∷ high ∷ 0xE2 ∷ 0xE3 ∷ 0xE4 ∷ 0xE5 ∷ 0xE6 ∷ 0xE7 ∷ 0xE8 ∷ 0xE9 ∷ 0x07 ∷ 0x01 ∷ 0x09 ∷ 0x01 ∷ []

known_early_links : map (λ bytes. shown_at Biff5 bytes)
    ((0x39 ∷ front 0xFE 0xFF ++ replicate 10 0xEE) ∷ (0x3A ∷ front 0xFF 0xFF ++ (1 ∷ 0x40 ∷ 2 ∷ [])) ∷ (0x3B ∷ front 0x02 0x01 ++ (1
    ∷ 0x40 ∷ 9 ∷ 0x80 ∷ 2 ∷ 3 ∷ []))
    ∷ (0x7C ∷ front 0x01 0x00 ++ replicate 3 0) ∷ (0x7D ∷ front 0x00 0x00 ++ replicate 6 0) ∷ [])
    ≡ Ok (shown.NameX (names.Early (negsuc 1) 0x0107), 0x18)
    ∷ Ok (shown.Ref3d (sheets.Early (negsuc 0) 0x0107 0x0109) (row_fixed 1 2), 0x11)
    ∷ Ok (shown.Area3d (sheets.Early (pos 0x0102) 0x0107 0x0109) (row_fixed 1 2) (column_fixed 9 3), 0x14)
    ∷ Ok (shown.Err3d (sheets.Early (pos 1) 0x0107 0x0109), 0x11) ∷ Ok (shown.Err3d (sheets.Early (pos 0) 0x0107 0x0109), 0x14) ∷ []
unfolding classed_by by_link
known_early_links = refl

-- tokens that are cut
known_cuts : map (λ bytes. outcome (shown_at Biff8 bytes)) ((0x18 ∷ 0x01 ∷ []) ∷ (0x19 ∷ []) ∷ (0x19 ∷ 0x00 ∷ 0 ∷ []) ∷ (0x19 ∷ 0x41
    ∷ 9 ∷ []) ∷ (0x22 ∷ 0 ∷ 0 ∷ []) ∷ (0x26 ∷ []) ∷ (0x2F ∷ 0 ∷ []) ∷ (0x39 ∷ []) ∷ (0x3B ∷ []) ∷ (0x2C ∷ []) ∷ (0x2D ∷ []) ∷ (0x24
    ∷ []) ∷ [])
    ≡ map (λ (size : ℕ × ℕ). Err (faults.Xls (errors.Len size.0 size.1 parts.Ptg)))
    ((5, 1) ∷ (1, 0) ∷ (2, 1) ∷ (2, 1) ∷ (3, 2) ∷ (6, 0) ∷ (2, 1) ∷ (6, 0) ∷ (0x0A, 0) ∷ (4, 0) ∷ (8, 0) ∷ (4, 0) ∷ [])
unfolding shared basic_by classed_by by_link mem_by
known_cuts = refl
