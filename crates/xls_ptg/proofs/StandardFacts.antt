-- Values from outside, so that a wrong rule in the definitions does not check.
use Rattle.std.proofs.Common.{◌≡◌, ℕ, List, [], ◌∷◌, ◌++◌, refl, false, true, codes, Some, None, Ok, Err, replicate, map}
use Rattle.xls_stream.specs.declared.part.Part.TheVariants as parts
use Rattle.xls_data.specs.declared.errors.CellErrorType.TheVariants as failures
use Rattle.xls_record.specs.declared.error.XlsError.TheVariants as errors
use Rattle.xls_record.specs.declared.version.Biff.TheVariants.{Biff2, Biff4, Biff5, Biff8}
use Rattle.xls_ptg.specs.declared.corner.Corner.{Corner}
use Rattle.xls_ptg.specs.declared.operators.Operator.{Operator}
use Rattle.xls_ptg.specs.declared.operators.Operator.TheVariants as operators
use Rattle.xls_ptg.specs.declared.tokens.Ptg.TheVariants as ptg
use Rattle.xls_ptg.specs.Cites.{measured}
use Rattle.xls_ptg.specs.Tokens.{ptg_at}

-- the operators, 03 to 11
known_operators : map (λ token. ptg_at Biff8 (token ∷ [])) (0x03 ∷ 0x04 ∷ 0x05 ∷ 0x06 ∷ 0x07 ∷ 0x08 ∷ 0x09 ∷ 0x0A ∷ 0x0B ∷ 0x0C ∷ 0x0D ∷ 0x0E ∷ 0x0F ∷ 0x10 ∷ 0x11 ∷ [])
    ≡ map (λ (o : Operator). Ok (ptg.Binary o, 0)) (operators.Add ∷ operators.Sub ∷ operators.Mul ∷ operators.Div ∷ operators.Power ∷ operators.Concat ∷ operators.Lt ∷ operators.Le ∷ operators.Eq ∷ operators.Ge ∷ operators.Gt ∷ operators.Ne ∷ operators.Isect ∷ operators.Union ∷ operators.Range ∷ [])
known_operators = refl

-- 12 to 16, the others of one byte
known_signs : map (λ token. ptg_at Biff5 (token ∷ [])) (0x12 ∷ 0x13 ∷ 0x14 ∷ 0x15 ∷ 0x16 ∷ [])
    ≡ Ok (ptg.Uplus, 0) ∷ Ok (ptg.Uminus, 0) ∷ Ok (ptg.Percent, 0) ∷ Ok (ptg.Paren, 0) ∷ Ok (ptg.MissArg, 0) ∷ []
known_signs = refl

-- the first bytes below 20 that are no token
known_no_basic : map (λ token. ptg_at Biff8 (token ∷ replicate 9 0)) (0x00 ∷ 0x02 ∷ 0x1A ∷ 0x1B ∷ [])
    ≡ map (λ token. Err (errors.Unrecognized parts.Ptg token)) (0x00 ∷ 0x02 ∷ 0x1A ∷ 0x1B ∷ [])
known_no_basic = refl

-- error values, and a code that none has
known_err : ptg_at Biff8 (0x1C ∷ 0x2A ∷ []) ≡ Ok (ptg.Err failures.NA, 1)
known_err = refl

known_no_err : ptg_at Biff8 (0x1C ∷ 0x08 ∷ []) ≡ Err (errors.Unrecognized parts.BErr 0x08)
known_no_err = refl

-- strings of both layouts, whole and cut
known_str : ptg_at Biff8 (0x17 ∷ 6 ∷ 0 ∷ codes "SCHUCH") ≡ Ok (ptg.Str (codes "SCHUCH") 6 (Some false), 8)
known_str = refl

known_wide_str : ptg_at Biff8 (0x17 ∷ 1 ∷ 1 ∷ 0xAC ∷ 0x20 ∷ []) ≡ Ok (ptg.Str (0xAC ∷ 0x20 ∷ []) 1 (Some true), 4)
known_wide_str = refl

known_early_str : ptg_at Biff5 (0x17 ∷ 6 ∷ codes "SCHUCH") ≡ Ok (ptg.Str (codes "SCHUCH") 6 None, 7)
known_early_str = refl

known_short_str : ptg_at Biff5 (0x17 ∷ 6 ∷ codes "SCH") ≡ Err (errors.Len 7 4 parts.PtgStr)
known_short_str = refl

-- attributes: two jumps, and one that isn't known
known_choose : ptg_at Biff8 (0x19 ∷ 0x04 ∷ 2 ∷ replicate 7 0) ≡ Ok (ptg.AttrChoose, 9)
known_choose = refl

known_no_attr : ptg_at Biff8 (0x19 ∷ 0x03 ∷ 0 ∷ 0 ∷ []) ≡ Err (errors.Etpg 0x03)
known_no_attr = refl

-- the attributes of two bytes that aren't read
known_plain_attrs : map (λ attribute. ptg_at Biff8 (0x19 ∷ attribute ∷ 0 ∷ 0 ∷ [])) (0x01 ∷ 0x02 ∷ 0x08 ∷ 0x10 ∷ 0x20 ∷ 0x21 ∷ [])
    ≡ Ok (ptg.AttrSemi, 3) ∷ Ok (ptg.AttrIf, 3) ∷ Ok (ptg.AttrGoto, 3) ∷ Ok (ptg.AttrSum, 3) ∷ Ok (ptg.AttrBaxcel, 3) ∷ Ok (ptg.AttrBaxcel, 3) ∷ []
known_plain_attrs = refl

-- the kinds of spaces, 0 to 6, of which 1, 3 and 5 are returns, and a kind that is none
known_spaces : map (λ kind. ptg_at Biff8 (0x19 ∷ 0x40 ∷ kind ∷ 3 ∷ [])) (0 ∷ 1 ∷ 2 ∷ 3 ∷ 4 ∷ 5 ∷ 6 ∷ 7 ∷ [])
    ≡ map (λ is_return. Ok (ptg.AttrSpace is_return 3, 3)) (false ∷ true ∷ false ∷ true ∷ false ∷ true ∷ false ∷ []) ++ Err (errors.Unrecognized parts.SpaceKind 7) ∷ []
known_spaces = refl

known_spaces_semi : map (λ kind. ptg_at Biff8 (0x19 ∷ 0x41 ∷ kind ∷ 3 ∷ [])) (0 ∷ 1 ∷ 2 ∷ 3 ∷ 4 ∷ 5 ∷ 6 ∷ 7 ∷ [])
    ≡ map (λ is_return. Ok (ptg.AttrSpaceSemi is_return 3, 3)) (false ∷ true ∷ false ∷ true ∷ false ∷ true ∷ false ∷ []) ++ Err (errors.Unrecognized parts.SpaceKind 7) ∷ []
known_spaces_semi = refl

-- functions and names
known_func_var : ptg_at Biff8 (0x42 ∷ 2 ∷ 4 ∷ 0 ∷ []) ≡ Ok (ptg.FuncVar 2 4, 3)
known_func_var = refl

known_name : ptg_at Biff8 (0x43 ∷ 1 ∷ 0 ∷ 0 ∷ 0 ∷ []) ≡ Ok (ptg.Name 1, 4)
known_name = refl

-- a row is relative by 8000, a column by 4000, in the column word and before BIFF8 in the row word
known_ref : ptg_at Biff8 (0x24 ∷ 1 ∷ 0 ∷ 2 ∷ 0x40 ∷ []) ≡ Ok (ptg.Ref (record { row = 1; column = 2; is_row_relative = false; is_column_relative = true }), 4)
known_ref = refl

known_early_ref : ptg_at Biff5 (0x44 ∷ 1 ∷ 0x80 ∷ 2 ∷ []) ≡ Ok (ptg.Ref (record { row = 1; column = 2; is_row_relative = true; is_column_relative = false }), 3)
known_early_ref = refl

-- what cites cells, and what is cut or is no token
known_cite : measured (ptg_at Biff8 (0x5B ∷ 2 ∷ 0 ∷ 0 ∷ 0 ∷ 9 ∷ 0 ∷ 1 ∷ 0xC0 ∷ 2 ∷ 0x40 ∷ [])) ≡ Ok (record { size = 11; cite = Some (record { sheet = Some 2; first = (0, 1); last = (9, 2) }) })
known_cite = refl

known_err3d : measured (ptg_at Biff8 (0x3C ∷ replicate 6 0)) ≡ Ok (record { size = 7; cite = None })
known_err3d = refl

known_cut : ptg_at Biff8 (0x24 ∷ 0 ∷ 0 ∷ []) ≡ Err (errors.Len 4 2 parts.Ptg)
known_cut = refl

known_exp : ptg_at Biff8 (0x01 ∷ 0 ∷ []) ≡ Err (errors.Len 4 1 parts.PtgExp)
known_exp = refl

known_unknown : ptg_at Biff8 (0x79 ∷ []) ≡ Err (errors.Unrecognized parts.Ptg 0x79)
known_unknown = refl

-- a cell with `$` before its column and row, before its row, and before its column
abbrev fixed : ℕ → ℕ → Corner
fixed row column = record { row = row; column = column; is_row_relative = false; is_column_relative = false }

abbrev row_fixed : ℕ → ℕ → Corner
row_fixed row column = record { row = row; column = column; is_row_relative = false; is_column_relative = true }

abbrev column_fixed : ℕ → ℕ → Corner
column_fixed row column = record { row = row; column = column; is_row_relative = true; is_column_relative = false }

-- an area of BIFF8 has two rows and two column words, and each corner the flags of its own
known_area : ptg_at Biff8 (0x25 ∷ 1 ∷ 0 ∷ 9 ∷ 0 ∷ 2 ∷ 0x40 ∷ 3 ∷ 0x80 ∷ []) ≡ Ok (ptg.Area (row_fixed 1 2) (column_fixed 9 3), 8)
known_area = refl

known_other_area : ptg_at Biff8 (0x65 ∷ 1 ∷ 0 ∷ 9 ∷ 0 ∷ 2 ∷ 0x80 ∷ 3 ∷ 0x00 ∷ []) ≡ Ok (ptg.Area (column_fixed 1 2) (fixed 9 3), 8)
known_other_area = refl

-- an area on a sheet has `$` everywhere
known_area3d : ptg_at Biff8 (0x3B ∷ 5 ∷ 0 ∷ 1 ∷ 0 ∷ 9 ∷ 0 ∷ 2 ∷ 0x40 ∷ 3 ∷ 0x80 ∷ []) ≡ Ok (ptg.Area3d 5 (fixed 1 2) (fixed 9 3), 10)
known_area3d = refl

known_area_err3d : ptg_at Biff8 (0x3D ∷ 5 ∷ 0 ∷ replicate 8 0) ≡ Ok (ptg.AreaErr3d 5, 10)
known_area_err3d = refl

-- before BIFF8: two row words and two column bytes, with `$` everywhere
known_early_area : ptg_at Biff4 (0x25 ∷ 1 ∷ 0xC0 ∷ 9 ∷ 0x80 ∷ 2 ∷ 3 ∷ []) ≡ Ok (ptg.Area (fixed 1 2) (fixed 9 3), 6)
known_early_area = refl

-- on a sheet: the index at bytes 10 and 11, the row word at byte 14, the column at byte 16
abbrev early_prefix : List ℕ
early_prefix = 9 ∷ 8 ∷ 7 ∷ 6 ∷ 5 ∷ 4 ∷ 3 ∷ 2 ∷ 1 ∷ 0 ∷ 5 ∷ 1 ∷ 0xEE ∷ 0xEE ∷ []

known_early_ref3d : ptg_at Biff5 (0x3A ∷ early_prefix ++ (1 ∷ 0x40 ∷ 2 ∷ [])) ≡ Ok (ptg.Ref3d 261 (row_fixed 1 2), 17)
known_early_ref3d = refl

-- likewise an area: two row words from byte 14, then two column bytes
known_early_area3d : ptg_at Biff5 (0x5B ∷ early_prefix ++ (1 ∷ 0x40 ∷ 9 ∷ 0xC0 ∷ 2 ∷ 4 ∷ [])) ≡ Ok (ptg.Area3d 261 (fixed 1 2) (fixed 9 4), 20)
known_early_area3d = refl

known_early_err3d : ptg_at Biff2 (0x3C ∷ early_prefix ++ (0 ∷ 0 ∷ 0 ∷ [])) ≡ Ok (ptg.RefErr3d 261, 17)
known_early_err3d = refl

known_early_area_err3d : ptg_at Biff5 (0x7D ∷ early_prefix ++ (0 ∷ 0 ∷ 0 ∷ 0 ∷ 0 ∷ 0 ∷ [])) ≡ Ok (ptg.AreaErr3d 261, 20)
known_early_area_err3d = refl

known_early_cut : ptg_at Biff5 (0x3D ∷ early_prefix ++ (0 ∷ 0 ∷ 0 ∷ [])) ≡ Err (errors.Len 20 17 parts.Ptg)
known_early_cut = refl
