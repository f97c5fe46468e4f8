-- Values from outside, so that a wrong rule in the definitions does not check: constant arrays, the extra bytes of other
-- tokens, counts of operands and the texts of faults.
use Rattle.std.proofs.Common.{◌≡◌, ℕ, [], ◌∷◌, ◌++◌, refl, false, true, codes, Some, None, Ok, Err, replicate, map}
use Rattle.std.specs.Fmt.{digits}
use Rattle.xls_stream.specs.declared.part.Part.TheVariants as parts
use Rattle.xls_data.specs.declared.errors.CellErrorType.TheVariants as failures
use Rattle.xls_record.specs.declared.error.XlsError.TheVariants as errors
use Rattle.xls_record.specs.declared.version.Biff.TheVariants.{Biff5, Biff8}
use Rattle.xls_shown_ptg.specs.Arrays.{array_at, ser_at, size_at}
use Rattle.xls_shown_ptg.specs.Counts.{operand_count}
use Rattle.xls_shown_ptg.specs.Extra.{after_elf, after_mem_area}
use Rattle.xls_shown_ptg.specs.FaultText.{fault_text}
use Rattle.xls_shown_ptg.specs.declared.arrays.ArraySize.{ArraySize}
use Rattle.xls_shown_ptg.specs.declared.arrays.SerAr.TheVariants as sers
use Rattle.xls_shown_ptg.specs.declared.counts.TheConstants.{COUNTS}
use Rattle.xls_shown_ptg.specs.declared.fault.Fault.TheVariants as faults

-- ---- constant arrays

-- two columns and three rows: nothing, 1.5; "ab", U+20AC; TRUE, #N/A; and a byte behind them
known_array : array_at Biff8 (0x01 ∷ 0x02 ∷ 0x00 ∷ 0x00 ∷ replicate 8 9 ++ (0x01 ∷ replicate 6 0 ++ (0xF8 ∷ 0x3F ∷ 0x02 ∷ 2 ∷ 0 ∷ 0
    ∷ codes "ab"
    ++ (0x02 ∷ 1 ∷ 0 ∷ 1 ∷ 0xAC ∷ 0x20 ∷ 0x04 ∷ 1 ∷ replicate 7 9 ++ (0x10 ∷ 0x2A ∷ replicate 7 9 ++ (0x77 ∷ []))))))
    ≡ Ok (
      record {
        columns = 2;
        values = sers.Nil ∷ sers.Num 0x3FF8_0000_0000_0000 ∷ sers.Str (codes "ab") 2 (Some false) ∷ sers.Str (0xAC ∷ 0x20
            ∷ []) 1 (Some true)
            ∷ sers.Bool true ∷ sers.Err failures.NA ∷ [];
      },
      0x77 ∷ [],
    )
known_array = refl

-- before BIFF8 columns and rows as they are, and a string with a count byte
known_early_array : array_at Biff5 (0x02 ∷ 0x01 ∷ 0x00 ∷ 0x02 ∷ 3 ∷ codes "abc" ++ (0x04 ∷ replicate 8 0 ++ (0x77 ∷ [])))
    ≡ Ok (record { columns = 2; values = sers.Str (codes "abc") 3 None ∷ sers.Bool false ∷ [] }, 0x77 ∷ [])
known_early_array = refl

known_heads : map (λ head. size_at Biff8 head) ((0x00 ∷ 0x00 ∷ 0x00 ∷ []) ∷ (0xFF ∷ 0xFF ∷ 0xFF ∷ []) ∷ [])
    ≡ map (λ (size : ArraySize). Ok (size, [])) (record { columns = 1; rows = 1 } ∷ record { columns = 256; rows = 65536 } ∷ [])
known_heads = refl

known_early_heads : map (λ head. size_at Biff5 head) ((0x00 ∷ 0x00 ∷ 0x00 ∷ []) ∷ (0xFF ∷ 0xFF ∷ 0xFF ∷ []) ∷ (0x01 ∷ 0x02 ∷ 0x01
    ∷ []) ∷ [])
    ≡ map (λ (size : ArraySize). Ok (size, [])) (record { columns = 256; rows = 0 } ∷ record { columns = 255; rows = 65535 }
    ∷ record { columns = 1; rows = 0x0102 } ∷ [])
known_early_heads = refl

-- the kinds but 00, 01, 02, 04 and 10 are refused
known_kinds : map (λ kind. ser_at Biff8 (kind ∷ 0x07 ∷ replicate 7 0)) (0x03 ∷ 0x05 ∷ 0x08 ∷ 0x0F ∷ 0x11 ∷ 0x20 ∷ 0xFF ∷ [])
    ≡ map (λ kind. Err (faults.SerAr kind)) (0x03 ∷ 0x05 ∷ 0x08 ∷ 0x0F ∷ 0x11 ∷ 0x20 ∷ 0xFF ∷ [])
known_kinds = refl

known_no_error : ser_at Biff8 (0x10 ∷ 0x08 ∷ replicate 7 0) ≡ Err (faults.Xls (errors.Unrecognized parts.BErr 0x08))
known_no_error = refl

-- arrays that are cut: the head, a value's byte, a value, the head of a string
known_cut_head : array_at Biff8 (0x00 ∷ 0x00 ∷ []) ≡ Err (faults.ExtraArray 3 2)
known_cut_head = refl

known_cut_values : map (λ rest. ser_at Biff8 rest) ([] ∷ (0x00 ∷ replicate 7 0) ∷ (0x01 ∷ []) ∷ (0x04 ∷ replicate 5 0) ∷ (0x10
    ∷ replicate 6 0) ∷ (0x02 ∷ 9 ∷ 0 ∷ []) ∷ [])
    ≡ map (λ (size : ℕ × ℕ). Err (faults.ExtraArray size.0 size.1)) ((1, 0) ∷ (8, 7) ∷ (8, 0) ∷ (8, 5) ∷ (8, 6) ∷ (3, 2) ∷ [])
known_cut_values = refl

-- a string of BIFF8 without its units is refused as other strings are
known_cut_strings : map (λ rest. ser_at Biff8 rest) ((0x02 ∷ 3 ∷ 0 ∷ 0 ∷ codes "ab") ∷ (0x02 ∷ 3 ∷ 0 ∷ 1 ∷ codes "ab") ∷ [])
    ≡ Err (faults.Xls (errors.Len 4 3 parts.NoCch)) ∷ Err (faults.Xls (errors.Len 7 3 parts.NoCch)) ∷ []
known_cut_strings = refl

known_early_cut_strings : map (λ rest. ser_at Biff5 rest) ((0x02 ∷ []) ∷ (0x02 ∷ 3 ∷ codes "ab") ∷ [])
    ≡ Err (faults.ExtraArray 1 0) ∷ Err (faults.ExtraArray 4 3) ∷ []
known_early_cut_strings = refl

-- ---- other extra bytes, whole and cut

known_after_elf : map after_elf ((0x01 ∷ 0 ∷ 0 ∷ 0xC0 ∷ 1 ∷ 2 ∷ 3 ∷ 4 ∷ 0x77 ∷ []) ∷ (0x00 ∷ 0 ∷ 0 ∷ 0x40 ∷ 0x77 ∷ []) ∷ (0x02 ∷ 0
    ∷ 0 ∷ 0 ∷ 1 ∷ 2 ∷ 3 ∷ 4 ∷ 5 ∷ []) ∷ (0 ∷ 0 ∷ 0 ∷ []) ∷ [])
    ≡ (0x77 ∷ []) ∷ (0x77 ∷ []) ∷ [] ∷ [] ∷ []
known_after_elf = refl

known_after_mem_area : map (λ extra. after_mem_area Biff8 extra) ((0x01 ∷ 0 ∷ replicate 8 9 ++ (0x77 ∷ [])) ∷ (0x00 ∷ 0 ∷ 0x77 ∷ [])
    ∷ (0x02 ∷ 0 ∷ replicate 15 9) ∷ (0 ∷ []) ∷ [])
    ≡ (0x77 ∷ []) ∷ (0x77 ∷ []) ∷ [] ∷ [] ∷ []
known_after_mem_area = refl

known_after_early_mem_area : after_mem_area Biff5 (0x02 ∷ 0 ∷ replicate 12 9 ++ (0x77 ∷ [])) ≡ 0x77 ∷ []
known_after_early_mem_area = refl

-- ---- counts of operands

known_counts : COUNTS
    ≡ (0x4F, 2) ∷ (0x50, 2) ∷ (0x55, 0) ∷ (0x59, 0) ∷ (0x5A, 1) ∷ (0x5E, 0) ∷ (0x5F, 0) ∷ (0x6A, 1) ∷ (0x6C, 2) ∷ (0x85, 1)
    ∷ (0x86, 1) ∷ (0x87, 1)
    ∷ (0x88, 2) ∷ (0x89, 2) ∷ (0x8A, 2) ∷ (0xA1, 1) ∷ (0xAC, 1) ∷ (0xAD, 0) ∷ (0xAE, 0) ∷ (0xAF, 2) ∷ (0xB0, 2) ∷ (0xB1, 3)
    ∷ (0xB2, 2) ∷ (0xB3, 1)
    ∷ (0xBA, 1) ∷ (0xC8, 1) ∷ (0xC9, 1) ∷ (0xDF, 0) ∷ (0xE0, 1) ∷ (0xE1, 0) ∷ (0xEE, 0) ∷ (0xF5, 0) ∷ (0xFE, 1) ∷ (0x100, 1) ∷ (0x101, 1)
    ∷ (0x109, 3) ∷ (0x10A, 3) ∷ (0x166, 2) ∷ []
known_counts = refl

-- others keep their count
known_operand_counts : map (λ iftab. operand_count iftab 255) (0x00 ∷ 0x4E ∷ 0x4F ∷ 0xFF ∷ 0x100 ∷ 0x166 ∷ 0x167 ∷ []) ≡ 255 ∷ 255
    ∷ 2 ∷ 255 ∷ 1 ∷ 2 ∷ 255 ∷ []
known_operand_counts = refl

-- ---- texts of faults

known_texts : map fault_text (faults.Eptg 0x1D ∷ faults.ExtraArray 8 7 ∷ faults.SerAr 0x05 ∷ faults.NoFormula 65535 255
    ∷ faults.NoTable 0 1 ∷ faults.Tbl 4 3
    ∷ faults.Xls (errors.IfTab 0x817D) ∷ faults.Xls (errors.Len 4 3 parts.NoCch) ∷ faults.Xls (errors.Unrecognized parts.Ptg 0x01) ∷ [])
    ≡ codes "Unrecognized eptg: 0x1D" ∷ codes "Invalid PtgExtraArray length, expected at least 8, found 7"
    ∷ codes "Unrecognized SerAr: 0x5"
    ∷ codes "No formula at (65535, 255)" ∷ codes "No table at (0, 1)" ∷ codes "Invalid PtgTbl length, expected at least 4, found 3"
    ∷ codes "Invalid iftab 817D" ∷ codes "Invalid XLUnicodeStringNoCch length, expected at least 4, found 3"
    ∷ codes "Unrecognized ptg: 0x1" ∷ []
unfolding digits
known_texts = refl
