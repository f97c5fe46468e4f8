-- Cells on the formula's own sheet ([MS-XLS] 2.5.198). What stands before BIFF8 is this project's rule.
use Rattle.std.specs.Prelude.{ℕ, List, slice_index, if◌then◌else◌, Ok}
use Rattle.xls_record.specs.Version.{is_biff8}
use Rattle.xls_record.specs.declared.version.Biff.{Biff}
use Rattle.xls_ptg.specs.declared.tokens.Ptg.TheVariants as ptg
use Rattle.xls_ptg.specs.Corners.{corner_of, early_corner_of, pinned}
use Rattle.xls_ptg.specs.Fields.{word_at, sized}
use Rattle.xls_ptg.specs.Readings.{Reading}

-- 24 (PtgRef): a row and a column word, or before BIFF8 a row word and a column
abbrev pub ref_size : Biff → ℕ
ref_size biff = if is_biff8 biff then 4 else 3

abbrev pub ref_token_at : Biff → List ℕ → Reading
ref_token_at biff rest =
    if is_biff8 biff
    then sized 4 rest (Ok (ptg.Ref (corner_of (word_at 0 rest) (word_at 2 rest)), 4))
    else sized 3 rest (Ok (ptg.Ref (early_corner_of (word_at 0 rest) (slice_index rest 2)), 3))

-- 25 (PtgArea): two rows, two columns; before BIFF8 printed with `$`
abbrev pub area_size : Biff → ℕ
area_size biff = if is_biff8 biff then 8 else 6

abbrev pub early_area_at : List ℕ → Reading
early_area_at rest =
    sized 6 rest (Ok (
      ptg.Area (pinned (early_corner_of (word_at 0 rest) (slice_index rest 4)))
          (pinned (early_corner_of (word_at 2 rest) (slice_index rest 5))),
      6,
    ))

abbrev pub area_at : Biff → List ℕ → Reading
area_at biff rest =
    if is_biff8 biff
    then sized 8 rest (Ok (
      ptg.Area (corner_of (word_at 0 rest) (word_at 4 rest))
          (corner_of (word_at 2 rest) (word_at 6 rest)),
      8,
    ))
    else early_area_at rest

-- 2A (PtgRefErr), as long as a PtgRef
abbrev pub ref_err_at : Biff → List ℕ → Reading
ref_err_at biff rest = sized (ref_size biff) rest (Ok (ptg.RefErr, ref_size biff))

-- 2B (PtgAreaErr), as long as a PtgArea
abbrev pub area_err_at : Biff → List ℕ → Reading
area_err_at biff rest = sized (area_size biff) rest (Ok (ptg.AreaErr, area_size biff))
