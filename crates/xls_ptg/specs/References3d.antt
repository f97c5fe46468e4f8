-- Cells on the sheet of a reference ([MS-XLS] 2.5.198). What stands before BIFF8 is this project's rule.
use Rattle.std.specs.Prelude.{ℕ, List, slice_index, if◌then◌else◌, Ok}
use Rattle.xls_record.specs.Version.{is_biff8}
use Rattle.xls_record.specs.declared.version.Biff.{Biff}
use Rattle.xls_ptg.specs.declared.corner.Corner.{Corner}
use Rattle.xls_ptg.specs.declared.tokens.Ptg.TheVariants as ptg
use Rattle.xls_ptg.specs.Corners.{corner_of, early_corner_of, pinned}
use Rattle.xls_ptg.specs.Fields.{word_at, sized}
use Rattle.xls_ptg.specs.Readings.{Reading}

-- the index of the reference (ixti), and how many bytes it needs
abbrev pub ixti_size : Biff → ℕ
ixti_size biff = if is_biff8 biff then 2 else 12

abbrev pub ixti_at : Biff → List ℕ → ℕ
ixti_at biff rest = if is_biff8 biff then word_at 0 rest else word_at 10 rest

-- ---- 3A (PtgRef3d)

abbrev pub ref3d_size : Biff → ℕ
ref3d_size biff = if is_biff8 biff then 6 else 17

abbrev pub ref3d_corner : Biff → List ℕ → Corner
ref3d_corner biff rest =
    if is_biff8 biff then corner_of (word_at 2 rest) (word_at 4 rest)
    else early_corner_of (word_at 14 rest) (slice_index rest 16)

abbrev pub ref3d_at : Biff → List ℕ → Reading
ref3d_at biff rest =
    sized (ref3d_size biff) rest
    (Ok (ptg.Ref3d (ixti_at biff rest) (ref3d_corner biff rest), ref3d_size biff))

-- ---- 3B (PtgArea3d): two rows, two columns, printed with `$`

abbrev pub area3d_size : Biff → ℕ
area3d_size biff = if is_biff8 biff then 10 else 20

abbrev pub area3d_first : Biff → List ℕ → Corner
area3d_first biff rest =
    if is_biff8 biff then pinned (corner_of (word_at 2 rest) (word_at 6 rest))
    else pinned (early_corner_of (word_at 14 rest) (slice_index rest 18))

abbrev pub area3d_last : Biff → List ℕ → Corner
area3d_last biff rest =
    if is_biff8 biff then pinned (corner_of (word_at 4 rest) (word_at 8 rest))
    else pinned (early_corner_of (word_at 16 rest) (slice_index rest 19))

abbrev pub area3d_at : Biff → List ℕ → Reading
area3d_at biff rest =
    sized (area3d_size biff) rest (Ok (
      ptg.Area3d (ixti_at biff rest) (area3d_first biff rest) (area3d_last biff rest),
      area3d_size biff,
    ))

-- ---- 3C (PtgRefErr3d), as long as a PtgRef3d, and 3D (PtgAreaErr3d), as long as a PtgArea3d

abbrev pub ref_err3d_at : Biff → List ℕ → Reading
ref_err3d_at biff rest = sized (ref3d_size biff) rest (Ok (ptg.RefErr3d (ixti_at biff rest), ref3d_size biff))

abbrev pub area_err3d_at : Biff → List ℕ → Reading
area_err3d_at biff rest =
    sized (area3d_size biff) rest (Ok (ptg.AreaErr3d (ixti_at biff rest), area3d_size biff))
