-- The rows of tokens that a shown formula reads in its own way ([MS-XLS] 2.5.198), each by the bytes after the token's
-- first. What stands before BIFF8 is this project's rule.
use Rattle.std.specs.Prelude.{ℕ, ◌%◌, List, take, drop, slice_index, nat_lt, nat_le, ◌==◌, ◌||◌, if◌then◌else◌, Ok, Err}
use Rattle.xls_bytes.specs.Numbers.{le, twos_complement}
use Rattle.xls_record.specs.Version.{is_biff8}
use Rattle.xls_record.specs.declared.version.Biff.{Biff}
use Rattle.xls_ptg.specs.declared.corner.Corner.{Corner}
use Rattle.xls_ptg.specs.declared.tokens.Ptg.TheVariants as ptg
use Rattle.xls_ptg.specs.Attributes.{space_at}
use Rattle.xls_ptg.specs.Corners.{corner_of, early_corner_of}
use Rattle.xls_ptg.specs.Fields.{word_at}
use Rattle.xls_ptg.specs.NameTokens.{name_x_size}
use Rattle.xls_ptg.specs.References.{ref_size, area_size}
use Rattle.xls_ptg.specs.References3d.{ref3d_size, area3d_size}
use Rattle.xls_shown_ptg.specs.Reading.{Shown, lifted, shared, sized}
use Rattle.xls_shown_ptg.specs.declared.fault.Fault.TheVariants as faults
use Rattle.xls_shown_ptg.specs.declared.tokens.NameLink.{NameLink}
use Rattle.xls_shown_ptg.specs.declared.tokens.NameLink.TheVariants as names
use Rattle.xls_shown_ptg.specs.declared.tokens.SheetLink.{SheetLink}
use Rattle.xls_shown_ptg.specs.declared.tokens.SheetLink.TheVariants as sheets
use Rattle.xls_shown_ptg.specs.declared.tokens.ShownPtg.{ShownPtg}
use Rattle.xls_shown_ptg.specs.declared.tokens.ShownPtg.TheVariants as shown
use Rattle.xls_shown_ptg.specs.declared.tokens.SpacePlace.{SpacePlace}
use Rattle.xls_shown_ptg.specs.declared.tokens.SpacePlace.TheVariants as places

-- ---- 18: a label

-- those with an area of their own (eptg)
abbrev pub elf_by : ℕ → Shown
elf_by kind =
    if kind == 0x0A then Ok (shown.Nothing, 5)
    else if kind == 0x0B then Ok (shown.ElfRadicalS, 5)
    else Err (faults.Eptg kind)

abbrev pub elf_at : List ℕ → Shown
elf_at rest = sized 5 rest (elf_by (slice_index rest 0))

-- ---- 19: an attribute

abbrev pub place_of : ℕ → SpacePlace
place_of kind = if nat_lt kind 4 then places.Before else if nat_lt kind 6 then places.Closing else places.Front

-- 40 and 41 (PtgAttrSpaceType), whose kind says a place too
abbrev pub attr_space_at : List ℕ → Shown
attr_space_at body =
    lifted
    (λ space. (shown.AttrSpace (record { place = place_of (slice_index body 0); is_newline = space.0; count = space.1 }), 3))
    (space_at body)

-- 00, which writes nothing
abbrev pub attr_nothing_at : List ℕ → Shown
attr_nothing_at body = sized 2 body (Ok (shown.Nothing, 3))

abbrev pub attr_by : Biff → ℕ → ℕ → List ℕ → Shown
attr_by biff token attribute rest =
    if attribute == 0x00 then attr_nothing_at (drop 1 rest)
    else if (attribute == 0x40) || (attribute == 0x41) then attr_space_at (drop 1 rest)
    else shared biff token rest

abbrev pub attr_at : Biff → ℕ → List ℕ → Shown
attr_at biff token rest = sized 1 rest (attr_by biff token (slice_index rest 0) rest)

-- ---- 22 (PtgFuncVar): a count of operands in 7 bits, and an index whose top bit (fCeFunc) says that it is a command's

abbrev pub func_var_by : ℕ → ℕ → ShownPtg (List ℕ)
func_var_by count index =
    if nat_le 0x8000 index then shown.Command count (index % 0x8000)
    else if index == 0xFF then shown.UserFunc count
    else shown.Known (ptg.FuncVar count index)

abbrev pub func_var_at : List ℕ → Shown
func_var_at rest = sized 3 rest (Ok (func_var_by (slice_index rest 0 % 0x80) (word_at 1 rest), 3))

-- ---- cells and areas

abbrev pub cell_at : Biff → List ℕ → Corner
cell_at biff rest =
    if is_biff8 biff then corner_of (word_at 0 rest) (word_at 2 rest)
    else early_corner_of (word_at 0 rest) (slice_index rest 2)

-- two rows, two columns
abbrev pub first_at : Biff → List ℕ → Corner
first_at biff rest =
    if is_biff8 biff then corner_of (word_at 0 rest) (word_at 4 rest)
    else early_corner_of (word_at 0 rest) (slice_index rest 4)

abbrev pub last_at : Biff → List ℕ → Corner
last_at biff rest =
    if is_biff8 biff then corner_of (word_at 2 rest) (word_at 6 rest)
    else early_corner_of (word_at 2 rest) (slice_index rest 5)

-- 25 (PtgArea, 2.5.198.25)
abbrev pub area_at : Biff → List ℕ → Shown
area_at biff rest =
    sized (area_size biff) rest (Ok (shown.Known (ptg.Area (first_at biff rest) (last_at biff rest)), area_size biff))

-- 2C (PtgRefN)
abbrev pub ref_n_at : Biff → List ℕ → Shown
ref_n_at biff rest = sized (ref_size biff) rest (Ok (shown.RefN (cell_at biff rest), ref_size biff))

-- 2D (PtgAreaN)
abbrev pub area_n_at : Biff → List ℕ → Shown
area_n_at biff rest =
    sized (area_size biff) rest (Ok (shown.AreaN (first_at biff rest) (last_at biff rest), area_size biff))

-- ---- names and sheets by reference

-- 39 (PtgNameX)
abbrev pub name_link_at : Biff → List ℕ → NameLink
name_link_at biff rest =
    if is_biff8 biff then names.Xti (word_at 0 rest) (le (take 4 (drop 2 rest)))
    else names.Early (twos_complement 16 (word_at 0 rest)) (word_at 10 rest)

abbrev pub name_x_at : Biff → List ℕ → Shown
name_x_at biff rest = sized (name_x_size biff) rest (Ok (shown.NameX (name_link_at biff rest), name_x_size biff))

-- before the cells of 3A to 3D
abbrev pub link_size : Biff → ℕ
link_size biff = if is_biff8 biff then 2 else 14

abbrev pub sheets_at : Biff → List ℕ → SheetLink
sheets_at biff rest =
    if is_biff8 biff then sheets.Xti (word_at 0 rest)
    else sheets.Early (twos_complement 16 (word_at 0 rest)) (word_at 10 rest) (word_at 12 rest)

-- 3A (PtgRef3d)
abbrev pub ref3d_at : Biff → List ℕ → Shown
ref3d_at biff rest =
    sized (ref3d_size biff) rest
    (Ok (shown.Ref3d (sheets_at biff rest) (cell_at biff (drop (link_size biff) rest)), ref3d_size biff))

-- 3B (PtgArea3d)
abbrev pub area3d_at : Biff → List ℕ → Shown
area3d_at biff rest =
    let area = drop (link_size biff) rest in
    sized (area3d_size biff) rest
    (Ok (shown.Area3d (sheets_at biff rest) (first_at biff area) (last_at biff area), area3d_size biff))

-- 3C (PtgRefErr3d) and 3D (PtgAreaErr3d), as long as those
abbrev pub err3d_at : Biff → ℕ → List ℕ → Shown
err3d_at biff size rest = sized size rest (Ok (shown.Err3d (sheets_at biff rest), size))
