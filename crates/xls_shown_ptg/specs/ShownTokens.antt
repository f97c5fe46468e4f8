-- Tokens of a formula that is shown as Excel shows it: what each is by its bytes, or its first fault by its bytes and
-- the code tables. A token that means what it means in every reading is read by that table ([MS-XLS] 2.5.198).
use Rattle.std.specs.Prelude.{ℕ, ◌%◌, List, drop, slice_index, nat_lt, ◌==◌, ◌||◌, if◌then◌else◌, Ok, Err}
use Rattle.xls_record.specs.declared.version.Biff.{Biff}
use Rattle.xls_ptg.specs.References3d.{ref3d_size, area3d_size}
use Rattle.xls_shown_ptg.specs.Reading.{Shown, shared, sized, unknown}
use Rattle.xls_shown_ptg.specs.Rows.{elf_at, attr_at, func_var_at, area_at, ref_n_at, area_n_at, name_x_at, ref3d_at, area3d_at, err3d_at}
use Rattle.xls_shown_ptg.specs.declared.tokens.ShownPtg.TheVariants as shown

-- basic tokens, below 20. PtgExp and PtgTbl are a cell's first token, and none at another place
unfoldable pub basic_by : Biff → ℕ → List ℕ → Shown
basic_by biff token rest =
    if (token == 0x01) || (token == 0x02) then Err (unknown token)
    else if token == 0x18 then elf_at rest
    else if token == 0x19 then attr_at biff token rest
    else shared biff token rest

-- tokens that hold the places of others (PtgMemArea, PtgMemErr, PtgMemNoMem, PtgMemFunc and two more), by the low five
-- bits
unfoldable pub mem_by : Biff → ℕ → List ℕ → Shown
mem_by biff token rest =
    if token % 0x20 == 0x06 then sized 6 rest (Ok (shown.MemArea, 6))
    else if (token % 0x20 == 0x07) || (token % 0x20 == 0x08) then sized 6 rest (Ok (shown.Nothing, 6))
    else if (token % 0x20 == 0x09) || (token % 0x20 == 0x0E) || (token % 0x20 == 0x0F)
    then sized 2 rest (Ok (shown.Nothing, 2))
    else shared biff token rest

-- names and cells by reference, by the low five bits
unfoldable pub by_link : Biff → ℕ → List ℕ → Shown
by_link biff token rest =
    if token % 0x20 == 0x19 then name_x_at biff rest
    else if token % 0x20 == 0x1A then ref3d_at biff rest
    else if token % 0x20 == 0x1B then area3d_at biff rest
    else if token % 0x20 == 0x1C then err3d_at biff (ref3d_size biff) rest
    else if token % 0x20 == 0x1D then err3d_at biff (area3d_size biff) rest
    else mem_by biff token rest

-- classed tokens, from 20 to 7F, by their low five bits
unfoldable pub classed_by : Biff → ℕ → List ℕ → Shown
classed_by biff token rest =
    if token % 0x20 == 0x02 then func_var_at rest
    else if token % 0x20 == 0x05 then area_at biff rest
    else if token % 0x20 == 0x0C then ref_n_at biff rest
    else if token % 0x20 == 0x0D then area_n_at biff rest
    else by_link biff token rest

-- a token by its first byte and the bytes after it
abbrev pub shown_by : Biff → ℕ → List ℕ → Shown
shown_by biff token rest =
    if nat_lt token 0x20 then basic_by biff token rest
    else if nat_lt token 0x80 then classed_by biff token rest
    else Err (unknown token)

abbrev pub shown_at : Biff → List ℕ → Shown
shown_at biff bytes = shown_by biff (slice_index bytes 0) (drop 1 bytes)
