-- Names ([MS-XLS] 2.5.198). What stands before BIFF8 is this project's rule.
use Rattle.std.specs.Prelude.{ℕ, List, take, if◌then◌else◌, Ok}
use Rattle.xls_bytes.specs.Numbers.{le}
use Rattle.xls_record.specs.Version.{is_biff8}
use Rattle.xls_record.specs.declared.version.Biff.{Biff}
use Rattle.xls_ptg.specs.declared.tokens.Ptg.TheVariants as ptg
use Rattle.xls_ptg.specs.Fields.{word_at, sized}
use Rattle.xls_ptg.specs.Readings.{Reading}

-- 23 (PtgName): an index of 32 bits (nameindex) and nothing else, or before BIFF8 of 16 bits
abbrev pub name_at : Biff → List ℕ → Reading
name_at biff rest =
    if is_biff8 biff then sized 4 rest (Ok (ptg.Name (le (take 4 rest)), 4))
    else sized 14 rest (Ok (ptg.Name (word_at 0 rest), 14))

-- 39 (PtgNameX)
abbrev pub name_x_size : Biff → ℕ
name_x_size biff = if is_biff8 biff then 6 else 24

abbrev pub name_x_at : Biff → List ℕ → Reading
name_x_at biff rest = sized (name_x_size biff) rest (Ok (ptg.NameX, name_x_size biff))
