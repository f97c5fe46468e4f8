-- The extra bytes of a formula ([MS-XLS] RgbExtra), which stand after its tokens and belong to them in their order. Of
-- those that are cut, as many are passed as are there.
use Rattle.std.specs.Prelude.{ℕ, ◌+◌, ◌*◌, ◌%◌, ◌^◌, List, take, drop}
use Rattle.xls_bytes.specs.Numbers.{le}
use Rattle.xls_record.specs.declared.version.Biff.{Biff}
use Rattle.xls_ptg.specs.Fields.{word_at}
use Rattle.xls_ptg.specs.References.{area_size}

-- PtgExtraElf: a count in the low 30 bits of four bytes, and so many times four bytes
abbrev pub after_elf : List ℕ → List ℕ
after_elf extra = drop (4 + 4 * (le (take 4 extra) % 2 ^ 30)) extra

-- PtgExtraMem: a count and so many areas
abbrev pub after_mem_area : Biff → List ℕ → List ℕ
after_mem_area biff extra = drop (2 + word_at 0 extra * area_size biff) extra
