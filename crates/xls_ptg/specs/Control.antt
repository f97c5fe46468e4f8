-- The control tokens that have bytes of their own ([MS-XLS] 2.5.198).
use Rattle.std.specs.Prelude.{ℕ, List, Ok}
use Rattle.xls_stream.specs.declared.part.Part.TheVariants as parts
use Rattle.xls_ptg.specs.declared.tokens.Ptg.TheVariants as ptg
use Rattle.xls_ptg.specs.Fields.{sized, sized_as}
use Rattle.xls_ptg.specs.Readings.{Reading}

-- 01 (PtgExp)
abbrev pub exp_at : List ℕ → Reading
exp_at rest = sized_as parts.PtgExp 4 rest (Ok (ptg.Exp, 4))

-- 18 (PtgElfLel to PtgElfRadicalLel, PtgSxName)
abbrev pub elf_at : List ℕ → Reading
elf_at rest = sized 5 rest (Ok (ptg.Elf, 5))
