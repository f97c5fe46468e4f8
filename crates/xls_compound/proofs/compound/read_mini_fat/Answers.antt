use Rattle.std.proofs.Common.{◌≡◌, ℕ, List, Ok}
use Rattle.xls_bytes.specs.Numbers.{u32s_of}
use Rattle.xls_compound.specs.Compound.{MiniFatBytes}
use Rattle.xls_compound.proofs.ReadLemmas.{mini_fat_is, if_ok_more}
use Rattle.xls_compound.proofs.compound.read_mini_fat.Goals as goal

-- the numbers of the mini FAT's chain
pub returns-in-Ok-clause-ok : goal.returns-in-Ok-clause-ok
returns-in-Ok-clause-ok c =
    let bytes = c.as_slice.result.now in
    let chain = mini_fat_is c.args.sectors.now c.header.result _ bytes c.header.ensures c.as_slice.ensures.value c.in-Ok.ensures.exact in
    if_ok_more c.numbers_of.result (λ numbers. numbers.items ≡ u32s_of bytes)
    (λ numbers. (x : List ℕ) × MiniFatBytes c.args.sectors.now (Ok x) × (numbers.items ≡ u32s_of x))
    (λ numbers h. (bytes, chain, h)) c.numbers_of.ensures.ok
