use Rattle.std.proofs.Common.{rules, ◌≡◌, ◌++◌, ◌≤◌, [], sym, arith, get_or, length, take, vec_len}
use Rattle.std.proofs.lemmas.List.{drop_all}
use Rattle.xls_bytes.specs.Numbers.{u32s_of}
use Rattle.xls_sectors.specs.Tables.{bytes_at, fat_numbers, fat_up_to}
use Rattle.xls_sectors.proofs.TableLemmas.{with_numbers, fat_step, fat_stop, fat_done, fat_part_cut, fat_part_whole}
use Rattle.xls_sectors.proofs.sectors.read_fat.Goals as goal

pub returns-then-bytes-size : goal.returns-then-bytes-size
returns-then-bytes-size c =
    let all = c.args.listed.now in
    let i = c.sectors.sector-index in
    let bytes = c.sector_in-bytes.result.now in
    let there : bytes ≡ bytes_at c.args.size c.args.area.now (get_or all i 0) = search rules in
    sym (fat_stop c.args.size c.args.most i c.args.area.now c.sectors.fat.items all _ c.sectors-test.true c.sectors.invariant.1 _
    (fat_part_cut c.args.size c.args.area.now bytes (get_or all i 0) there (omega arith)))

pub sectors-preserved : goal.sectors-preserved
sectors-preserved c =
    let all = c.args.listed.now in
    let i = c.sectors.sector-index in
    let bytes = c.sector_in-bytes.result.now in
    let there : bytes ≡ bytes_at c.args.size c.args.area.now (get_or all i 0) = search rules in
    let within : vec_len c.extend_fat.new.fat ≤ c.args.most = search rules in
    let items : c.extend_fat.new.fat.items ≡ take c.args.most (c.sectors.fat.items ++ u32s_of bytes) = search rules in (
      within,
      rw items (fat_step c.args.size c.args.most i c.args.area.now c.sectors.fat.items all _ c.sectors-test.true c.sectors.invariant.1 (u32s_of bytes)
          (fat_part_whole c.args.size c.args.area.now bytes (get_or all i 0) there (omega arith))),
    )

pub returns : goal.returns
returns c =
    let all = c.args.listed.now in
    let few : length c.sectors.fat.items ≤ c.args.most = omega (arith, c.sectors.fat.ok.0, c.sectors.invariant.0) in
    let done : with_numbers c.args.most c.sectors.fat.items (fat_numbers c.args.size c.args.area.now []) ≡ fat_up_to c.args.most c.args.size c.args.area.now all =
    rw (drop_all c.sectors.sector-index all c.sectors-test.false) at c.sectors.invariant.1 in
    sym (fat_done c.args.size c.args.most c.args.area.now c.sectors.fat.items _ few done)
