use Rattle.std.proofs.Common.{rules, ◌≡◌, ◌++◌, ◌∷◌, ◌-◌, ◌+◌, [], Some, List, ℕ, refl, sym, ap, ◌∙◌, inr, arith, length, length-append, take}
use Rattle.xls_bytes.specs.Numbers.{u32s_of}
use Rattle.xls_sectors.specs.Tables.{next_difat, in_use, bytes_at, listed_in}
use Rattle.xls_sectors.proofs.ChainLemmas.{Path-push}
use Rattle.xls_sectors.proofs.TableLemmas.{full_difat, listed_more, last_more}
use Rattle.xls_sectors.proofs.sectors.list_fat.Goals as goal

pub returns-then-read-whole : goal.returns-then-read-whole
returns-then-read-whole c =
    let inv = c.sectors.invariant in
    let more : next_difat c.args.size c.args.area.now c.sectors.number ≡ Some c.in-Some.after = search rules in
    inr (full_difat c.args.size c.args.area.now c.args.first c.sectors.number c.in-Some.after inv.0 (omega arith) inv.1 more (inv.2 ∙ c.if-read-whole.true), refl)

pub sectors-preserved : goal.sectors-preserved
sectors-preserved c =
    let inv = c.sectors.invariant in
    let size = c.args.size in
    let area = c.args.area.now in
    let number = c.sectors.number in
    let entries = u32s_of c.args.block.now in
    let more : next_difat size area number ≡ Some c.in-Some.after = search rules in
    let block : c.in-Some.entries.now ≡ take (size - 4) (bytes_at size area number) = search rules in
    let pushed : c.list_entries-in-Some.new.listed.items ≡ c.sectors.listed.items ++ in_use (u32s_of c.in-Some.entries.now) = search rules in
    let longer : length (inv.0 ++ number ∷ []) ≡ c.sectors.read + 1 = simp length-append (omega (arith, inv.2)) in (
      inv.0 ++ number ∷ [],
      Path-push (next_difat size area) c.args.first inv.0 number c.in-Some.after inv.1 more,
      longer,
      omega (arith, inv.3, c.if-read-whole.false),
      last_more inv.0 number,
      pushed ∙ ap (λ (xs : List ℕ). xs ++ in_use (u32s_of c.in-Some.entries.now)) inv.5
          ∙ ap (λ (xs : List ℕ). listed_in size area entries inv.0 ++ in_use (u32s_of xs)) block
          ∙ sym (listed_more size area entries inv.0 number),
    )
