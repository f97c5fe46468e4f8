use Rattle.std.proofs.Common.{ap}
use Rattle.xls_output.proofs.EachLemmas.{puts-as}
use Rattle.xls_macros.specs.Lines.{IsPartText, listing_parts}
use Rattle.xls_macros.proofs.lines.put_damage.Goals as goal

pub returns-in-Some : goal.returns-in-Some
returns-in-Some g c =
    puts-as (IsPartText c.args.form c.args.macros.now) _ _ c.put_listing.result (ap listing_parts (rw c.in-Some.is at c.damage.ensures))
    c.put_listing.ensures
