use Rattle.std.proofs.Common.{◌≡◌, ◌<◌, arith, get_or, refl}
use Rattle.std.specs.Prelude.{codes}
use Rattle.xls_readable.specs.Csv.{doubled_byte}
use Rattle.xls_readable.proofs.StretchLemmas.{stretch, after_one}
use Rattle.xls_readable.proofs.delimited.first_stretch.Goals as goal

pub split_at-requires-2 : goal.split_at-requires-2
split_at-requires-2 c =
    let found = rw c.as_bytes.ensures.value at c.in_ok-at.ensures.some in
    let low : get_or c.args.text.now c.in_ok-at.at 0 < 128 = omega (arith, found.1) in
    after_one c.args.text.now _ c.in_ok-at.at c.utf8.text found.0 low c.split_at.ensures.back

pub returns-clause-whole : goal.returns-clause-whole
returns-clause-whole c =
    let found = rw c.as_bytes.ensures.value at c.in_ok-at.ensures.some in
    let plain = rw c.as_bytes.ensures.value at c.in_ok-at.ensures.none in
    let quotes : codes "\"\"" ≡ doubled_byte (get_or c.args.text.now c.in_ok-at.at 0) = rw found.1 refl in
    stretch doubled_byte c.args.text.now _ _ _ _ c.in_ok-at.at found.0 plain quotes
    c.split_at.ensures.front c.split_at.ensures.back c.split_at-2.ensures.back
