use Rattle.std.proofs.Common.{refl}
use Rattle.json.specs.Print.{escape_byte}
use Rattle.xls_readable.proofs.StretchLemmas.{stretch, after_one}
use Rattle.xls_readable.proofs.JsonLemmas.{escape-low}
use Rattle.xls_readable.proofs.json_lines.first_stretch.Goals as goal

pub split_at-requires-2 : goal.split_at-requires-2
split_at-requires-2 c =
    let found = rw c.as_bytes-bytes.ensures.value at c.in_ok-at.ensures.some in
    after_one c.args.text.now _ c.in_ok-at.at c.utf8.text found.0 (escape-low _ found.1) c.split_at.ensures.back

pub returns-clause-whole : goal.returns-clause-whole
returns-clause-whole c =
    let found = rw c.as_bytes-bytes.ensures.value at c.in_ok-at.ensures.some in
    let plain = rw c.as_bytes-bytes.ensures.value at c.in_ok-at.ensures.none in
    rw c.as_bytes-bytes.ensures.value
    (stretch escape_byte c.args.text.now _ _ _ _ c.in_ok-at.at found.0 plain refl
    c.split_at.ensures.front c.split_at.ensures.back c.split_at-2.ensures.back)
