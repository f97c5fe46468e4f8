use Rattle.xls_bytes.proofs.EscapeLemmas.{stretch, after_one}
use Rattle.xls_bytes.proofs.escapes.first_stretch.Goals as goal

pub split_at-requires-2 : goal.split_at-requires-2
split_at-requires-2 c =
    let found = c.in_ok-at.ensures.some in
    let low = rw c.as_bytes.ensures.value at found.1 in
    let within = rw c.as_bytes.ensures.value at found.0 in
    after_one c.args.text.now _ c.in_ok-at.at c.utf8.text within low c.split_at.ensures.back

pub returns-clause-whole : goal.returns-clause-whole
returns-clause-whole c =
    let found = rw c.as_bytes.ensures.value at c.in_ok-at.ensures.some in
    let plain = rw c.as_bytes.ensures.value at c.in_ok-at.ensures.none in
    stretch c.args.text.now _ _ _ _ c.in_ok-at.at found.0 plain found.2
    c.split_at.ensures.front c.split_at.ensures.back c.split_at-2.ensures.back
