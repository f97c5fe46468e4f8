use Rattle.std.proofs.Common.{◌≡◌, ◌^◌, ◌<◌, ◌≤◌, ◌∙◌, List, length, subst}
use Rattle.std.proofs.lemmas.Result.{err_from_is_err_and}
use Rattle.xls_stream.specs.Listing as listing
use Rattle.xls_lay.specs.Writing.{canonical_bytes, canonical_size}
use Rattle.xls_layouts.specs.Canonical.{Fits}
use Rattle.xls_lay.proofs.CountedLemmas.{counted_fits}
use Rattle.xls_lay.specs.Entries.{entries_in}
use Rattle.xls_lay.proofs.WriteLemmas.{too_long, not_long, all_put}
use Rattle.xls_lay.proofs.write.write_workbook.Goals as goal

pub returns-then-found-ge-TOO_LONG-clause-writes : goal.returns-then-found-ge-TOO_LONG-clause-writes
returns-then-found-ge-TOO_LONG-clause-writes c =
    let list = entries_in c.entries-entries.result.now in
    let same = c.entries-entries.ensures.same in
    subst (λ (x : List listing.ListEntry). (2 ^ 32 ≤ length (canonical_bytes x)) × (c.saturating_add-found.result ≡ canonical_size x)) same
    (too_long list c.globals_length-globals.result c.parts_length.result c.saturating_add-found.result c.globals_length-globals.ensures c.parts_length.ensures c.saturating_add-found.ensures c.if-found-ge-TOO_LONG.true)

pub returns-in_err-bytes-clause-writes : goal.returns-in_err-bytes-clause-writes
returns-in_err-bytes-clause-writes c =
    let list = entries_in c.entries-entries.result.now in
    let same = c.entries-entries.ensures.same in
    let p = err_from_is_err_and c.from_residual.result c.from_residual.ensures.1 in
    rw (p.1, p.2)
    (subst (λ (x : List listing.ListEntry). length (canonical_bytes x) < 2 ^ 32) same
    (not_long list c.globals_length-globals.result c.parts_length.result c.saturating_add-found.result c.globals_length-globals.ensures c.parts_length.ensures c.saturating_add-found.ensures c.if-found-ge-TOO_LONG.false))

pub returns-clause-writes : goal.returns-clause-writes
returns-clause-writes c =
    let list = entries_in c.entries-entries.result.now in
    let same = c.entries-entries.ensures.same in
    subst (λ (x : List listing.ListEntry). (c.from_vec.result ≡ canonical_bytes x) × (length c.from_vec.result < 2 ^ 32)) same
    (all_put list c.globals_length-globals.result c.parts_length.result c.saturating_add-found.result c.globals_length-globals.ensures c.parts_length.ensures c.saturating_add-found.ensures c.if-found-ge-TOO_LONG.false
    c.from_vec.result (c.from_vec.ensures ∙ c.in_ok-bytes.ensures))

pub returns-then-found-ge-TOO_LONG-clause-fits : goal.returns-then-found-ge-TOO_LONG-clause-fits
returns-then-found-ge-TOO_LONG-clause-fits c =
    subst (λ (x : List listing.ListEntry). Fits x) c.entries-entries.ensures.same (counted_fits _ c.entries-entries.ensures.fits)

pub returns-in_err-bytes-clause-fits : goal.returns-in_err-bytes-clause-fits
returns-in_err-bytes-clause-fits c =
    subst (λ (x : List listing.ListEntry). Fits x) c.entries-entries.ensures.same (counted_fits _ c.entries-entries.ensures.fits)

pub returns-clause-fits : goal.returns-clause-fits
returns-clause-fits c =
    subst (λ (x : List listing.ListEntry). Fits x) c.entries-entries.ensures.same (counted_fits _ c.entries-entries.ensures.fits)
