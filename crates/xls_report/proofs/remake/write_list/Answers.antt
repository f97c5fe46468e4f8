use Rattle.std.proofs.Common.{◌≡◌, ◌≤◌, ◌<◌, ◌^◌, ℕ, List, length, inl, inr, refl, ap, arith}
use Rattle.xls_stream.specs.Listing.{ListEntry}
use Rattle.xls_lay.specs.Writing.{canonical_bytes, canonical_size}
use Rattle.xls_lay.specs.declared.error.LayError.TheVariants.{TooLong}
use Rattle.xls_report.specs.Remaking.{IsUnwrittenOf, IsWrittenOf}
use Rattle.xls_report.specs.Faults.{unwritten_line}
use Rattle.xls_report.proofs.EndingLemmas.{either-stopped}
use Rattle.xls_report.proofs.remake.write_list.Goals as goal

-- the length is told where offsets don't reach it
too_long : (list : List ListEntry) (found : ℕ) → found ≡ canonical_size list → 2 ^ 32 ≤ found → IsUnwrittenOf list (unwritten_line (TooLong found))
too_long list found e h = (omega (arith, e, h), ap (λ (n : ℕ). unwritten_line (TooLong n)) e)

not_long : (list : List ListEntry) (found : ℕ) → found ≡ canonical_size list → found < 2 ^ 32 → length (canonical_bytes list) < 2 ^ 32
not_long list found e h = omega (arith, e, h)

pub write_stream-requires : goal.write_stream-requires
write_stream-requires g c = record {
  short = not_long c.args.list.now c.canonical_length-found.result c.canonical_length-found.ensures c.if-found-ge-TOO_LONG.false;
}

pub returns-in_err-write_unwritten : goal.returns-in_err-write_unwritten
returns-in_err-write_unwritten g c =
    let list = c.args.list.now in
    either-stopped (IsWrittenOf list) (IsUnwrittenOf list) c.from_residual.result c.from_residual.ensures.1
    (inr (too_long list c.canonical_length-found.result c.canonical_length-found.ensures c.if-found-ge-TOO_LONG.true))
    c.in_err-write_unwritten.ensures

pub returns-then-found-ge-TOO_LONG : goal.returns-then-found-ge-TOO_LONG
returns-then-found-ge-TOO_LONG g c = (
  _,
  too_long c.args.list.now c.canonical_length-found.result c.canonical_length-found.ensures c.if-found-ge-TOO_LONG.true,
  c.in_ok-write_unwritten.ensures,
)

pub returns-in_err-write_stream : goal.returns-in_err-write_stream
returns-in_err-write_stream g c =
    let list = c.args.list.now in
    let a = c.from_residual-in_err-write_stream in
    either-stopped (IsWrittenOf list) (IsUnwrittenOf list) a.result a.ensures.1
    (inl (not_long list c.canonical_length-found.result c.canonical_length-found.ensures c.if-found-ge-TOO_LONG.false, refl))
    c.in_err-write_stream.ensures

pub returns : goal.returns
returns g c =
    (_, (not_long c.args.list.now c.canonical_length-found.result c.canonical_length-found.ensures c.if-found-ge-TOO_LONG.false, refl), c.in_ok-write_stream.ensures)
