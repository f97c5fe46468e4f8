use Rattle.std.proofs.Common.{rules}
use Rattle.std.specs.Prelude.{Result, Err, IsErrOf}
use Rattle.xls_range.specs.declared.error.RangeError.{RangeError}
use Rattle.xls_range.specs.declared.error.RangeError.TheVariants as errors
use Rattle.xls_range.specs.Sparse.{AreCorners}
use Rattle.xls_range.proofs.SparseLemmas.{AreCorners-ordered, IsTooLarge-corners}
use Rattle.xls_range.proofs.range.Range.box_of.Goals as goal

-- the same error of another result
handed_on : {S T : Type 0} (e : RangeError) → IsErrOf {T = S} (Err e) errors.TooLarge → IsErrOf {T = T} (Err e) errors.TooLarge
handed_on e is = cc

pub returns-in-Ok-clause-too_large : goal.returns-in-Ok-clause-too_large
returns-in-Ok-clause-too_large g c =
    let corners : AreCorners c.args.cells.now c.in-Some.start c.in-Some.end = search rules in (
      λ e. absurd cc,
      λ large. absurd (let e = c.in-Ok.ensures.too_large.1 (AreCorners-ordered c.args.cells.now c.in-Some.start c.in-Some.end corners, IsTooLarge-corners c.args.cells.now c.in-Some.start c.in-Some.end corners large) in cc),
    )

pub returns-in-Ok-clause-blank : goal.returns-in-Ok-clause-blank
returns-in-Ok-clause-blank g c = record {
  start = c.in-Some.start;
  end = c.in-Some.end;
  are = search rules;
  corners = c.in-Ok.ensures.corners;
  blanks = c.in-Ok.ensures.blank;
}

pub returns-in-Err-clause-too_large : goal.returns-in-Err-clause-too_large
returns-in-Err-clause-too_large g c =
    let corners : AreCorners c.args.cells.now c.in-Some.start c.in-Some.end = search rules in (
      λ e. (c.in-Some.start, c.in-Some.end, corners, (c.in-Err.ensures.too_large.0 (handed_on c.in-Err.error e)).1),
      λ large. handed_on c.in-Err.error (c.in-Err.ensures.too_large.1 (AreCorners-ordered c.args.cells.now c.in-Some.start c.in-Some.end corners, IsTooLarge-corners c.args.cells.now c.in-Some.start c.in-Some.end corners large)),
    )
