use Rattle.std.proofs.Common.{[], Some, inl, inr, refl, subst, ℕ, List}
use Rattle.xls_stream.specs.Listing.{IsPart}
use Rattle.xls_stream.specs.declared.part.Part.TheVariants.{SheetOffset}
use Rattle.xls_open.proofs.check.sheets.check_sheet.Goals as goal

-- the offset passes the end
pub returns-then-stream-offset : goal.returns-then-stream-offset
returns-then-stream-offset c = λ s e. ([], Some SheetOffset, inr (c.if-stream-offset.true, refl, refl), refl)

pub returns : goal.returns
returns c = λ s e.
    let p = c.check_part.ensures s e in
    (p.0, p.1, inl (c.if-stream-offset.false, subst (λ (x : List ℕ). IsPart x p.0 p.1) c.split_at.ensures.back p.2), p.3)
