use Rattle.std.proofs.Common.{take, arith, ap, subst}
use Rattle.std.specs.Io.KnownBytes.{Consumes}
use Rattle.xls_record.proofs.source.StdSourceSource.read.Goals as goal

pub returns-in-Ok-clause-bytes : goal.returns-in-Ok-clause-bytes
returns-in-Ok-clause-bytes g c =
    let input = take c.in-Ok.count c.read_on.new.into in (
      subst
          (λ s. Consumes (g.R.Read.remaining s.0) (g.R.Read.remaining c.read_on.new.inner) input)
          c.self.view_is
          c.in-Ok.ensures.bytes.0,
      c.in-Ok.ensures.bytes.1,
    )

pub returns-in-Ok-clause-cause : goal.returns-in-Ok-clause-cause
returns-in-Ok-clause-cause g c =
    let was = ap (λ s. s.1) c.self.view_is in
    record { later = omega (arith, was); failed = tt; kept = was }

pub returns-in-Err-clause-cause : goal.returns-in-Err-clause-cause
returns-in-Err-clause-cause g c =
    let was = ap (λ s. s.1) c.self.view_is in
    record {
      later = omega (arith, was, c.saturating_add-self-inside.ensures);
      failed = omega (arith, was, c.saturating_add-self-inside.ensures);
      kept = tt;
    }

pub returns-in-Err-clause-rises : goal.returns-in-Err-clause-rises
returns-in-Err-clause-rises g c =
    let was = ap (λ s. s.1) c.self.view_is in
    omega (arith, was, c.saturating_add-self-inside.ensures)
