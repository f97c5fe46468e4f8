use Rattle.std.proofs.Common.{arith}
use Rattle.xls_command.proofs.runs.run.Goals as goal

-- the status 0 is no other
pub returns-in-Ok-Done-clause-refused : goal.returns-in-Ok-Done-clause-refused
returns-in-Ok-Done-clause-refused g c = λ e. absurd (omega (arith, e))

pub returns-in-Ok-Done-clause-untouched : goal.returns-in-Ok-Done-clause-untouched
returns-in-Ok-Done-clause-untouched g c = λ e. absurd (omega (arith, e))

pub returns-in-Ok-Done-clause-reads : goal.returns-in-Ok-Done-clause-reads
returns-in-Ok-Done-clause-reads g c = λ e. absurd (omega (arith, e))

pub returns-in-Ok-Done-clause-read_fault : goal.returns-in-Ok-Done-clause-read_fault
returns-in-Ok-Done-clause-read_fault g c = λ e. absurd (omega (arith, e))

pub returns-in-Ok-Done-clause-unwritten : goal.returns-in-Ok-Done-clause-unwritten
returns-in-Ok-Done-clause-unwritten g c = λ e. absurd (omega (arith, e))

pub returns-in-Ok-Done-clause-write_fault : goal.returns-in-Ok-Done-clause-write_fault
returns-in-Ok-Done-clause-write_fault g c = λ e. absurd (omega (arith, e))

pub returns-in-Ok-Done-clause-part : goal.returns-in-Ok-Done-clause-part
returns-in-Ok-Done-clause-part g c = λ e. absurd (omega (arith, e))

pub returns-in-Ok-Done-clause-words : goal.returns-in-Ok-Done-clause-words
returns-in-Ok-Done-clause-words g c =
    (λ e. absurd (omega (arith, e)), λ none. absurd (none c.in-Some.command c.in-Some.ensures.0))

pub returns-in-Ok-Done-clause-complete : goal.returns-in-Ok-Done-clause-complete
returns-in-Ok-Done-clause-complete g c = λ other source sink.
    let ends = rw c.in-Ok-Done.field-0-is at c.in-Ok-Done.ensures.ends in (
      c.in-Some.command,
      c.in-Some.ensures.0,
      ends.0,
    )
