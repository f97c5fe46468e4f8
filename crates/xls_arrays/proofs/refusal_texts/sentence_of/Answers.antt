use Rattle.std.proofs.Common.{rules, sym}
use Rattle.xls_arrays.proofs.RefusalLemmas.{sentence-none, sentence-some}
use Rattle.xls_arrays.proofs.refusal_texts.sentence_of.Goals as goal

pub returns-in-Some : goal.returns-in-Some
returns-in-Some c =
    rw (sentence-some c.args.fault.now c.in-Some.refusal c.if-fault-eq0.false (sym c.in-Some.ensures)) c.reported.ensures

pub returns-in-None : goal.returns-in-None
returns-in-None c =
    rw (sentence-none c.args.fault.now c.if-fault-eq0.false (sym c.in-None.ensures)) (search (rules, c.from_str-in-None.ensures.ok))
