use Rattle.std.proofs.Common.{◌∷◌, []}
use Rattle.xls_documents.specs.Streams.{IsEntryText}
use Rattle.xls_documents.proofs.StreamLemmas.{each_itself}
use Rattle.xls_output.proofs.EachLemmas.{each-as, each-some-all, each-some-first, each-some-next, each-some-stopped, each-stops-as, puts-each-stop}
use Rattle.xls_documents.proofs.streams.put_entries.Goals as goal

pub loop-entry-init : goal.loop-entry-init
loop-entry-init g c =
    (tt, tt, each-some-first (IsEntryText c.args.form) (λ entry. entry ∷ []) _ _ _ c.into_iter-entry-iterator.ensures.into_iter_gives)

pub loop-entry-preserved : goal.loop-entry-preserved
loop-entry-preserved g c =
    (tt, tt, each-some-next (λ entry. entry ∷ []) c.loop-entry.invariant.2 c.in-Some.ensures.steps c.in_ok-put_entry.ensures)

pub returns-in_err-put_entry : goal.returns-in_err-put_entry
returns-in_err-put_entry g c =
    puts-each-stop c.from_residual.result c.from_residual.ensures.1
    (each-stops-as (each-some-stopped (λ entry. entry ∷ []) c.loop-entry.invariant.2 c.in-Some.ensures.steps c.in_err-put_entry.ensures)
    (each_itself c.args.entries))

pub returns : goal.returns
returns g c =
    each-as (each-some-all (λ entry. entry ∷ []) c.loop-entry.invariant.2 c.in-None.ensures.steps.0) (each_itself c.args.entries)
