use Rattle.std.proofs.Common.{◌≡◌, ◌∙◌, refl, sym, ap, subst, List, ℕ}
use Rattle.std.specs.Prelude.{IsTrue}
use Rattle.std.proofs.lemmas.Bool.{false≢true}
use Rattle.xls_stream.specs.Stream.{Begins, bodies_of, StartsContinue}
use Rattle.xls_stream.specs.declared.part.Part.TheVariants.{ContinueLength}
use Rattle.xls_stream.proofs.Records.{gathers_more, gathered, begins, bodies-continues}
use Rattle.xls_stream.proofs.Pieces.{cuts}
use Rattle.xls_biff.proofs.walk.split_group.Goals as goal

pub returns-in-Err-split_record : goal.returns-in-Err-split_record
returns-in-Err-split_record c =
    (ContinueLength, refl, cuts c.args.bytes.now c.in-Ok.parts.0 c.in-Ok.parts.1.now c.in-Ok.parts.2.now c.loop-after.after.now c.in-Err-split_record.field-0 c.loop-after.invariant c.in-Ok.ensures (c.starts_continue.ensures.0 c.loop-after-test.true) c.in-Err-split_record.ensures.0 c.in-Err-split_record.ensures.1)

pub loop-after-preserved : goal.loop-after-preserved
loop-after-preserved c =
    gathers_more c.in-Ok.parts.2.now c.loop-after.after.now c.in-Ok-split_record.field-0-0 c.in-Ok-split_record.field-0-1.now c.in-Ok-split_record.rest.now c.loop-after.invariant (c.starts_continue.ensures.0 c.loop-after-test.true) c.in-Ok-split_record.ensures

pub returns : goal.returns
returns c =
    let start = c.in-Ok.parts.2.now in
    let after = c.loop-after.after.now in
    let g = c.loop-after.invariant in
    let pieces : c.new-pieces.result ≡ g.bodies = c.new-pieces.ensures ∙ ap bodies_of (gathered start after g) ∙ bodies-continues g.bodies g.fit in
    let ended : ¬ StartsContinue after = λ s. let t : IsTrue c.starts_continue.result = c.starts_continue.ensures.1 s in false≢true (sym c.loop-after-test.false ∙ t) in
    subst (λ (t : List (List ℕ)). Begins c.args.bytes.now (record { typ = c.in-Ok.parts.0; body = c.in-Ok.parts.1.now; tail = t }) after) (sym pieces)
    (begins c.args.bytes.now c.in-Ok.parts.0 c.in-Ok.parts.1.now start after g c.in-Ok.ensures ended)
