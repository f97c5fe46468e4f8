use Rattle.std.proofs.Common.{◌≢◌, ◌-◌, take, drop, sym, ◌∙◌, ap, arith}
use Rattle.xls_passwords.specs.Records.{file_pass_in, records_from, is_biff8_after}
use Rattle.xls_passwords.proofs.RecordLemmas.{file_pass_in-step, file_pass_at-other, records_from-end}
use Rattle.xls_passwords.proofs.records.file_pass.Goals as goal

pub returns-in-10-clause-exact : goal.returns-in-10-clause-exact
returns-in-10-clause-exact c =
    let place = c.place_at-place.result in
    let told = c.place_at-place.ensures in
    sym (file_pass_in-step c.records.is_biff8 10 c.records.offset place.size place.end c.args.stream.now (omega arith) (sym c.in-10.is ∙ told.typ) told.size told.end) ∙ c.records.invariant.same

pub returns-in-47-clause-exact : goal.returns-in-47-clause-exact
returns-in-47-clause-exact c =
    let place = c.place_at-place.result in
    let told = c.place_at-place.ensures in
    sym (file_pass_in-step c.records.is_biff8 47 c.records.offset place.size place.end c.args.stream.now (omega arith) (sym c.in-47.is ∙ told.typ) told.size told.end) ∙ c.records.invariant.same

pub records-preserved-in-2057 : goal.records-preserved-in-2057
records-preserved-in-2057 c =
    let place = c.place_at-place.result in
    let told = c.place_at-place.ensures in
    let others = records_from place.end (drop place.end c.args.stream.now) in record {
      within = omega (arith, told.end);
      same = ap (λ b. file_pass_in b others) c.is_biff8_after-is_biff8.ensures
          ∙ ap (λ start. file_pass_in (is_biff8_after c.records.is_biff8 (take (place.end - start) (drop start c.args.stream.now))) others) told.start
          ∙ sym (file_pass_in-step c.records.is_biff8 2057 c.records.offset place.size place.end c.args.stream.now (omega arith) (sym c.in-2057.is ∙ told.typ) told.size told.end) ∙ c.records.invariant.same;
    }

pub records-preserved : goal.records-preserved
records-preserved c =
    let place = c.place_at-place.result in
    let told = c.place_at-place.ensures in
    let not_eof : place.typ ≢ 10 = omega arith in
    let not_file_pass : place.typ ≢ 47 = omega arith in
    let not_bof : place.typ ≢ 2057 = omega arith in record {
      within = omega (arith, told.end);
      same = sym (file_pass_at-other c.records.is_biff8 place.typ c.records.offset place.end c.args.stream.now not_eof not_file_pass not_bof)
          ∙ sym (file_pass_in-step c.records.is_biff8 place.typ c.records.offset place.size place.end c.args.stream.now (omega arith) told.typ told.size told.end) ∙ c.records.invariant.same;
    }

pub returns-clause-exact : goal.returns-clause-exact
returns-clause-exact c =
    sym (ap (file_pass_in c.records.is_biff8) (records_from-end c.records.offset c.args.stream.now (omega arith))) ∙ c.records.invariant.same
