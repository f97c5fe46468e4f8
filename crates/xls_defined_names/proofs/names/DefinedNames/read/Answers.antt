use Rattle.std.proofs.Common.{◌++◌, map, sym, ap, ◌∙◌, append-nil}
use Rattle.xls_parts.specs.PartRecords.{placed_of}
use Rattle.xls_defined_names.specs.Names.{name_view, names_of}
use Rattle.xls_defined_names.proofs.NameLemmas.{names_end, names_more, names_other, one_more}
use Rattle.xls_defined_names.proofs.names.DefinedNames.read.Goals as goal

pub records-preserved-in_ok-push : goal.records-preserved-in_ok-push
records-preserved-in_ok-push c =
    let a = c.args in
    let step = c.in-Some.ensures.steps in
    let more = names_more a.encoding.now a.version a.stream.now (placed_of c.in-Some.r) c.next.new.self c.if-r-eq-LBL.true in (
      tt,
      tt,
      one_more c.records.names.items _ c.in_ok-record_name.field-0 _ _ _ _ c.in_ok-push.ensures.items c.in_ok-record_name.ensures
          (ap (names_of a.encoding.now a.version a.stream.now) step ∙ more) c.records.invariant.2,
    )

pub records-preserved : goal.records-preserved
records-preserved c =
    let a = c.args in (
      tt,
      tt,
      ap (λ ns. map name_view c.records.names.items ++ ns)
          (sym (names_other a.encoding.now a.version a.stream.now (placed_of c.in-Some.r) c.next.new.self c.if-r-eq-LBL.false)
          ∙ ap (names_of a.encoding.now a.version a.stream.now) (sym c.in-Some.ensures.steps))
          ∙ c.records.invariant.2,
    )

pub returns : goal.returns
returns c =
    let a = c.args in
    sym (append-nil (map name_view c.records.names.items))
    ∙ ap (λ ns. map name_view c.records.names.items ++ ns)
    (sym (ap (names_of a.encoding.now a.version a.stream.now) c.in-None.ensures.steps.0 ∙ names_end a.encoding.now a.version a.stream.now))
    ∙ c.records.invariant.2
