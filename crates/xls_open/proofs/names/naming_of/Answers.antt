use Rattle.std.proofs.Common.{map, sym, ap, ◌∙◌}
use Rattle.std.proofs.lemmas.List.{length-map}
use Rattle.xls_formula.specs.Defined.{named_of}
use Rattle.xls_meaning.specs.Settings.{known_refs, resolved_name}
use Rattle.xls_open.specs.Globals.{names_listed, listed_of}
use Rattle.xls_open.specs.Workbook.{name_texts}
use Rattle.xls_open.proofs.names.naming_of.Goals as goal

pub returns : goal.returns
returns c =
    let listed = map listed_of c.args.listed.now in
    let lbls = map named_of c.args.lbls.items in
    let known = c.in_ok-refs.ensures ∙ ap (λ count. known_refs c.args.version count c.args.refs) (sym (length-map c.args.listed.now listed_of)) in
    let reported = c.in_ok-names.ensures ∙ ap (map name_texts) c.deref.ensures.value in
    record {
      sheets = c.in_ok-sheets.ensures;
      known = known;
      names = reported ∙ c.in_ok-reported.ensures
          ∙ ap (λ sheets. map (resolved_name sheets c.in_ok-refs.refs) lbls) c.in_ok-sheets.ensures
          ∙ ap (λ refs. map (resolved_name (names_listed listed) refs) lbls) known;
      reported = sym reported;
    }
