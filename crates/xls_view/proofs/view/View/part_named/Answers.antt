use Rattle.std.proofs.Common.{sym, ap, map, ◌∙◌}
use Rattle.std.specs.Option.{option_copied}
use Rattle.std.specs.Str.{chars}
use Rattle.std.proofs.lemmas.List.{length-map}
use Rattle.xls_data.specs.Sheets.{sheet_content}
use Rattle.xls_open.specs.Workbook.{code_texts, name_texts}
use Rattle.xls_meaning.specs.Settings.{Settings}
use Rattle.xls_meaning.specs.Reading.{last_named, paired}
use Rattle.xls_view.proofs.ViewLemmas.{part_is, no_part}
use Rattle.xls_view.proofs.view.View.part_named.Goals as goal

pub returns-in-Some : goal.returns-in-Some
returns-in-Some c =
    let v = c.self.inside in
    let s : Settings = record {
      cells = record {
        page = v.page;
        version = v.version;
        classes = v.classes.items;
        strings = v.strings;
        is_1904 = v.is_1904;
      };
      formulas = record {
        sheets = v.naming.sheets;
        names = v.naming.names;
        refs = v.naming.refs;
        page = v.page;
        biff = v.version;
        functions = v.functions;
        numbers = v.numbers;
      };
    } in
    let reported = map name_texts v.naming.reported.items in
    let codes = map code_texts v.codes.items in
    let heads = map sheet_content v.sheets.items in
    let name = chars c.args.name.now in
    let found = sym (ap option_copied c.in-Some.is) ∙ c.find_named.ensures
    ∙ ap (λ ss. last_named (paired (map sheet_content ss) c.deref-2.result.now) name) c.deref.ensures.value
    ∙ ap (λ os. last_named (paired heads os) name) c.deref-2.ensures.value in
    rw (← c.self.view_is)
    (part_is v.bytes.now s heads v.offsets.items reported v.identifiers.items codes (c.self.invariant.1 ∙ sym (length-map v.sheets.items sheet_content)) name c.in-Some.offset.now c.part_at.result c.self.invariant.0 c.self.invariant.3 found c.part_at.ensures)

pub returns-in-None : goal.returns-in-None
returns-in-None c =
    let v = c.self.inside in
    let s : Settings = record {
      cells = record {
        page = v.page;
        version = v.version;
        classes = v.classes.items;
        strings = v.strings;
        is_1904 = v.is_1904;
      };
      formulas = record {
        sheets = v.naming.sheets;
        names = v.naming.names;
        refs = v.naming.refs;
        page = v.page;
        biff = v.version;
        functions = v.functions;
        numbers = v.numbers;
      };
    } in
    let reported = map name_texts v.naming.reported.items in
    let codes = map code_texts v.codes.items in
    let heads = map sheet_content v.sheets.items in
    let name = chars c.args.name.now in
    let found = sym (ap option_copied c.in-None.is) ∙ c.find_named.ensures
    ∙ ap (λ ss. last_named (paired (map sheet_content ss) c.deref-2.result.now) name) c.deref.ensures.value
    ∙ ap (λ os. last_named (paired heads os) name) c.deref-2.ensures.value in
    rw (← c.self.view_is) (no_part v.bytes.now s heads v.offsets.items reported v.identifiers.items codes (c.self.invariant.1 ∙ sym (length-map v.sheets.items sheet_content)) name found)
