use Rattle.std.proofs.Common.{sym, ap, map, ◌∙◌}
use Rattle.std.specs.Prelude.{slice_get}
use Rattle.std.specs.Option.{option_copied, option_map}
use Rattle.std.proofs.lemmas.List.{length-map}
use Rattle.std.proofs.lemmas.Option.{slice_get-map}
use Rattle.xls_data.specs.Sheets.{sheet_content}
use Rattle.xls_open.specs.Workbook.{code_texts, name_texts}
use Rattle.xls_meaning.specs.Settings.{Settings}
use Rattle.xls_view.proofs.IndexLemmas.{looked}
use Rattle.xls_view.proofs.ViewLemmas.{part_at_index, no_part_at_index}
use Rattle.xls_view.proofs.view.View.part_at.Goals as goal

pub returns-in-Some : goal.returns-in-Some
returns-in-Some c =
    let v = c.self.inside in
    let s : Settings = record {
      cells = record {
        page = v.page;
        version = v.version;
        classes = v.classes.items;
        strings = v.strings;
        is_1904 = v.is_1904;
      };
      formulas = record {
        sheets = v.naming.sheets;
        names = v.naming.names;
        refs = v.naming.refs;
        page = v.page;
        biff = v.version;
        functions = v.functions;
        numbers = v.numbers;
      };
    } in
    let reported = map name_texts v.naming.reported.items in
    let codes = map code_texts v.codes.items in
    let heads = map sheet_content v.sheets.items in
    let at = c.get.ensures.lookup in
    let sheet = ap (λ ss. slice_get ss c.args.n) (sym c.deref.ensures.value)
    ∙ sym (looked c.deref.result.now c.args.n c.get.result at.0 at.1) ∙ ap option_copied c.in-Some.is in
    let head = slice_get-map sheet_content v.sheets.items c.args.n ∙ ap (option_map sheet_content) sheet in
    rw (← c.self.view_is)
    (part_at_index v.bytes.now s heads v.offsets.items reported v.identifiers.items codes (c.self.invariant.1 ∙ sym (length-map v.sheets.items sheet_content)) c.args.n (sheet_content c.in-Some.sheet.now) c.part_named.result head
    (rw (c.as_str.ensures.value, sym c.self.view_is) at c.part_named.ensures))

pub returns-in-None : goal.returns-in-None
returns-in-None c =
    let v = c.self.inside in
    let s : Settings = record {
      cells = record {
        page = v.page;
        version = v.version;
        classes = v.classes.items;
        strings = v.strings;
        is_1904 = v.is_1904;
      };
      formulas = record {
        sheets = v.naming.sheets;
        names = v.naming.names;
        refs = v.naming.refs;
        page = v.page;
        biff = v.version;
        functions = v.functions;
        numbers = v.numbers;
      };
    } in
    let reported = map name_texts v.naming.reported.items in
    let codes = map code_texts v.codes.items in
    let heads = map sheet_content v.sheets.items in
    let at = c.get.ensures.lookup in
    let nothing = ap (λ ss. slice_get ss c.args.n) (sym c.deref.ensures.value)
    ∙ sym (looked c.deref.result.now c.args.n c.get.result at.0 at.1) ∙ ap option_copied c.in-None.is in
    let none = slice_get-map sheet_content v.sheets.items c.args.n ∙ ap (option_map sheet_content) nothing in
    rw (← c.self.view_is) (no_part_at_index v.bytes.now s heads v.offsets.items reported v.identifiers.items codes (c.self.invariant.1 ∙ sym (length-map v.sheets.items sheet_content)) c.args.n none)
