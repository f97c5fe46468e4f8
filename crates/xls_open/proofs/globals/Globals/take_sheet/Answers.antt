use Rattle.std.proofs.Common.{map, ap, ◌∙◌, ◌∷◌, []}
use Rattle.std.proofs.lemmas.List.{map-append}
use Rattle.xls_formula.specs.Defined.{named_of}
use Rattle.xls_open.specs.Globals.{State, listed_of}
use Rattle.xls_open.specs.Workbook.{code_texts}
use Rattle.xls_open.proofs.RecordLemmas.{sheet_taken}
use Rattle.xls_open.proofs.globals.Globals.take_sheet.Goals as goal

pub returns : goal.returns
returns c =
    let before : State = record {
      page = c.self.inside.page;
      version = c.self.inside.version;
      is_1904 = c.self.inside.is_1904;
      codes = map code_texts c.self.inside.codes.items;
      identifiers = c.self.inside.identifiers.items;
      strings = c.self.inside.strings;
      refs = c.self.inside.refs;
      names = map named_of c.self.inside.names.items;
      sheets = map listed_of c.self.inside.listed.items;
    } in
    rw (c.in_ok-push.ensures.items, ← c.self.view_is) (λ body g h. rw h.0
    (ap (λ x. record before { sheets = x }) (map-append listed_of c.self.inside.listed.items (record { offset = c.in_ok-offset.offset; sheet = c.in_ok-offset.sheet } ∷ []))
    ∙ sheet_taken before c.args.r.now.body.now g _ _ (rw c.in_ok-offset.ensures at c.parse_sheet_metadata.ensures) h.1))
