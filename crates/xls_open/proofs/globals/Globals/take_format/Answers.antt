use Rattle.std.proofs.Common.{map, ap, ◌∙◌, ◌∷◌, []}
use Rattle.std.proofs.lemmas.List.{map-append}
use Rattle.xls_formula.specs.Defined.{named_of}
use Rattle.xls_open.specs.Globals.{State, listed_of}
use Rattle.xls_open.specs.Workbook.{code_texts}
use Rattle.xls_open.proofs.RecordLemmas.{format_taken, format_passed}
use Rattle.xls_open.proofs.globals.Globals.take_format.Goals as goal

pub returns-in_ok-push-in-Ok : goal.returns-in_ok-push-in-Ok
returns-in_ok-push-in-Ok c =
    let before : State = record {
      page = c.self.inside.page;
      version = c.self.inside.version;
      is_1904 = c.self.inside.is_1904;
      codes = map code_texts c.self.inside.codes.items;
      identifiers = c.self.inside.identifiers.items;
      strings = c.self.inside.strings;
      refs = c.self.inside.refs;
      names = map named_of c.self.inside.names.items;
      sheets = map listed_of c.self.inside.listed.items;
    } in
    rw (c.in_ok-push-in-Ok.ensures.items, ← c.self.view_is)
    (λ body g h.
    ap (λ x. record before { codes = x }) (map-append code_texts c.self.inside.codes.items (c.in-Ok.format ∷ []))
    ∙ format_taken before body g _ (code_texts c.in-Ok.format) c.in-Ok.ensures h)

-- refused, and memory did not run out
pub returns-in-Err-2 : goal.returns-in-Err-2
returns-in-Err-2 c =
    rw (← c.self.view_is)
    (λ body g h. format_passed _ body g _ c.in-Err.error c.in-Err.ensures (λ m. let t = c.is_memory.ensures.1 m in let f = c.if-is_memory.false in cc) h)
