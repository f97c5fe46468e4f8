use Rattle.std.proofs.Common.{rules, List, ap, map, ◌∙◌}
use Rattle.xls_output.proofs.EachLemmas.{delivers-each, delivers-each-back, delivers-each-stop, each-as, each-stops-as, kept-none}
use Rattle.xls_open.specs.Globals.{State, Sheets, listed_of}
use Rattle.xls_open.specs.declared.listed.Listed.{Listed}
use Rattle.xls_record.specs.declared.version.Biff.{Biff}
use Rattle.xls_text.specs.declared.encoding.XlsEncoding.{XlsEncoding}
use Rattle.xls_beside.specs.Styles.{styles_lines}
use Rattle.xls_beside.specs.Lines.{IsLineText, Line}
use Rattle.xls_beside.proofs.styles.write_styles.Goals as goal

pub returns-in_err-put_all : goal.returns-in_err-put_all
returns-in_err-put_all g c =
    let r = c.from_residual in
    let globals = c.args.globals.now in
    let lines : Biff → XlsEncoding → Sheets → List Line = λ v p s. styles_lines v p s c.args.stream.now in
    let inside = c.globals.inside in
    let listed = ap (λ (l : List Listed). lines inside.version inside.page (map listed_of l)) c.deref.ensures.value in
    let same = ap (λ (s : State). lines s.version s.page s.sheets) c.globals.view_is in
    let all = lines globals.version globals.page globals.sheets in
    delivers-each-back g.K.Sink.state (IsLineText c.args.form) all r.result c.new-out.ensures.sink (search rules)
    (delivers-each-stop r.result r.ensures.1 (kept-none c.new-out.ensures.kept c.new-buffer.ensures)
    (each-stops-as c.in_err-put_all.ensures (listed ∙ same)))

pub returns : goal.returns
returns g c =
    let globals = c.args.globals.now in
    let lines : Biff → XlsEncoding → Sheets → List Line = λ v p s. styles_lines v p s c.args.stream.now in
    let inside = c.globals.inside in
    let listed = ap (λ (l : List Listed). lines inside.version inside.page (map listed_of l)) c.deref.ensures.value in
    let same = ap (λ (s : State). lines s.version s.page s.sheets) c.globals.view_is in
    let all = lines globals.version globals.page globals.sheets in
    delivers-each-back g.K.Sink.state (IsLineText c.args.form) all c.finish.result c.new-out.ensures.sink (search rules)
    (delivers-each _ c.finish.result (kept-none c.new-out.ensures.kept c.new-buffer.ensures)
    (each-as c.in_ok-put_all.ensures (listed ∙ same)) c.finish.ensures.puts c.finish.ensures.none)
