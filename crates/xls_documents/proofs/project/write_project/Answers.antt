use Rattle.std.proofs.Common.{rules, ap, map, List, ℕ, Bor}
use Rattle.xls_output.proofs.EachLemmas.{delivers-each, delivers-each-back, delivers-each-stop, each-as, each-stops-as, kept-none}
use Rattle.xls_documents.specs.Lines.{IsLineText}
use Rattle.xls_documents.specs.Projects.{lines_by}
use Rattle.xls_documents.proofs.ProjectLemmas.{project_delivered, project_memory}
use Rattle.xls_documents.proofs.project.write_project.Goals as goal

pub returns-in_err-names : goal.returns-in_err-names
returns-in_err-names g c =
    project_memory c.args.form c.args.project.now (g.K.Sink.state c.args.sink.now) c.from_residual.result c.from_residual.ensures.1

pub returns-in_err-put_project : goal.returns-in_err-put_project
returns-in_err-put_project g c =
    let r = c.from_residual-in_err-put_project in
    let names = map (λ x. x.now) c.in_ok-names.names.items in
    project_delivered c.args.form c.args.project.now names _ _ r.result c.in_ok-names.ensures
    (delivers-each-back g.K.Sink.state (IsLineText c.args.form) (lines_by c.args.project.now names) r.result c.new-out.ensures.sink (search rules)
    (delivers-each-stop r.result r.ensures.1 (kept-none c.new-out.ensures.kept c.new-buffer.ensures)
    (each-stops-as c.in_err-put_project.ensures
    (ap (λ (l : List (Bor (List ℕ))). lines_by c.args.project.now (map (λ x. x.now) l)) c.deref.ensures.value))))

pub returns : goal.returns
returns g c =
    let names = map (λ x. x.now) c.in_ok-names.names.items in
    project_delivered c.args.form c.args.project.now names _ _ c.finish.result c.in_ok-names.ensures
    (delivers-each-back g.K.Sink.state (IsLineText c.args.form) (lines_by c.args.project.now names) c.finish.result c.new-out.ensures.sink (search rules)
    (delivers-each _ c.finish.result (kept-none c.new-out.ensures.kept c.new-buffer.ensures)
    (each-as c.in_ok-put_project.ensures (ap (λ (l : List (Bor (List ℕ))). lines_by c.args.project.now (map (λ x. x.now) l)) c.deref.ensures.value))
    c.finish.ensures.puts c.finish.ensures.none))
