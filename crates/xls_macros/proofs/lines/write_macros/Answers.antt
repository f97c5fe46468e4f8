use Rattle.std.proofs.Common.{rules, ap, map, List, ℕ, Bor}
use Rattle.xls_output.proofs.EachLemmas.{delivers-each, delivers-each-back, delivers-each-stop, each-as, each-stops-as, kept-none}
use Rattle.xls_macros.specs.Lines.{IsPartText, macro_lines}
use Rattle.xls_macros.proofs.LineLemmas.{macros_delivered, macros_memory}
use Rattle.xls_macros.proofs.lines.write_macros.Goals as goal

pub returns-in_err-names : goal.returns-in_err-names
returns-in_err-names g c =
    macros_memory c.args.form c.args.macros.now (g.K.Sink.state c.args.sink.now) c.from_residual.result c.from_residual.ensures.1

pub returns-in_err-put_macros : goal.returns-in_err-put_macros
returns-in_err-put_macros g c =
    let r = c.from_residual-in_err-put_macros in
    let names = map (λ x. x.now) c.in_ok-names.names.items in
    macros_delivered c.args.form c.args.macros.now names _ _ r.result c.in_ok-names.ensures
    (delivers-each-back g.K.Sink.state (IsPartText c.args.form c.args.macros.now) (macro_lines c.args.macros.now names) r.result
    c.new-out.ensures.sink (search rules)
    (delivers-each-stop r.result r.ensures.1 (kept-none c.new-out.ensures.kept c.new-buffer.ensures)
    (each-stops-as c.in_err-put_macros.ensures
    (ap (λ (l : List (Bor (List ℕ))). macro_lines c.args.macros.now (map (λ x. x.now) l)) c.deref.ensures.value))))

pub returns : goal.returns
returns g c =
    let names = map (λ x. x.now) c.in_ok-names.names.items in
    macros_delivered c.args.form c.args.macros.now names _ _ c.finish.result c.in_ok-names.ensures
    (delivers-each-back g.K.Sink.state (IsPartText c.args.form c.args.macros.now) (macro_lines c.args.macros.now names) c.finish.result
    c.new-out.ensures.sink (search rules)
    (delivers-each _ c.finish.result (kept-none c.new-out.ensures.kept c.new-buffer.ensures)
    (each-as c.in_ok-put_macros.ensures (ap (λ (l : List (Bor (List ℕ))). macro_lines c.args.macros.now (map (λ x. x.now) l)) c.deref.ensures.value))
    c.finish.ensures.puts c.finish.ensures.none))
