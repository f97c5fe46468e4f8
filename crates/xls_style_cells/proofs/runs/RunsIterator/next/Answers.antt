use Rattle.std.proofs.Common.{rules}
use Rattle.xls_style_cells.specs.Tables.{bytes_in}
use Rattle.xls_style_cells.proofs.TableLemmas.{none_of, none_there, runs_more, runs_none, one_run_fewer}
use Rattle.xls_style_cells.proofs.runs.RunsIterator.next.Goals as goal

pub returns-then-self-eq0-clause-steps : goal.returns-then-self-eq0-clause-steps
returns-then-self-eq0-clause-steps c =
    let s = c.self.inside in
    let none = none_of s.is_narrow s.left (bytes_in s.text) c.args.self.now c.self.view_is c.if-self-eq0.true in
    (none, none)

pub returns-in-Some-clause-steps : goal.returns-in-Some-clause-steps
returns-in-Some-clause-steps c =
    let s = c.self.inside in
    runs_more s.is_narrow s.left (bytes_in s.text) (bytes_in c.take_run.new.text) c.in-Some.run' c.args.self.now c.self.view_is c.if-self-eq0.false c.in-Some.ensures

pub returns-in-Some-clause-goes : goal.returns-in-Some-clause-goes
returns-in-Some-clause-goes c = let fewer = one_run_fewer _ _ _ (returns-in-Some-clause-steps c) in search rules

pub returns-in-None-clause-steps : goal.returns-in-None-clause-steps
returns-in-None-clause-steps c =
    let s = c.self.inside in
    (none_there s.is_narrow s.left (bytes_in s.text) c.args.self.now c.self.view_is c.in-None.ensures, runs_none s.is_narrow (bytes_in c.take_run.new.text))
