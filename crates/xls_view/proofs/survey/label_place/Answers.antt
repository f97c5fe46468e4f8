use Rattle.xls_view.proofs.PlainLemmas.{plain_label_sst}
use Rattle.xls_view.proofs.survey.label_place.Goals.{in-Ok, in-Err}
use Rattle.xls_view.proofs.survey.label_place.Goals as goal

pub returns : goal.returns
returns c =
    let s = c.args.settings.now.cells in
    elim c.match-read_label_sst.branch [
      | in-Ok w ↦
          let read = rw w.in-Ok.is at c.read_label_sst.ensures s.strings in
          rw w.result-is (plain_label_sst s c.args.body.now w.shared_place.result (w.in-Ok.position, w.in-Ok.index) read w.shared_place.ensures)
      | in-Err w ↦ rw w.result-is tt
    ]
