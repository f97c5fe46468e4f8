use Rattle.std.proofs.Common.{ap, ◌∙◌, sym}
use Rattle.xls_biff.specs.Walking.{group_of}
use Rattle.xls_stream.specs.Listing.{kept_group}
use Rattle.xls_meaning.specs.Settings.{Settings}
use Rattle.xls_meaning.specs.SheetTable.{kept_line}
use Rattle.xls_view.specs.Placed.{cell_in}
use Rattle.xls_view.proofs.PlaceLemmas.{faulty_record, sound_record}
use Rattle.xls_view.proofs.places.placed_value.Goals as goal
use Rattle.xls_view.proofs.places.placed_value.Goals.{in-Ok, in-Err}

pub returns : goal.returns
returns c =
    let s = c.args.settings.now in
    let p = c.args.position in
    let k = kept_group (group_of c.in-Some.record) in
    let there = rw c.in-Some.is at c.record_at.ensures in
    let version = ap (λ (x : Settings). x.cells.version) (sym c.settings.view_is) in
    let checked = c.check_sheet_record.ensures s.cells version in
    elim c.match-check_sheet_record.branch [
      | in-Ok w ↦
          let line = sound_record (kept_line s.cells k) (rw w.in-Ok.is at checked) in
          rw w.result-is (w.value_in.ensures line.0 line.1 ∙ ap (cell_in s p) there)
      | in-Err w ↦ rw w.result-is (sym (faulty_record s p k _ (rw w.in-Err.is at checked)) ∙ ap (cell_in s p) there)
    ]
