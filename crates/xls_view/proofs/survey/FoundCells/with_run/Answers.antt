use Rattle.std.proofs.Common.{◌≡◌, ◌+◌, ◌++◌, ◌∷◌, [], ℕ, List, map, sym, ap, subst, ◌∙◌, append_assoc, arith}
use Rattle.std.specs.List.{range_with_len}
use Rattle.std.proofs.lemmas.List.{append-nil}
use Rattle.std.proofs.lemmas.List.FromFn.{map-range_with_len_more}
use Rattle.xls_biff.specs.Cells.{CellEntry}
use Rattle.xls_biff.specs.Records.Rk.{rk_cell}
use Rattle.xls_view.specs.Surveying.{IsFound}
use Rattle.xls_view.proofs.survey.FoundCells.with_run.Goals as goal

pub loop-i-init : goal.loop-i-init
loop-i-init c = λ cells found. subst (IsFound c.args.self) (sym (append-nil cells)) found

pub loop-i-preserved : goal.loop-i-preserved
loop-i-preserved c = λ cells found.
    let l = c.loop-i in
    let s = c.args.settings.now.cells in
    let f = rk_cell s.classes s.is_1904 c.args.body.now in
    let so_far = cells ++ map f (range_with_len 0 l.i) in
    let zero_add : 0 + l.i ≡ l.i = omega arith in
    let one = c.with-found.ensures so_far (f l.i).1 (l.invariant cells found) in
    subst (IsFound c.with-found.result)
    (append_assoc cells (map f (range_with_len 0 l.i)) (f l.i ∷ [])
    ∙ ap (λ (es : List CellEntry). cells ++ es) (sym (map-range_with_len_more f 0 l.i l.i zero_add)))
    (rw c.run_position.ensures at one)

pub returns : goal.returns
returns c = λ cells found.
    let l = c.loop-i in
    let s = c.args.settings.now.cells in
    let f = rk_cell s.classes s.is_1904 c.args.body.now in
    let count : l.i ≡ c.args.count = omega (arith, l.auto.i-end, c.loop-i-test.false) in
    subst (λ (es : List CellEntry). IsFound l.found (cells ++ es)) (ap (λ (n : ℕ). map f (range_with_len 0 n)) count) (l.invariant cells found)
