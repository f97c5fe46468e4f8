use Rattle.std.proofs.Common.{◌≡◌, ◌++◌, ◌∷◌, ◌+◌, [], ℕ, List, map, take, sym, ap, ◌∙◌, append_assoc, arith}
use Rattle.std.specs.List.{range_with_len}
use Rattle.std.proofs.lemmas.List.{append-nil}
use Rattle.std.proofs.lemmas.List.FromFn.{map-range_with_len_more}
use Rattle.xls_bytes.specs.Numbers.{le}
use Rattle.xls_biff.specs.Cells.{CellEntry}
use Rattle.xls_biff.specs.Records.Rk.{first_column, mul_rk_count, rk_cell}
use Rattle.xls_view.specs.Formats.{with_formats, xf_at}
use Rattle.xls_view.specs.Formatting.{place_of}
use Rattle.xls_view.specs.Placed.{FormattedPlace}
use Rattle.xls_view.proofs.FormatLemmas.{run_places}
use Rattle.xls_view.proofs.PlaceLemmas.{run_is}
use Rattle.xls_view.proofs.places.push_run.Goals as goal

abbrev placed : ℕ × ℕ → ℕ → ℕ → FormattedPlace
placed p offset xf = (p, record { offset = offset; xf = xf })

pub loop-i-init : goal.loop-i-init
loop-i-init c = sym (append-nil c.args.places.now)

pub loop-i-preserved : goal.loop-i-preserved
loop-i-preserved c =
    let l = c.loop-i in
    let body = c.args.body.now in
    let place : ℕ → FormattedPlace = λ i. placed (le (take 2 body), first_column body + i) c.args.offset (xf_at body i) in
    let zero_add : 0 + l.i ≡ l.i = omega arith in
    c.in_ok-push_place.ensures
    ∙ ap (λ (p : ℕ × ℕ). l.places ++ placed p c.args.offset c.xf_at-xf.result ∷ []) c.run_position.ensures
    ∙ ap (λ (xf : ℕ). l.places ++ placed (le (take 2 body), first_column body + l.i) c.args.offset xf ∷ []) c.xf_at-xf.ensures
    ∙ ap (λ (ps : List FormattedPlace). ps ++ place l.i ∷ []) l.invariant
    ∙ append_assoc c.args.places.now (map place (range_with_len 0 l.i)) (place l.i ∷ [])
    ∙ ap (λ (ps : List FormattedPlace). c.args.places.now ++ ps) (sym (map-range_with_len_more place 0 l.i l.i zero_add))

pub returns : goal.returns
returns c = λ cells h.
    let body = c.args.body.now in
    let s = c.args.settings.now.cells in
    let f = rk_cell s.classes s.is_1904 body in
    let xf = xf_at body in
    let count : c.loop-i.i ≡ c.in-Ok.count = omega (arith, c.loop-i.auto.i-end, c.loop-i-test.false) in
    let is = run_is f (mul_rk_count body) c.in-Ok.count cells c.in-Ok.ensures.exact h in
    c.loop-i.invariant
    ∙ ap (λ (n : ℕ). c.args.places.now ++ map (λ (i : ℕ). placed (le (take 2 body), first_column body + i) c.args.offset (xf i)) (range_with_len 0 n)) count
    ∙ ap (λ (ps : List FormattedPlace). c.args.places.now ++ ps) (sym (run_places f xf c.args.offset 0 c.in-Ok.count))
    ∙ ap (λ (es : List CellEntry). c.args.places.now ++ map (place_of c.args.offset) (with_formats xf 0 es)) (sym is)
