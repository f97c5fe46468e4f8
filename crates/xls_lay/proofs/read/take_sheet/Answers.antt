use Rattle.std.proofs.Common.{◌≡◌, ◌∙◌, ◌++◌, ◌∷◌, [], ℕ, List, ap, subst, sym, drop, slice_index, None}
use Rattle.xls_stream.specs.Listing.{sheet_entry, IsPart, offset_at}
use Rattle.xls_lay.proofs.ReadLemmas.{sheet_taken, part_there}
use Rattle.xls_lay.proofs.read.take_sheet.Goals as goal

pub returns : goal.returns
returns c = λ kept h.
    let body = c.args.body.now in
    let stream = c.args.stream.now in
    let old = c.args.list.now in
    let p = part_there stream (offset_at body) kept h in
    let at = c.read_usize.ensures in
    let q : IsPart (drop c.read_usize.result stream) kept None = subst (λ (n : ℕ). IsPart (drop n stream) kept None) (sym at) p in
    let t = c.take_part.ensures kept (subst (λ (x : List ℕ). IsPart x kept None) (sym c.split_at-2.ensures.back) q) in
    let m : c.push_sheet.new.self ≡ old ++ sheet_entry (slice_index body 4) (slice_index body 5) (drop 6 body) [] ∷ [] =
    c.in_ok-push_sheet.ensures.ok ∙ ap (λ (x : List ℕ). old ++ sheet_entry (slice_index body 4) (slice_index body 5) x [] ∷ []) c.split_at.ensures.back in
    sheet_taken old c.push_sheet.new.self c.take_part.new.list (slice_index body 4) (slice_index body 5) (drop 6 body) kept c.take_part.result m t
