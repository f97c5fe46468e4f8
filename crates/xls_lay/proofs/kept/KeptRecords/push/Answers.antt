use Rattle.std.proofs.Common.{◌≡◌, ◌∙◌, ◌++◌, ◌∷◌, [], ℕ, ◌+◌, List, refl, sym, ap, length}
use Rattle.std.proofs.lemmas.List.{length-append}
use Rattle.xls_stream.specs.Listing.{Kept}
use Rattle.xls_lay.specs.Inside.{sizes_sum, records_of}
use Rattle.xls_lay.specs.declared.kept.RecordHead.{RecordHead}
use Rattle.xls_lay.proofs.InsideLemmas.{sizes_push, records_push}
use Rattle.xls_lay.proofs.kept.KeptRecords.push.Goals as goal

pub invariant_of-self-2 : goal.invariant_of-self-2
invariant_of-self-2 c =
    let heads = c.self.inside.heads.items in
    let bytes = c.self.inside.bytes.items in
    let body = c.args.body.now in
    let h : RecordHead = record { typ = c.args.typ; size = length body } in
    let more : c.push.new.self.items ≡ heads ++ h ∷ [] = c.in_ok-push.ensures.items ∙ ap (λ (x : List RecordHead). x ++ h ∷ []) c.in_ok-reserve.ensures.items in
    let new : c.extend_from_slice.new.self.items ≡ bytes ++ body = c.in_ok-extend_from_slice.ensures.items in
    ap sizes_sum more ∙ sizes_push heads h ∙ ap (λ (n : ℕ). n + length body) c.self.invariant
    ∙ sym (length-append bytes body) ∙ ap length (sym new)

pub returns-clause-ok : goal.returns-clause-ok
returns-clause-ok c =
    let heads = c.self.inside.heads.items in
    let bytes = c.self.inside.bytes.items in
    let body = c.args.body.now in
    let h : RecordHead = record { typ = c.args.typ; size = length body } in
    let one : Kept = record { typ = c.args.typ; body = body } in
    let more : c.push.new.self.items ≡ heads ++ h ∷ [] = c.in_ok-push.ensures.items ∙ ap (λ (x : List RecordHead). x ++ h ∷ []) c.in_ok-reserve.ensures.items in
    let new : c.extend_from_slice.new.self.items ≡ bytes ++ body = c.in_ok-extend_from_slice.ensures.items in
    ap (λ (hs : List RecordHead). records_of hs c.extend_from_slice.new.self.items) more
    ∙ ap (λ (bs : List ℕ). records_of (heads ++ h ∷ []) bs) new
    ∙ records_push heads bytes h body c.self.invariant refl
    ∙ ap (λ (ks : List Kept). ks ++ one ∷ []) c.self.view_is
