use Rattle.std.proofs.Common.{◌≡◌, ◌∙◌, ◌+◌, ◌*◌, sym, ap, length, arith, List}
use Rattle.std.specs.List.{flat_map}
use Rattle.xls_stream.specs.Listing.{Kept}
use Rattle.xls_lay.specs.Writing.{saturated}
use Rattle.xls_lay.specs.Cutting.{kept_bytes}
use Rattle.xls_lay.proofs.InsideLemmas.{records_size}
use Rattle.xls_lay.proofs.kept.KeptRecords.size.Goals as goal

pub returns : goal.returns
returns c =
    let heads = c.self.inside.heads.items in
    let bytes = c.self.inside.bytes.items in
    let size = records_size heads bytes c.self.invariant in
    let sum : c.saturating_add.result ≡ saturated (length heads * 4 + length bytes) = omega (arith, c.saturating_add.ensures, c.saturating_mul-heads.ensures, c.len.ensures, c.len-2.ensures) in
    sum ∙ ap saturated (sym size) ∙ ap (λ (ks : List Kept). saturated (length (flat_map kept_bytes ks))) c.self.view_is
