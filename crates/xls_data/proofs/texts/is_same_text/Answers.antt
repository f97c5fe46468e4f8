use Rattle.std.proofs.Common.{ap}
use Rattle.std.specs.Str.{chars}
use Rattle.std.proofs.lemmas.Slice.Eq.{bytes_eq-Decides}
use Rattle.xls_data.proofs.TextLemmas.{chars_injective}
use Rattle.xls_data.proofs.texts.is_same_text.Goals as goal

pub returns : goal.returns
returns c =
    let same = bytes_eq-Decides c.args.a.now c.args.b.now in
    rw c.eq.ensures (λ t. ap (λ bs. chars bs) (same.0 t), λ e. same.1 (chars_injective _ _ c.utf8.a c.utf8.b e))
