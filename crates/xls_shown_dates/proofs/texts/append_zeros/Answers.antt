use Rattle.std.proofs.Common.{◌++◌, ◌∷◌, [], ap, ◌∙◌, append_assoc, replicate}
use Rattle.std.specs.String.{string_bytes}
use Rattle.xls_bytes.proofs.GrownLemmas.{IsGrown-append}
use Rattle.xls_shown_dates.proofs.TextLemmas.{one_zero, zero_utf8}
use Rattle.xls_shown_dates.proofs.texts.append_zeros.Goals as goal

pub zeros-preserved : goal.zeros-preserved
zeros-preserved c =
    let l = c.zeros in
    let old = string_bytes c.args.text.now in
    let pushed = c.in_ok-push_str.ensures.bytes in
    record {
      zeros = pushed ∙ ap (λ bs. bs ++ 48 ∷ []) l.invariant.zeros ∙ append_assoc old (replicate l.i 48) (48 ∷ []) ∙ ap (λ bs. old ++ bs) (one_zero l.i);
      grown = IsGrown-append _ _ _ _ l.invariant.grown zero_utf8 pushed;
    }
