use Rattle.std.proofs.Common.{drop, ap, ◌∙◌}
use Rattle.xls_answers.specs.HiddenParts.{Parts}
use Rattle.xls_answers.specs.declared.hidden_parts.HiddenParts.TheInside.{Inside}
use Rattle.xls_answers.proofs.HiddenPartLemmas.{part_read}
use Rattle.xls_answers.proofs.hidden_parts.HiddenParts.read.Goals as goal

pub returns : goal.returns
returns c =
    let offset = c.args.offset in
    let inside = ap (λ (i : Inside). drop offset i.stream.now) c.self-inside.view_is in
    let stream = ap (λ (p : Parts). drop offset p.stream) c.self.view_is in
    let version = ap (λ (i : Inside). i.globals.version) c.self-inside.view_is ∙ ap (λ (p : Parts). p.globals.version) c.self.view_is in
    part_read c.args.self.now c.args.index offset _ _ _ c.read_hidden.result version c.area.ensures
    (c.bytes_from.ensures.bytes ∙ (inside ∙ stream)) c.read_hidden.ensures
