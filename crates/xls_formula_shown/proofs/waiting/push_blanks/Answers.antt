use Rattle.std.proofs.Common.{◌++◌, ◌∙◌, ℕ, List, ap, replicate, if◌then◌else◌, append_assoc}
use Rattle.std.specs.Str.{chars}
use Rattle.std.proofs.lemmas.List.{replicate-append-replicate}
use Rattle.xls_strings.specs.Texts.{text_of}
use Rattle.xls_formula_shown.proofs.waiting.push_blanks.Goals as goal

pub blanks-preserved : goal.blanks-preserved
blanks-preserved c =
    let blank : ℕ = if c.args.space.is_newline then 0x0A else 0x20 in
    let old : List ℕ = text_of c.args.out.now in
    c.in_ok-append.ensures
    ∙ (ap (λ (x : List ℕ). x ++ chars c.blank_text-blank.result.now) c.blanks.invariant
    ∙ (ap (λ (x : List ℕ). (old ++ replicate c.blanks.i blank) ++ x) c.blank_text-blank.ensures
    ∙ (append_assoc old (replicate c.blanks.i blank) (replicate 1 blank)
    ∙ ap (λ (x : List ℕ). old ++ x) (replicate-append-replicate c.blanks.i 1 blank))))
