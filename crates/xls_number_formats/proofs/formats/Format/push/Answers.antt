use Rattle.std.proofs.Common.{◌<◌, ◌∷◌, ◌++◌, [], ap, ap₂, ◌∙◌, arith}
use Rattle.std.specs.Str.{chars}
use Rattle.std.proofs.lemmas.List.{length-set}
use Rattle.xls_number_formats.proofs.FormatLemmas.{room, take_pushed, map_pushed}
use Rattle.xls_number_formats.proofs.formats.Format.push.Goals as goal

pub bounds-self-inside-self-inside : goal.bounds-self-inside-self-inside
bounds-self-inside-self-inside c =
    room (λ b. chars b.now) c.self.inside.len c.self.inside.codes _ (ap (λ p. p.codes) c.self.view_is) c.requires c.self.told

pub bounds-self-inside-self-inside-2 : goal.bounds-self-inside-self-inside-2
bounds-self-inside-self-inside-2 c =
    room (λ b. chars b.now) c.self.inside.len c.self.inside.codes _ (ap (λ p. p.codes) c.self.view_is) c.requires c.self.told

pub invariant_of-self : goal.invariant_of-self
invariant_of-self c =
    let some : c.self.inside.len < 4 = room (λ b. chars b.now) c.self.inside.len c.self.inside.codes _ (ap (λ p. p.codes) c.self.view_is) c.requires c.self.told in
    (omega arith, length-set c.self.inside.sections _ _ ∙ c.self.invariant.1)

pub returns-clause-sections : goal.returns-clause-sections
returns-clause-sections c =
    let some : c.self.inside.len < 4 = room (λ b. chars b.now) c.self.inside.len c.self.inside.codes _ (ap (λ p. p.codes) c.self.view_is) c.requires c.self.told in
    let all = c.self.invariant.1 in
    take_pushed c.self.inside.len c.self.inside.sections c.read_section.result.0 (omega arith)
    ∙ ap₂ (λ ss s. ss ++ s ∷ []) (ap (λ p. p.sections) c.self.view_is) c.read_section.ensures.section

pub returns-clause-codes : goal.returns-clause-codes
returns-clause-codes c =
    let some : c.self.inside.len < 4 = room (λ b. chars b.now) c.self.inside.len c.self.inside.codes _ (ap (λ p. p.codes) c.self.view_is) c.requires c.self.told in
    let all = c.self.told in
    map_pushed (λ b. chars b.now) c.self.inside.len c.self.inside.codes c.args.code (omega arith)
    ∙ ap (λ cs. cs ++ chars c.args.code.now ∷ []) (ap (λ p. p.codes) c.self.view_is)
