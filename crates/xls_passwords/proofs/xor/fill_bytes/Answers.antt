use Rattle.std.proofs.Common.{◌≡◌, length, map, take, min, sym, ◌∙◌, ap, arith}
use Rattle.std.proofs.lemmas.List.{take-map, take_min}
use Rattle.xls_passwords.specs.Xor.{unit_byte}
use Rattle.xls_passwords.proofs.xor.fill_bytes.Goals as goal

pub returns-clause-exact : goal.returns-clause-exact
returns-clause-exact c =
    let units = c.args.units.now in
    let all : c.units.i ≡ c.min-count.result = omega arith in
    let least : c.min-count.result ≡ min 15 (length units) = omega arith in
    ap (λ n. take n c.units.bytes) (sym all) ∙ c.units.invariant.front
    ∙ ap (λ n. map unit_byte (take n units)) (all ∙ least)
    ∙ ap (map unit_byte) (take_min 15 units) ∙ sym (take-map unit_byte 15 units)
