use Rattle.std.proofs.Common.{◌≡◌, take, drop}
use Rattle.xls_bytes.specs.Numbers.{le}
use Rattle.xls_biff.proofs.records.formula.read_formula_value.Goals as goal

-- a value that is no number
pub returns-then-u16_at-eq65535 : goal.returns-then-u16_at-eq65535
returns-then-u16_at-eq65535 c = λ class is_1904.
    let marked : le (take 2 (drop 6 c.args.r.now)) ≡ 0xFFFF = cc in
    rw marked (c.special.ensures class is_1904)
