-- Naturals of many digits: digits with zeros behind them.
use Rattle.std.specs.Prelude.{ℕ, ◌*◌, ◌^◌}
use Rattle.xls_shown_numbers.specs.declared.number.Number.{Number}

abbrev pub value : Number → ℕ
value n = n.digits * 10 ^ n.zeros
