use Rattle.std.proofs.Common.{◌∙◌, ap, get_or}
use Rattle.xls_lines.specs.declared.short.TheConstants.{HEX_DIGITS}
use Rattle.xls_lines.proofs.HexLemmas.{HEX_DIGITS_at}
use Rattle.xls_lines.proofs.short.hex_digit.Goals as goal

pub returns : goal.returns
returns c = ap (λ i. get_or HEX_DIGITS i 0) c.from.ensures ∙ HEX_DIGITS_at c.args.n c.requires
