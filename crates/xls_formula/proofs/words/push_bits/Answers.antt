use Rattle.xls_dates.specs.Numbers.{bits_text}
use Rattle.xls_formula.proofs.TextLemmas.{ascii_more, bits_ascii}
use Rattle.xls_formula.proofs.words.push_bits.Goals as goal

pub returns : goal.returns
returns c = ascii_more c.args.out.now c.write.new.self (bits_text c.args.bits) (bits_ascii c.args.bits) c.in_ok-write.ensures.bytes
