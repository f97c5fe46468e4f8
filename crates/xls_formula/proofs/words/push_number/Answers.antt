use Rattle.std.specs.Fmt.{decimal}
use Rattle.xls_formula.proofs.TextLemmas.{ascii_more, decimal_ascii}
use Rattle.xls_formula.proofs.words.push_number.Goals as goal

pub returns : goal.returns
returns c = ascii_more c.args.out.now c.write.new.self (decimal c.args.n) (decimal_ascii c.args.n) c.in_ok-write.ensures.bytes
