use Rattle.std.proofs.Common.{rules, ◌≡◌, ◌++◌, false}
use Rattle.std.specs.Fmt.{digits}
use Rattle.std.specs.String.{string_bytes}
use Rattle.xls_formula.proofs.TextLemmas.{ascii_more, hex_ascii}
use Rattle.xls_formula.proofs.words.push_hex.Goals as goal

pub returns : goal.returns
returns c =
    let e : string_bytes c.write.new.self ≡ string_bytes c.args.out.now ++ digits 16 false c.args.n = search rules in
    ascii_more c.args.out.now c.write.new.self (digits 16 false c.args.n) (hex_ascii c.args.n) e
