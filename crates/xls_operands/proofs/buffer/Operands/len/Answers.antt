use Rattle.std.proofs.Common.{◌≡◌, sym, ◌∙◌, ap, length, arith}
use Rattle.std.specs.String.{string_bytes}
use Rattle.xls_operands.proofs.OperandLemmas.{length-texts_of}
use Rattle.xls_operands.proofs.buffer.Operands.len.Goals as goal

pub returns : goal.returns
returns c =
    let n : length c.args.self.now ≡ length c.self.inside.starts.items = sym (ap length c.self.view_is) ∙ length-texts_of c.self.inside.prefixes (string_bytes c.self.inside.text) c.self.inside.leaves.items c.self.inside.starts.items in
    omega (arith, c.len.ensures, c.self.inside.starts.ok.0)
