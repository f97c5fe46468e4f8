use Rattle.std.proofs.lemmas.Result.{err_from_is_err_and}
use Rattle.std.specs.Str.{chars}
use Rattle.xls_formula.specs.Fold.{formula_text}
use Rattle.xls_operands.specs.Pieces.{one_text}
use Rattle.xls_formula.specs.Holding.{scope_context}
use Rattle.xls_formula.proofs.Rendering.{refused, read_whole}
use Rattle.xls_formula.proofs.WalkLemmas.{gives_over}
use Rattle.xls_formula.proofs.parse.write_formula.Goals as goal

pub returns-in_err-put_tokens-clause-text : goal.returns-in_err-put_tokens-clause-text
returns-in_err-put_tokens-clause-text c =
    let p = err_from_is_err_and c.from_residual-in_err-put_tokens.result c.from_residual-in_err-put_tokens.ensures.1 in
    rw (p.1, p.2)
    (refused (scope_context c.args.scope) c.args.rgce.now c.in_ok-tokens.tokens.now c.clear.new.self c.in_err-put_tokens.field-0.0 c.in_ok-tokens.ensures c.clear.ensures c.in_err-put_tokens.ensures)

pub returns-clause-text : goal.returns-clause-text
returns-clause-text c =
    gives_over (λ u. chars c.write_text.new.out.items) c.write_text.result (one_text c.put_tokens.new.texts) (formula_text (scope_context c.args.scope) c.args.rgce.now)
    (read_whole (scope_context c.args.scope) c.args.rgce.now c.in_ok-tokens.tokens.now c.clear.new.self c.put_tokens.new.texts c.in_ok-tokens.ensures c.clear.ensures c.in_ok-put_tokens.ensures)
    c.write_text.ensures.text
