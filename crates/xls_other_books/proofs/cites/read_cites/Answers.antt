use Rattle.std.proofs.Common.{sym, rules}
use Rattle.xls_other_books.specs.Cites.{cites_in}
use Rattle.xls_other_books.proofs.CiteLemmas.{cites_more}
use Rattle.xls_other_books.proofs.cites.read_cites.Goals as goal

pub tokens-preserved : goal.tokens-preserved
tokens-preserved c =
    let a = c.args in
    cites_more a.version c.tokens.left.now c.split_at.result.0.now c.split_at.result.1.now c.split_at-in-tokens.result.1.now c.in-Some.more
    c.tokens.found.items c.add_cite.new.found.items (cites_in a.version a.tokens.now) c.cite_at.result (search rules)
    c.split_at.ensures.front c.split_at.ensures.back c.split_at-in-tokens.ensures.back (sym c.in-Some.ensures.is) c.cite_at.ensures c.in_ok-add_cite.ensures c.tokens.invariant
