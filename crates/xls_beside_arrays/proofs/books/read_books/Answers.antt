use Rattle.std.proofs.Common.{refl, rules}
use Rattle.xls_beside_arrays.proofs.EndLemmas.{fills, fills-as}
use Rattle.xls_beside_arrays.proofs.books.read_books.Goals as goal
use Rattle.xls_beside_arrays.specs.Books.{AreBooks}
use Rattle.xls_beside_arrays.specs.Opened.{RefusesBook}

pub returns : goal.returns
returns c =
    let done = c.lay_books-done in
    let Held = AreBooks c.args.options.now c.args.stream.now in
    let Refuses = RefusesBook c.args.options.now c.args.stream.now in
    fills-as Held Refuses done.new.rooms
    (fills Held Refuses _ done.new.rooms done.result (λ p. p) refl done.ensures.ok done.ensures.err c.end.ensures)
    (search rules) (search rules) (search rules)
