use Rattle.std.proofs.Common.{Vec, Global, ℕ, ◌≡◌, ◌<◌, ◌∷◌, ◌++◌, [], arith, map, length}
use Rattle.std.specs.String.{string_bytes}
use Rattle.std.proofs.lemmas.List.Elements.{All-push}
use Rattle.xls_rows.specs.Columns.{wanted_column, columns_of}
use Rattle.xls_rows.proofs.ReadLemmas.{memory_always}
use Rattle.xls_rows.proofs.ItemLemmas.{read_same, item_stops, items_end}
use Rattle.xls_rows.proofs.columns.columns_with.Goals as goal

pub returns-then-is_err-clause-value : goal.returns-then-is_err-clause-value
returns-then-is_err-clause-value c =
    memory_always (λ (v : Vec ℕ Global). v.items) (columns_of (map string_bytes c.args.headers.now) (map string_bytes c.args.names.now))

pub returns-in-Err-clause-value : goal.returns-in-Err-clause-value
returns-in-Err-clause-value c =
    item_stops (string_bytes {Z = Global}) (λ (i : ℕ). i) (λ (v : Vec ℕ Global). v.items) (wanted_column (map string_bytes c.args.headers.now)) c.loop-name.indexes.items
    c.in-Err.e c.args.names.now c.loop-name.name-index c.name-item.result (columns_of (map string_bytes c.args.headers.now) (map string_bytes c.args.names.now))
    (omega (arith, c.loop-name-test.true)) c.name-item.is c.loop-name.invariant.0 (rw c.as_str.ensures.value at c.in-Err.ensures.value)

pub loop-name-preserved : goal.loop-name-preserved
loop-name-preserved c =
    let grown : c.push.new.self.items ≡ c.loop-name.indexes.items ++ c.in-Ok.i ∷ [] = rw c.if-is_err.ensures.negation at c.push.ensures.items in
    rw grown (
      read_same (string_bytes {Z = Global}) (wanted_column (map string_bytes c.args.headers.now)) c.loop-name.indexes.items c.in-Ok.i c.args.names.now
          c.loop-name.name-index c.name-item.result (columns_of (map string_bytes c.args.headers.now) (map string_bytes c.args.names.now))
          (omega (arith, c.loop-name-test.true)) c.name-item.is c.loop-name.invariant.0 (rw c.as_str.ensures.value at c.in-Ok.ensures.value),
      All-push (λ k. k < length c.args.headers.now) c.loop-name.indexes.items c.in-Ok.i c.loop-name.invariant.1 c.in-Ok.ensures.below,
    )

pub returns-clause-value : goal.returns-clause-value
returns-clause-value c =
    items_end (string_bytes {Z = Global}) (λ (v : Vec ℕ Global). v.items) (wanted_column (map string_bytes c.args.headers.now)) c.loop-name.indexes c.args.names.now
    c.loop-name.name-index (columns_of (map string_bytes c.args.headers.now) (map string_bytes c.args.names.now))
    (omega (arith, c.loop-name-test.false)) c.loop-name.invariant.0
