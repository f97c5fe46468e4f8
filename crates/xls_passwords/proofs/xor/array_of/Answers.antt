use Rattle.std.proofs.Common.{◌≡◌, ◌++◌, ◌∷◌, [], map, sym, ◌∙◌, ap, arith, length-set}
use Rattle.std.specs.List.{range_with_len}
use Rattle.std.proofs.lemmas.List.{take_all, take_more_set}
use Rattle.xls_passwords.specs.Xor.{array_byte, padding}
use Rattle.std.proofs.lemmas.List.FromFn.{map-range_with_len_more}
use Rattle.xls_passwords.proofs.xor.array_of.Goals as goal

pub bytes-preserved : goal.bytes-preserved
bytes-preserved c = record {
  len = length-set c.bytes.array c.bytes.i c.array_byte.result ∙ c.bytes.invariant.len;
  front = take_more_set c.bytes.array c.bytes.i c.array_byte.result (omega arith)
      ∙ ap (λ front. front ++ c.array_byte.result ∷ []) c.bytes.invariant.front
      ∙ ap (λ b. map (array_byte (c.args.bytes.now ++ padding) c.args.key) (range_with_len 0 c.bytes.i) ++ b ∷ []) c.array_byte.ensures.exact
      ∙ sym (map-range_with_len_more (array_byte (c.args.bytes.now ++ padding) c.args.key) 0 c.bytes.i c.bytes.i (omega arith));
}

pub returns : goal.returns
returns c =
    let all : c.bytes.i ≡ 16 = omega arith in record {
      exact = sym (take_all c.bytes.i c.bytes.array (omega arith)) ∙ c.bytes.invariant.front
          ∙ ap (λ n. map (array_byte (c.args.bytes.now ++ padding) c.args.key) (range_with_len 0 n)) all
          ∙ ap (λ k. map (array_byte (c.args.bytes.now ++ padding) k) (range_with_len 0 16)) c.requires.key;
    }
