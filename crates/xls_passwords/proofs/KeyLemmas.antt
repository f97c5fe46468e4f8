-- Rounds of bytes, and the key streams' state at an offset.
use Rattle.std.proofs.Common.{◌≡◌, ◌≢◌, ℕ, ◌+◌, ◌/◌, ◌%◌, ◌++◌, ◌∷◌, [], List, replicate, sym, ◌∙◌, ap, refl, append_assoc, append-nil, add-one, arith}
use Rattle.std.specs.List.{concat}
use Rattle.std.proofs.lemmas.List.{replicate_more}
use Rattle.std.proofs.lemmas.List.Folds.{concat-append}
use Rattle.xls_passwords.specs.Rc4.{keyed, next_state, output, state_after}
use Rattle.xls_passwords.specs.Keys.{block_key, key_byte}
use Rattle.xls_passwords.specs.Streams.{stream_at, IsHere}
use Rattle.xls_passwords.specs.declared.rc4.Rc4.{Rc4}
use Rattle.xls_passwords.specs.declared.keys.BlockKeys.{BlockKeys}
use Rattle.xls_passwords.specs.declared.keys.KeyStream.{KeyStream}

-- one round more
pub concat-replicate_more : (n : ℕ) (xs ys : List ℕ) → concat (replicate (n + 1) (xs ++ ys)) ≡ (concat (replicate n (xs ++ ys)) ++ xs) ++ ys
concat-replicate_more n xs ys =
    let before = replicate n (xs ++ ys) in
    ap concat (sym (replicate_more n (xs ++ ys))) ∙ concat-append before ((xs ++ ys) ∷ [])
    ∙ ap (λ round. concat before ++ round) (append-nil (xs ++ ys))
    ∙ sym (append_assoc (concat before) xs ys)

-- the state of a block before its first byte, and one byte on
state_after-first : (c : Rc4) (n : ℕ) → n ≡ 0 → state_after c n ≡ c
unfolding state_after
state_after-first c n e = rw e refl

state_after-more : (c : Rc4) (m n : ℕ) → m ≡ n + 1 → state_after c m ≡ next_state (state_after c n)
unfolding state_after
state_after-more c m n e = rw (e, add-one) refl

-- at the beginning of a block
pub here_first : (keys : BlockKeys) (p : ℕ) (state : Rc4) → p % 1024 ≡ 0 → state ≡ keyed (block_key keys (p / 1024)) → IsHere (record { keys = keys; state = state; offset = p })
unfolding stream_at
here_first keys p state e h = record {
  same = ap (λ (s : Rc4). record { keys = keys; state = s; offset = p })
      (h ∙ sym (state_after-first (keyed (block_key keys (p / 1024))) (p % 1024) e));
}

-- inside one
pub here_more : (s : KeyStream) (state : Rc4) → IsHere s → state ≡ next_state s.state → (s.offset + 1) % 1024 ≢ 0
    → IsHere (record { keys = s.keys; state = state; offset = s.offset + 1 })
unfolding stream_at
here_more s state e h ne =
    let p = s.offset in
    let block : (p + 1) / 1024 ≡ p / 1024 = omega arith in
    let place : (p + 1) % 1024 ≡ p % 1024 + 1 = omega arith in
    let first = keyed (block_key s.keys (p / 1024)) in
    let before : s.state ≡ state_after first (p % 1024) = ap (λ t. t.state) e.same in record {
      same = ap (λ (t : Rc4). record { keys = s.keys; state = t; offset = p + 1 })
          (h ∙ ap next_state before ∙ sym (state_after-more first ((p + 1) % 1024) (p % 1024) place)
          ∙ ap (λ n. state_after (keyed (block_key s.keys n)) ((p + 1) % 1024)) (sym block));
    }

-- the byte there
pub key_byte-is : (s : KeyStream) (state : Rc4) → IsHere s → state ≡ next_state s.state → output state ≡ key_byte s.keys s.offset
unfolding stream_at key_byte state_after
key_byte-is s state e h = ap output (h ∙ ap (λ t. next_state t.state) e.same)
