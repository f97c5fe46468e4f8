use Rattle.std.proofs.Common.{◌≡◌, ◌++◌, ◌∷◌, [], map, drop}
use Rattle.xls_passwords.specs.Opening.{first_key, default_password}
use Rattle.xls_passwords.proofs.opening.key_among.Given as goal

-- the key among the passwords left is that among all
abbrev pub invariant-passwords : goal.invariant-passwords
invariant-passwords l =
    first_key l.scheme (map (λ p. p.now) (drop l.password-index l.passwords) ++ default_password ∷ []) ≡ first_key l.scheme (map (λ p. p.now) l.passwords ++ default_password ∷ [])
