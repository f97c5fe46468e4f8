use Rattle.std.proofs.Common.{◌≡◌, ◌++◌, drop, map}
use Rattle.xls_tool.proofs.unlock.PasswordList.slices.Given as goal

-- the slices so far, with the passwords left, are all
abbrev pub invariant-passwords : goal.invariant-passwords
invariant-passwords l =
    map (λ password. password.now) l.slices.items ++ map (λ password. password.items) (drop l.password-index l.all)
    ≡ map (λ password. password.items) l.all
