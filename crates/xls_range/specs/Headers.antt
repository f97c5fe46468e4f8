-- Texts that are printed.
use Rattle.std.specs.Prelude.{◌≡◌, ℕ, Option, IfSome, List, String}
use Rattle.std.specs.String.{string_bytes}
use Rattle.std.specs.declared.alloc.Global.{Global}

-- the text is what the value prints, where the type tells that
abbrev pub Prints : {T : Type 0} → (T → Option (List ℕ)) → T → String Global → Type 0
Prints output value text = IfSome (output value) (λ bytes. string_bytes text ≡ bytes)
