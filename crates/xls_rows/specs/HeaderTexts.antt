-- Headers by their texts.
use Rattle.std.specs.Prelude.{ℕ, List, map, Option, String, Vec}
use Rattle.std.specs.Borrow.{Bor}
use Rattle.std.specs.Option.{option_map}
use Rattle.std.specs.String.{string_bytes}
use Rattle.std.specs.declared.alloc.Global.{Global}

-- the texts of headers, where there are headers
abbrev pub header_texts : Option (Bor (List (String Global))) → Option (List (List ℕ))
header_texts headers = option_map (λ hs. map string_bytes hs.now) headers

-- the same of headers that are owned
abbrev pub owned_texts : Option (Vec (String Global) Global) → Option (List (List ℕ))
owned_texts headers = option_map (λ v. map string_bytes v.items) headers
