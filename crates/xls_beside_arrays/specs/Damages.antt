-- Damaged records.
use Rattle.std.specs.Prelude.{ℕ, List, Option, Some, None}
use Rattle.xls_arrays.specs.declared.items.Span.{Span}
use Rattle.xls_beside_arrays.specs.Arrays.{Arrays, after_text, with_damage_item}
use Rattle.xls_beside_arrays.specs.declared.damage.Damaged.{Damaged}
use Rattle.xls_beside_arrays.specs.declared.items.DamageItem.{DamageItem}

-- a row or a column that may not be known
abbrev pub number_or_unknown : Option ℕ → ℕ
number_or_unknown None = 0xFFFFFFFF
number_or_unknown (Some n) = n

abbrev pub damage_item : Damaged → Span → DamageItem
damage_item d why =
    record {
      offset = d.offset;
      why = why;
      row = number_or_unknown d.row;
      column = number_or_unknown d.column;
      record_type = d.record_type;
      reserved = 0;
    }

-- the sentence that says what is wrong, and the item
abbrev pub with_damage : {X : Type 0} → Arrays X → Damaged → List ℕ → Arrays X
with_damage a d why = after_text (λ span b. with_damage_item b (damage_item d span)) why a
