-- What becomes of texts, each of an item, that are put into a writer one after another.
use Rattle.std.specs.Prelude.{◌≡◌, ℕ, List, [], ◌∷◌, ◌++◌, take, Result, MatchResult}
use Rattle.std.specs.String.{string_bytes}
use Rattle.xls_output.specs.SinkState.{SinkState}
use Rattle.xls_output.specs.Gathering.{Stops, Wrote}
use Rattle.xls_output.specs.Output.{Output, Buffers, GivesUp, output_of}
use Rattle.xls_output.specs.declared.stop.Stop.{Stop}
use Rattle.xls_output.specs.declared.writer.Writer.{Writer}
use Rattle.xls_output.specs.declared.text.OutputText.{OutputText}

-- the sink of a writer, and the text that is kept for it
abbrev pub text_output : {K : Type 0} → (K → SinkState) → Writer K OutputText → Output
text_output state out = output_of state (λ (buffer : OutputText). string_bytes buffer.text) out

-- texts one after another, each of which P holds of its item
abbrev pub Concatenates : {X : Type 0} → (X → List ℕ → Type 0) → List X → List ℕ → Type 0
Concatenates P [] text = text ≡ []
Concatenates P (x ∷ xs) text =
    (first : List ℕ) × (others : List ℕ) × P x first × Concatenates P xs others × (text ≡ first ++ others)

-- the texts of all items, one after another, were gathered
pub record GathersEach {A : Type 0} (IsText : A → List ℕ → Type 0) (items : List A) (before after : Output) : Type 0 where
  pub text : List ℕ
  pub texts : Concatenates IsText items text
  pub gathers : Buffers before after text

-- a prefix of what was kept and of the texts of the first so many items was written, and then it was given up
pub record GivesUpEach {A : Type 0} (IsText : A → List ℕ → Type 0) (items : List A) (before after : Output) (e : Stop) : Type 0 where
  pub count : ℕ
  pub text : List ℕ
  pub texts : Concatenates IsText (take count items) text
  pub stops : GivesUp before after text e

-- either of them
abbrev pub PutsEach : {A X : Type 0} → (A → List ℕ → Type 0) → List A → Output → Output → Result X Stop → Type 0
PutsEach IsText items before after result =
    MatchResult result (λ _. GathersEach IsText items before after) (GivesUpEach IsText items before after)

-- ---- whole texts

-- the texts of all items were written
pub record WroteEach {A : Type 0} (IsText : A → List ℕ → Type 0) (items : List A) (before after : SinkState) : Type 0 where
  pub text : List ℕ
  pub texts : Concatenates IsText items text
  pub wrote : Wrote before after text

-- a prefix of the texts of the first so many items was written, and then it was given up
pub record StopsEach {A : Type 0} (IsText : A → List ℕ → Type 0) (items : List A) (before after : SinkState) (e : Stop) : Type 0 where
  pub count : ℕ
  pub text : List ℕ
  pub texts : Concatenates IsText (take count items) text
  pub stops : Stops before [] after text e

-- either of them
abbrev pub DeliversEach : {A X : Type 0} → (A → List ℕ → Type 0) → List A → SinkState → SinkState → Result X Stop → Type 0
DeliversEach IsText items before after result =
    MatchResult result (λ _. WroteEach IsText items before after) (StopsEach IsText items before after)
