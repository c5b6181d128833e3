-- How a spelling and its reading belong together.
use Rattle.std.specs.Prelude.{◌≡◌, Option, Some}

-- what is read is spelled so, and what is spelled so is read
pub record ReadsWhatIsSpelled {S X : Type 0} (spells : S → X → Type 0) (reading : S → Option X) :
    Type 0 where
  pub found : (source : S) (x : X) → reading source ≡ Some x → spells source x
  pub only : (source : S) (x : X) → spells source x → reading source ≡ Some x
