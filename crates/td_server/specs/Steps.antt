-- What a service does from one call to the next, beside what is seen of it.
use Rattle.std.specs.Prelude.{◌≡◌, ℕ, Bool}

-- a session begins, whatever its number is
abbrev pub BeginsSession : {F P : Type 0} → (F → P → F → Type 0) → F → ℕ → P → F → Type 0
BeginsSession begins a number p b = begins a p b

-- no visitor is left
abbrev pub Stays : {F : Type 0} → F → F → Type 0
Stays a b = b ≡ a

-- what is left of a pass, and whether the thread that takes the visitors in served its session
abbrev pub PassLeft : Type 0 → Type 0
PassLeft Q = Q × Bool

abbrev pub KeepsSame : {P Q : Type 0} → (P → Q → Type 0) → P → PassLeft Q → Type 0
KeepsSame same p q = same p q.0

abbrev pub served_here : {Q : Type 0} → PassLeft Q → Bool
served_here q = q.1

-- a session ends, whatever its number is
abbrev pub EndsSession : {F Q : Type 0} → (F → Q → F → Type 0) → F → ℕ → PassLeft Q → F → Type 0
EndsSession ends a number q b = ends a q.0 b
