-- Whether bytes are held.
use Rattle.std.proofs.Common.{◌≡◌, ◌∙◌, ℕ, ◌<◌, Bool, true, false, true≢false, not, List, [], ◌∷◌, length, Option, Some}
use Rattle.std.proofs.Common.{None, Result, Ok, Err, is_some, refl, sym, ap, arith}
use Rattle.std.specs.Prelude.{◌↔◌, IsTrue, SomeIff}
use Rattle.td_giop.specs.FramerLends.{IsRaw}
use Rattle.td_giop.specs.Header.{header_at}
use Rattle.td_giop.specs.Stream.{IsInside, Stream, first_at}
use Rattle.td_giop.specs.declared.fault.FrameFault.{FrameFault}
use Rattle.td_giop.specs.declared.raw.Raw.{Raw}

nothing_first : (limit : ℕ) → first_at limit [] ≡ Ok None
unfolding first_at header_at
nothing_first limit = refl

held_some : (s : Stream) (r : Result (Option ℕ) FrameFault) → first_at s.limit s.rest ≡ r → (r ≡ Ok None → ⊥)
    → IsTrue false ↔ (s.rest ≡ [])
held_some s r is some = (
  λ e. absurd (true≢false (sym e)),
  λ none. absurd (some (sym is ∙ ap (first_at s.limit) none ∙ nothing_first s.limit)),
)

pub bad_held : (s : Stream) (f : FrameFault) → first_at s.limit s.rest ≡ Err f → IsTrue false ↔ (s.rest ≡ [])
bad_held s f is = held_some s (Err f) is (λ e. cc)

pub whole_held : (s : Stream) (m : Raw) → IsRaw s m → IsTrue false ↔ (s.rest ≡ [])
whole_held s m raw = held_some s (Ok (Some (length m.bytes.now))) raw.whole (λ e. cc)

empty : (xs : List ℕ) → (0 < length xs → ⊥) → xs ≡ []
empty [] h = refl
empty (x ∷ xs) h = absurd (h (omega arith))

some_not_none : (xs : List ℕ) → 0 < length xs → xs ≡ [] → ⊥
some_not_none xs some none = let size = ap (length {A = ℕ}) none in omega (arith, some, size)

-- where no message is whole, none began
pub none_held : (s : Stream) (o : Option ℕ) (b : Bool) → first_at s.limit s.rest ≡ Ok None
    → SomeIff o (IsInside s) s.start → is_some o ≡ not b → IsTrue b ↔ (s.rest ≡ [])
none_held s None true none inside is =
    (λ e. empty s.rest (λ some. inside (record { began = some; goes_on = none })), λ e. refl)
none_held s None false none inside is = absurd (true≢false (sym is))
none_held s (Some n) true none inside is = absurd (true≢false is)
none_held s (Some n) false none inside is =
    (λ e. absurd (true≢false (sym e)), λ e. absurd (some_not_none s.rest inside.0.began e))
