-- The trader of a name, as it is found by its position.
use Rattle.std.proofs.Common.{◌≡◌, ℕ, suc, ◌+◌, ◌<◌, Bool, true, false, cond, not, List, [], ◌∷◌, length, map}
use Rattle.std.proofs.Common.{nat_lt, refl}
use Rattle.std.proofs.Common.{ap, ◌∙◌, arith, if◌then◌else◌}
use Rattle.std.proofs.lemmas.Bool.Decides.{nat_tests}
use Rattle.std.specs.List.{position, position_or_len}
use Rattle.std.specs.Option.{option_map}
use Rattle.std.specs.Prelude.{Option, None, Some}
use Rattle.std.specs.Str.{bytes_eq}
use Rattle.td_net.specs.Worlds.{is_named}
use Rattle.td_targets.specs.Targets.{place_of}
use Rattle.td_trader.specs.PlainTraders.{PlainTrader}
use Rattle.td_trader.specs.Solos.{solo_view}

next-found : (b : Bool) (n : ℕ) → cond b (Some (1 + n)) None ≡ option_map suc (cond b (Some n) None)
next-found true n = let e : 1 + n ≡ suc n = omega arith in ap Some e
next-found false n = refl

one-more : (l n : ℕ) (b : Bool) → nat_lt l n ≡ b → nat_lt (1 + l) (suc n) ≡ b
one-more l n true h = grind (arith, nat_tests)
one-more l n false h = grind (arith, nat_tests)

first : (n : ℕ) → nat_lt 0 (suc n) ≡ true
first n = let e : 0 < suc n = omega arith in grind (arith, nat_tests)

step : (b : Bool) (l n : ℕ) (r : Option ℕ) → cond (nat_lt l n) (Some l) None ≡ r
    → cond (nat_lt (cond (not b) (1 + l) 0) (suc n)) (Some (cond (not b) (1 + l) 0)) None
    ≡ (if b then Some 0 else option_map suc r)
step true l n r h = ap (λ b. cond b (Some 0) None) (first n)
step false l n r h =
    ap (λ b. cond b (Some (1 + l)) None) (one-more l n (nat_lt l n) refl)
    ∙ (next-found (nat_lt l n) l ∙ ap (option_map suc) h)

pub place_by_position : (name : List ℕ) (ts : List PlainTrader)
    → position (is_named name) ts ≡ place_of (map solo_view ts) name
unfolding place_of
place_by_position name [] = refl
place_by_position name (t ∷ ts) =
    step (bytes_eq t.name name) (position_or_len (is_named name) ts) (length ts) (place_of (map solo_view ts) name)
    (place_by_position name ts)
