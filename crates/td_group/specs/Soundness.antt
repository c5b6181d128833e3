-- Traders whose histories are legal from opening stores that were admitted.
use Rattle.std.specs.Coded.{Coded, Coded-set, Unit-prop, le_prop, ×_prop, Π_prop, →_prop}
use Rattle.std.specs.List.{All}
use Rattle.std.specs.Prelude.{ℕ, ◌+◌, List, [], ◌∷◌, slice_index_or}
use Rattle.td_ops.specs.contracts.outcome.Outcome as outcome
use Rattle.td_ops.specs.declared.outcome.Outcome.{Outcome}
use Rattle.td_register.specs.Stores.{Store}
use Rattle.td_register.specs.declared.history.Accepted.{Accepted}
use Rattle.td_changes.specs.Applying.{apply}
use Rattle.td_changes.specs.Histories.{Legal, LegalFrom}
use Rattle.td_changes.specs.declared.bounds.Bounds.{Bounds}
use Rattle.td_trader.specs.PlainTraders.{HasShortReplies, PlainTrader}

-- its history is legal from its opening store on, and that store was admitted
abbrev pub IsLegalTrader : PlainTrader → Type 0
IsLegalTrader t = Legal t.bounds t.opening t.history × HasShortReplies t.opening

-- ---- that it is so can be shown in one way at most

outcome_coded : Coded Outcome
outcome_coded = outcome.the_row.coded

legal_prop : (b : Bounds) (n : ℕ) (s : Store) (history : List Accepted)
    → IsProp (LegalFrom b n s history)
unfolding LegalFrom
legal_prop b n s [] = Unit-prop
legal_prop b n s (e ∷ es) =
    ×_prop (Coded-set outcome_coded _ _) (legal_prop b (n + 1) (apply s e.change).store es)

short_prop : (s : Store) → IsProp (HasShortReplies s)
short_prop s p q = λ i. record {
  stem = le_prop p.stem q.stem i;
  last_offer = le_prop p.last_offer q.last_offer i;
}

sound_prop : (t : PlainTrader) → IsProp (IsLegalTrader t)
sound_prop t = ×_prop (legal_prop t.bounds 0 t.opening t.history) (short_prop t.opening)

pub all_sound_prop : {X : Type 0} (f : X → PlainTrader) (xs : List X)
    → IsProp (All (λ (x : X). IsLegalTrader (f x)) xs)
all_sound_prop {X} f xs =
    Π_prop (λ (k : ℕ). Π_prop (λ (d : X). →_prop (sound_prop (f (slice_index_or xs k d)))))
