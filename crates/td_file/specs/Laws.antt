-- What holds of the entries of every trader: they are changes that are accepted one after the other, up to the first
-- that is refused.
use Rattle.std.specs.Prelude.{◌≡◌, false, List, [], ◌∷◌, ◌++◌, map, Ok, Err}
use Rattle.td_changes.specs.Applying.{apply}
use Rattle.td_changes.specs.Histories.{after_all, is_done}
use Rattle.td_lines.specs.Steps.{refusal}
use Rattle.td_lines.specs.declared.cause.LineCause.TheVariants.{Rejected}
use Rattle.td_lines.specs.declared.entry.Numbered.{Numbered}
use Rattle.td_lines.specs.declared.entry.Refused.{Refused}
use Rattle.td_ops.specs.declared.call.Change.{Change}
use Rattle.td_ops.specs.declared.outcome.Outcome.TheVariants.{Done}
use Rattle.td_register.specs.Stores.{Store}
use Rattle.td_register.specs.declared.history.Accepted.{Accepted}
use Rattle.td_walk.specs.declared.trace.Address.{Address}
use Rattle.td_file.specs.Openings.{change_of, store_after}

-- the changes that the entries ask for
abbrev pub changes_of : Address → List Numbered → List Change
changes_of home entries = map (λ (one : Numbered). change_of home one.entry) entries

abbrev pub changes_in : List Accepted → List Change
changes_in history = map (λ (e : Accepted). e.change) history

-- each change is accepted with its reply at the store behind those before it; none is counted
abbrev pub AreAccepted : Store → List Accepted → Type 0
AreAccepted s [] = Unit {0}
AreAccepted s (e ∷ es) = ((apply s e.change).outcome ≡ Done e.reply)
    × AreAccepted (apply s e.change).store es

-- the store is the one behind a history of these entries' changes
pub record IsBehind (home : Address) (s : Store) (entries : List Numbered)
    (after : Store) : Type 0 where
  pub history : List Accepted
  pub changes : changes_in history ≡ changes_of home entries
  pub accepted : AreAccepted s history
  pub store : after_all s history ≡ after

-- The entries before it are accepted, and its own operation refuses this one.
pub record IsFirstRefused (home : Address) (s : Store) (entries : List Numbered)
    (refused : Refused) : Type 0 where
  pub before : List Numbered
  pub one : Numbered
  pub later : List Numbered
  pub here : Store
  pub parts : entries ≡ before ++ one ∷ later
  pub so_far : IsBehind home s before here
  pub line : refused ≡ refusal one.line Rejected
  pub not_done : is_done (apply here (change_of home one.entry)).outcome ≡ false

-- ---- of every trader

abbrev pub StoresAreBehind : Type 0
StoresAreBehind =
    (home : Address) (s : Store) (entries : List Numbered) (after : Store)
    → store_after home s entries ≡ Ok after → IsBehind home s entries after

abbrev pub AcceptedEntriesAreDone : Type 0
AcceptedEntriesAreDone =
    (home : Address) (s : Store) (entries : List Numbered) (after : Store)
    → IsBehind home s entries after → store_after home s entries ≡ Ok after

abbrev pub FirstRefusedIsAnswered : Type 0
FirstRefusedIsAnswered =
    (home : Address) (s : Store) (entries : List Numbered) (refused : Refused)
    → store_after home s entries ≡ Err refused → IsFirstRefused home s entries refused
