-- Worked examples: the history of a trader at which two sessions made one change each, and what is refused.
use Rattle.std.specs.Prelude.{ℕ, List, [], ◌∷◌, codes}
use Rattle.td_ops.specs.declared.call.Call.TheVariants as call
use Rattle.td_ops.specs.declared.call.Change.{Change}
use Rattle.td_ops.specs.declared.call.Change.TheVariants as change
use Rattle.td_ops.specs.declared.outcome.Outcome.TheVariants.{Done}
use Rattle.td_ops.specs.declared.outcome.Reply.TheVariants.{Nothing}
use Rattle.td_register.specs.Entries.{entry}
use Rattle.td_register.specs.declared.history.Accepted.{Accepted}
use Rattle.td_servant.specs.declared.entry.Entry.TheVariants.{Point}
use Rattle.td_servant.specs.declared.judging.Judged.TheVariants.{Call}
use Rattle.td_sessions_laws.specs.OneHistory.{IsMadeOnce, MakesEntry, SessionRequest, request_in}
use Rattle.td_session_runs.specs.Examples.{repository}
use Rattle.td_session_runs.specs.Turns.{ServedRequest}

abbrev pub mask : List ℕ → Change
mask name = change.MaskType name

-- the first trader's type of this name is masked, as this entry of its history
abbrev pub mask_entry : List ℕ → ℕ → ServedRequest
mask_entry name place = record {
  judged = Call repository (call.Change (mask name));
  outcome = Done Nothing;
  entry = Point 0 place;
}

-- session 1 has masked the type T, and session 2 then U
abbrev pub by_one : SessionRequest
by_one = request_in 1 (mask_entry (codes "T") 0)

abbrev pub by_two : SessionRequest
by_two = request_in 2 (mask_entry (codes "U") 1)

abbrev pub one_entry : List Accepted
one_entry = entry (mask (codes "T")) Nothing ∷ []

abbrev pub two_entries : List Accepted
two_entries = entry (mask (codes "T")) Nothing ∷ entry (mask (codes "U")) Nothing ∷ []

pub record WorkedEntries : Type 0 where
  -- each entry is one session's, in whatever order the sessions were handed on
  pub first : IsMadeOnce two_entries 0 0 (by_one ∷ by_two ∷ [])
  pub second : IsMadeOnce two_entries 0 1 (by_one ∷ by_two ∷ [])
  pub handed_on_later : IsMadeOnce two_entries 0 0 (by_two ∷ by_one ∷ [])
  -- two sessions have noted one change
  pub twice : IsMadeOnce one_entry 0 0 (by_one ∷ request_in 2 (mask_entry (codes "T") 0) ∷ []) → ⊥
  -- no session has made the second entry
  pub by_nobody : IsMadeOnce two_entries 0 1 (by_one ∷ []) → ⊥
  -- the change stands at another place, or another change at its place
  pub elsewhere : MakesEntry two_entries 0 0 (mask_entry (codes "U") 0) → ⊥
