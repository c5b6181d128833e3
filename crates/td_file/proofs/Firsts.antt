-- The entries of a trader as a history of accepted changes, and the first of them that isn't accepted.
use Rattle.std.proofs.Common.{◌≡◌, ℕ, false, List, [], ◌∷◌, Result, Ok, Err}
use Rattle.std.proofs.Common.{refl, sym, ap, subst, ◌∙◌}
use Rattle.td_cdr.specs.Reading.{◌>>=◌}
use Rattle.td_changes.specs.Applying.{apply}
use Rattle.td_changes.specs.Histories.{after_all, is_done}
use Rattle.td_lines.specs.Steps.{refusal}
use Rattle.td_lines.specs.declared.cause.LineCause.TheVariants.{Rejected}
use Rattle.td_lines.specs.declared.entry.Numbered.{Numbered}
use Rattle.td_lines.specs.declared.entry.Refused.{Refused}
use Rattle.td_ops.specs.declared.call.Change.{Change}
use Rattle.td_ops.specs.declared.outcome.Outcome.{Outcome}
use Rattle.td_ops.specs.declared.outcome.Outcome.TheVariants.{Done, User, System}
use Rattle.td_ops.specs.declared.outcome.Reply.{Reply}
use Rattle.td_register.specs.Causes.{Effect}
use Rattle.td_register.specs.Entries.{entry}
use Rattle.td_register.specs.Stores.{Store}
use Rattle.td_register.specs.declared.history.Accepted.{Accepted}
use Rattle.td_walk.specs.declared.trace.Address.{Address}
use Rattle.td_file.specs.Laws.{AcceptedEntriesAreDone, AreAccepted, FirstRefusedIsAnswered, IsBehind, IsFirstRefused}
use Rattle.td_file.specs.Laws.{StoresAreBehind, changes_in, changes_of}
use Rattle.td_file.specs.Openings.{behind, change_of, apply_entry, store_after}

-- ---- one entry

record Passes (o : Outcome) (after next : Store) : Type 0 where
  pub content : Reply
  pub same : o ≡ Done content
  pub store : after ≡ next

record Stops (n : ℕ) (o : Outcome) (refused : Refused) : Type 0 where
  pub line : refused ≡ refusal n Rejected
  pub not_done : is_done o ≡ false

abbrev with_outcome : Outcome → Store → Effect
with_outcome o after = record { outcome = o; store = after }

passed : (n : ℕ) (o : Outcome) (after next : Store) → apply_entry n (with_outcome o after) ≡ Ok next → Passes o after next
passed n (Done content) after next e = record { content = content; same = refl; store = cc }
passed n (User x) after next e = absurd (let bad : ⊥ = cc in bad)
passed n (System kind minor completion) after next e = absurd (let bad : ⊥ = cc in bad)

stopped : (n : ℕ) (o : Outcome) (after : Store) (refused : Refused) → apply_entry n (with_outcome o after) ≡ Err refused
    → Stops n o refused
stopped n (Done content) after refused e = absurd (let bad : ⊥ = cc in bad)
stopped n (User x) after refused e = record { line = cc; not_done = refl }
stopped n (System kind minor completion) after refused e = record { line = cc; not_done = refl }

entered-done : (n : ℕ) (a : Effect) (content : Reply) → a.outcome ≡ Done content → apply_entry n a ≡ Ok a.store
entered-done n a content e = ap (λ (o : Outcome). apply_entry n (with_outcome o a.store)) e

-- ---- a history

none-behind : (home : Address) (s after : Store) → s ≡ after → IsBehind home s [] after
unfolding after_all
none-behind home s after e = record { history = []; changes = refl; accepted = tt; store = e }

one-behind : (home : Address) (one : Numbered) (others : List Numbered) (s next after : Store)
    → Passes (apply s (change_of home one.entry)).outcome (apply s (change_of home one.entry)).store next
    → IsBehind home next others after → IsBehind home s (one ∷ others) after
unfolding after_all
one-behind home one others s next after p rest =
    let c = change_of home one.entry in
    record {
      history = entry c p.content ∷ rest.history;
      changes = ap (λ (cs : List Change). c ∷ cs) rest.changes;
      accepted = (p.same, subst (λ (t : Store). AreAccepted t rest.history) (sym p.store) rest.accepted);
      store = ap (λ (t : Store). after_all t rest.history) p.store ∙ rest.store;
    }

passes-one : (home : Address) (s : Store) (one : Numbered) (next : Store) → behind home s one ≡ Ok next
    → Passes (apply s (change_of home one.entry)).outcome (apply s (change_of home one.entry)).store next
passes-one home s one next e =
    let a = apply s (change_of home one.entry) in passed one.line a.outcome a.store next e

behind-step : (home : Address) (one : Numbered) (others : List Numbered) (s after : Store) (content : Result Store Refused)
    → behind home s one ≡ content → (content >>= λ more. store_after home more others) ≡ Ok after
    → ((next : Store) → store_after home next others ≡ Ok after → IsBehind home next others after)
    → IsBehind home s (one ∷ others) after
behind-step home one others s after (Ok next) e h more =
    one-behind home one others s next after (passes-one home s one next e) (more next h)
behind-step home one others s after (Err refused) e h more = absurd (let bad : ⊥ = cc in bad)

behind-all : (home : Address) (entries : List Numbered) (s after : Store) → store_after home s entries ≡ Ok after
    → IsBehind home s entries after
behind-all home [] s after e = none-behind home s after cc
behind-all home (one ∷ others) s after e =
    behind-step home one others s after (behind home s one) refl e
    (λ (next : Store) h. behind-all home others next after h)

pub stores : StoresAreBehind
stores home s entries after e = behind-all home entries s after e

-- ---- and back

done-step : (home : Address) (one : Numbered) (others : List Numbered) (s : Store) (e : Accepted)
    → e.change ≡ change_of home one.entry → (apply s e.change).outcome ≡ Done e.reply
    → store_after home s (one ∷ others) ≡ store_after home (apply s e.change).store others
done-step home one others s e same is =
    let here : behind home s one ≡ Ok (apply s e.change).store =
    ap (λ (c : Change). apply_entry one.line (apply s c)) (sym same)
    ∙ entered-done one.line (apply s e.change) e.reply is in
    ap (λ (content : Result Store Refused). content >>= λ more. store_after home more others) here

done-all : (home : Address) (entries : List Numbered) (s after : Store) (history : List Accepted)
    → changes_in history ≡ changes_of home entries → AreAccepted s history → after_all s history ≡ after
    → store_after home s entries ≡ Ok after
unfolding after_all
done-all home [] s after [] same h e = ap Ok e
done-all home [] s after (x ∷ history) same h e = absurd (let bad : ⊥ = cc in bad)
done-all home (one ∷ others) s after [] same h e = absurd (let bad : ⊥ = cc in bad)
done-all home (one ∷ others) s after (x ∷ history) same h e =
    let first : x.change ≡ change_of home one.entry = cc in
    let rest : changes_in history ≡ changes_of home others = cc in
    done-step home one others s x first h.0 ∙ done-all home others (apply s x.change).store after history rest h.1 e

pub accepted : AcceptedEntriesAreDone
accepted home s entries after h = done-all home entries s after h.history h.changes h.accepted h.store

-- ---- the first refused entry

later-refused : (home : Address) (one : Numbered) (others : List Numbered) (s next : Store) (refused : Refused)
    → behind home s one ≡ Ok next → IsFirstRefused home next others refused
    → IsFirstRefused home s (one ∷ others) refused
later-refused home one others s next refused e rest = record {
  before = one ∷ rest.before;
  one = rest.one;
  later = rest.later;
  here = rest.here;
  parts = ap (λ (ns : List Numbered). one ∷ ns) rest.parts;
  so_far = one-behind home one rest.before s next rest.here (passes-one home s one next e) rest.so_far;
  line = rest.line;
  not_done = rest.not_done;
}

first-step : (home : Address) (one : Numbered) (others : List Numbered) (s : Store) (refused : Refused)
    (content : Result Store Refused) → behind home s one ≡ content
    → (content >>= λ more. store_after home more others) ≡ Err refused
    → ((next : Store) → store_after home next others ≡ Err refused → IsFirstRefused home next others refused)
    → IsFirstRefused home s (one ∷ others) refused
first-step home one others s refused (Ok next) e h more =
    later-refused home one others s next refused e (more next h)
first-step home one others s refused (Err r) e h more =
    let a = apply s (change_of home one.entry) in
    let same : r ≡ refused = cc in
    let stops = stopped one.line a.outcome a.store refused (e ∙ ap Err same) in
    record {
      before = [];
      one = one;
      later = others;
      here = s;
      parts = refl;
      so_far = none-behind home s s refl;
      line = stops.line;
      not_done = stops.not_done;
    }

first-refused : (home : Address) (entries : List Numbered) (s : Store) (refused : Refused)
    → store_after home s entries ≡ Err refused → IsFirstRefused home s entries refused
first-refused home [] s refused e = absurd (let bad : ⊥ = cc in bad)
first-refused home (one ∷ others) s refused e =
    first-step home one others s refused (behind home s one) refl e
    (λ (next : Store) h. first-refused home others next refused h)

pub first : FirstRefusedIsAnswered
first home s entries refused e = first-refused home entries s refused e
