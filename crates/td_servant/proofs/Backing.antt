-- What can be taken back where a reply is still to be written.
use Rattle.std.proofs.Common.{◌≡◌, ℕ, true, List, refl, sym, subst, IfOk}
use Rattle.std.specs.Prelude.{Result, Ok, Err}
use Rattle.td_cdr.specs.Marks.{Marks}
use Rattle.td_cdr.specs.declared.memory.Memory.{Memory}
use Rattle.td_ops.specs.Outcomes.{is_short}
use Rattle.td_ops.specs.declared.call.Change.{Change}
use Rattle.td_ops.specs.declared.outcome.Outcome.{Outcome}
use Rattle.td_ops.specs.declared.outcome.Outcome.TheVariants.{Done, User, System}
use Rattle.td_register.specs.declared.history.Accepted.{Accepted}
use Rattle.td_trader.specs.PlainTraders.{HasShortReplies}
use Rattle.td_trader.specs.Worlds.{AdmittedAt, AdmittedIn, ChangesTrader, View, Watches, after_own}
use Rattle.td_servant.proofs.Seen.{slice_behind}
use Rattle.td_servant.proofs.Shortness.{short}
use Rattle.td_servant.proofs.Standing.{refused}
use Rattle.td_servant.specs.Answers.{IfLong}
use Rattle.td_servant.specs.declared.answer.ReplyBody.{ReplyBody}
use Rattle.td_servant.specs.declared.answer.ReplyBody.TheVariants.{Written}
use Rattle.td_servant.specs.declared.answer.ReplyBody.TheVariants as reply_body

pub short_back : (o : Outcome) (P : Type 0) → is_short o ≡ true → IfLong (reply_body.Outcome o) P
short_back o P short long = absurd (let bad : ⊥ = cc in bad)

pub written_back : (r : Result ReplyBody Memory) (P : Type 0) → IfOk r (λ b. b ≡ Written)
    → IfOk r (λ b. IfLong b P)
written_back (Ok b) P e = subst (λ (x : ReplyBody). IfLong x P) (sym e) tt
written_back (Err m) P e = tt

module _ (others : List Accepted → Type 0) (later : Marks → Marks → Type 0) where
  -- the opening store of a trader whose change was accepted
  opens : (w u : List View) (k : ℕ) (c : Change) (o : Outcome) (r : ChangesTrader others later w k c o u) → AdmittedAt u k
      → HasShortReplies (after_own r.seen c o).opening
  opens w u k c o r admitted =
      subst AdmittedIn (slice_behind w u k r.meanwhile.view (after_own r.seen c o) r.meanwhile.is r.world) admitted

  -- a change with a long outcome isn't accepted
  pub change_back : (w u : List View) (k : ℕ) (c : Change) (o : Outcome) → ChangesTrader others later w k c o u
      → AdmittedAt u k → IfLong (reply_body.Outcome o) (Watches others later w k u)
  change_back w u k c (Done content) r admitted long =
      let seen = r.seen in
      let fits : is_short (Done content) ≡ true =
      short seen.bounds seen.opening seen.history c content (opens w u k c (Done content) r admitted) (sym r.outcome) in
      absurd (let bad : ⊥ = cc in bad)
  change_back w u k c (User f) r admitted long = refused others later w u k c (User f) r refl
  change_back w u k c (System kind minor completion) r admitted long =
      refused others later w u k c (System kind minor completion) r refl
