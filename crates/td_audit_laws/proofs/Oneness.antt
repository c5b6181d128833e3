-- A log has one verdict.
use Rattle.std.proofs.Common.{◌≡◌, ℕ, ◌+◌, List, [], ◌∷◌, slice_get, Option, None, Some, Result, Ok, Err, refl, sym, ap}
use Rattle.std.proofs.Common.{subst, ◌∙◌}
use Rattle.td_audit.specs.Auditing.{HasVerdict, ChangedAs, ChangedIn, ComparesReply, EndedIn, Happens, AuditsLine}
use Rattle.td_audit.specs.Auditing.{LookedIn}
use Rattle.td_audit.specs.Auditing.{RepliedIn, AuditState, asked_of, fails, names_of, opening_of, over, passes, state}
use Rattle.td_audit.specs.Auditing.{strange}
use Rattle.td_audit.specs.Links.{register_of}
use Rattle.td_audit.specs.declared.asked.AskedQuery.{AskedQuery}
use Rattle.td_audit.specs.declared.verdict.Cause.{Cause}
use Rattle.td_audit.specs.declared.verdict.Cause.TheVariants.{Net, Refused, Differs, NotEnded}
use Rattle.td_audit.specs.declared.verdict.Verdict.{Verdict}
use Rattle.td_audit.specs.declared.verdict.Verdict.TheVariants as verdict
use Rattle.td_audit_laws.specs.Laws.{VerdictsAreOne}
use Rattle.td_log.specs.Lines.{line_of}
use Rattle.td_log.specs.Words.{lines_of}
use Rattle.td_log.specs.declared.line.Line.{Line}
use Rattle.td_log.specs.declared.line.Line.TheVariants as line
use Rattle.td_log.specs.declared.message.Recorded.{Recorded}
use Rattle.td_log.specs.declared.message.ReplyForm.{ReplyForm}
use Rattle.td_net.specs.Schedules.{over as ended, then}
use Rattle.td_net.specs.Worlds.{World, Becomes, step_of, visit_at}
use Rattle.td_net.specs.declared.event.Event.{Event}
use Rattle.td_net.specs.declared.event.Event.TheVariants as event
use Rattle.td_net.specs.declared.event.NetFault.{NetFault}
use Rattle.td_net_laws.specs.Premises.{RunsAreOne}
use Rattle.td_ops.specs.declared.call.Change.{Change}
use Rattle.td_ops.specs.declared.call.Look.{Look}
use Rattle.td_ops.specs.declared.outcome.Outcome.{Outcome}
use Rattle.td_ops.specs.declared.outcome.Outcome.TheVariants.{Done, User, System}
use Rattle.td_servant.specs.Linking.{link_change}
use Rattle.td_trader.specs.PlainTraders.{PlainTrader, outcome_of}
use Rattle.td_walk.specs.declared.trace.Address.{Address}
use Rattle.td_walk.specs.declared.trace.Visit.{Visit}

module _ (runs : RunsAreOne) where
  becomes-one : (w u v : World) (e : Event) → Becomes w (step_of w e) u → Becomes w (step_of w e) v → u ≡ v
  becomes-one w u v e a b = runs w u v (e ∷ []) (then a ended) (then b ended)

  state-one : (s t : AuditState) → s.net ≡ t.net → s.asked ≡ t.asked → s ≡ t
  state-one s t n a = ap (λ (w : World). state w s.asked) n ∙ ap (state t.net) a

  -- ---- two judgements of one line agree

  happens-one : (s : AuditState) (e : Event) (asked : List AskedQuery) (r q : Result AuditState Cause) → Happens s e asked r
      → Happens s e asked q → r ≡ q
  happens-one s e asked (Ok t) (Ok u) h k =
      ap Ok (state-one t u (becomes-one s.net t.net u.net e h.1 k.1) (h.2 ∙ sym k.2))
  happens-one s e asked (Ok t) (Err (Net f)) h k =
      absurd (let no : ◌≡◌ {A = Option NetFault} None (Some f) = sym h.0 ∙ k in cc)
  happens-one s e asked (Ok t) (Err Refused) h k = absurd k
  happens-one s e asked (Ok t) (Err Differs) h k = absurd k
  happens-one s e asked (Ok t) (Err NotEnded) h k = absurd k
  happens-one s e asked (Err (Net f)) (Ok u) h k =
      absurd (let no : ◌≡◌ {A = Option NetFault} None (Some f) = sym k.0 ∙ h in cc)
  happens-one s e asked (Err (Net f)) (Err (Net g)) h k =
      let same : ◌≡◌ {A = Option NetFault} (Some f) (Some g) = sym h ∙ k in let fg : f ≡ g = cc in
      ap (λ (x : NetFault). Err (Net x)) fg
  happens-one s e asked (Err (Net f)) (Err Refused) h k = absurd k
  happens-one s e asked (Err (Net f)) (Err Differs) h k = absurd k
  happens-one s e asked (Err (Net f)) (Err NotEnded) h k = absurd k
  happens-one s e asked (Err Refused) q h k = absurd h
  happens-one s e asked (Err Differs) q h k = absurd h
  happens-one s e asked (Err NotEnded) q h k = absurd h

  compared-one : (s : AuditState) (right : Type 0) (r q : Result AuditState Cause) → ComparesReply s right r → ComparesReply s right q
      → r ≡ q
  compared-one s right (Ok t) (Ok u) h k = ap Ok (h.1 ∙ sym k.1)
  compared-one s right (Ok t) (Err c) h k = absurd (k.0 h.0)
  compared-one s right (Err c) (Ok u) h k = absurd (h.0 k.0)
  compared-one s right (Err c) (Err d) h k = ap Err (h.1 ∙ sym k.1)

  same-as : (r q x : Result AuditState Cause) → r ≡ x → q ≡ x → r ≡ q
  same-as r q x a b = a ∙ sym b

  changed-as-one : (s : AuditState) (n : ℕ) (c : Change) (form : ReplyForm) (reply : Recorded) (o : Outcome)
      (r q : Result AuditState Cause) → ChangedAs s (event.Change n c) form reply o r
      → ChangedAs s (event.Change n c) form reply o q → r ≡ q
  changed-as-one s n c form reply (Done content) (Ok t) (Ok u) h k =
      ap Ok (state-one t u (becomes-one s.net t.net u.net (event.Change n c) h.1 k.1) (h.2 ∙ sym k.2))
  changed-as-one s n c form reply (Done content) (Ok t) (Err e) h k = absurd (k.0 h.0)
  changed-as-one s n c form reply (Done content) (Err e) (Ok u) h k = absurd (h.0 k.0)
  changed-as-one s n c form reply (Done content) (Err e) (Err f) h k = ap Err (h.1 ∙ sym k.1)
  changed-as-one s n c form reply (User x) r q h k = same-as r q _ h k
  changed-as-one s n c form reply (System kind minor completion) r q h k = same-as r q _ h k

  changed-in-one : (s : AuditState) (n : ℕ) (form : ReplyForm) (c : Change) (reply : Recorded) (o : Option PlainTrader)
      (r q : Result AuditState Cause) → ChangedIn s n form c reply o r → ChangedIn s n form c reply o q → r ≡ q
  changed-in-one s n form c reply None r q h k = same-as r q _ h k
  changed-in-one s n form c reply (Some t) r q h k = changed-as-one s n c form reply (outcome_of t c) r q h k

  looked-in-one : (s : AuditState) (form : ReplyForm) (l : Look) (reply : Recorded) (o : Option PlainTrader)
      (r q : Result AuditState Cause) → LookedIn s form l reply o r → LookedIn s form l reply o q → r ≡ q
  looked-in-one s form l reply None r q h k = same-as r q _ h k
  looked-in-one s form l reply (Some t) r q h k = compared-one s _ r q h k

  ended-in-one : (s : AuditState) (a : AskedQuery) (reply : Recorded) (o : Option Visit) (r q : Result AuditState Cause)
      → EndedIn s a reply o r → EndedIn s a reply o q → r ≡ q
  ended-in-one s a reply None r q h k = same-as r q _ h k
  ended-in-one s a reply (Some v) r q h k = compared-one s _ r q h k

  replied-in-one : (s : AuditState) (c : ℕ) (reply : Recorded) (o : Option AskedQuery) (r q : Result AuditState Cause)
      → RepliedIn s c reply o r → RepliedIn s c reply o q → r ≡ q
  replied-in-one s c reply None r q h k = same-as r q _ h k
  replied-in-one s c reply (Some a) r q h k = ended-in-one s a reply (visit_at s.net.calls c) r q h k

  judged-one : (home : Address) (names : List (List ℕ)) (s : AuditState) (l : Line) (r q : Result AuditState Cause)
      → AuditsLine home names s l r → AuditsLine home names s l q → r ≡ q
  judged-one home names s (line.Change n form c reply) r q h k =
      changed-in-one s n form c reply (slice_get s.net.traders n) r q h k
  judged-one home names s (line.AddLink n form l reply) r q h k =
      changed-in-one s n form (link_change l (register_of home names l.target)) reply (slice_get s.net.traders n) r q
      h k
  judged-one home names s (line.Look n form l reply) r q h k =
      looked-in-one s form l reply (slice_get s.net.traders n) r q h k
  judged-one home names s (line.Ask n form x) r q h k = happens-one s (event.Ask n x) _ r q h k
  judged-one home names s (line.Deliver c) r q h k = happens-one s (event.Deliver c) _ r q h k
  judged-one home names s (line.Value c v) r q h k = happens-one s (event.Value c v) _ r q h k
  judged-one home names s (line.Answer c) r q h k = happens-one s (event.Answer c) _ r q h k
  judged-one home names s (line.Lose c) r q h k = happens-one s (event.Lose c) _ r q h k
  judged-one home names s (line.Reply c reply) r q h k = replied-in-one s c reply (asked_of c s.asked) r q h k

  same-line : (names : List (List ℕ)) (first : List ℕ) (l m : Line) → line_of names first ≡ Some l
      → line_of names first ≡ Some m → l ≡ m
  same-line names first l m a b = let e : ◌≡◌ {A = Option Line} (Some l) (Some m) = sym a ∙ b in cc

  no-line : (names : List (List ℕ)) (first : List ℕ) (l : Line) → line_of names first ≡ None
      → line_of names first ≡ Some l → ⊥
  no-line names first l a b = let e : ◌≡◌ {A = Option Line} None (Some l) = sym a ∙ b in cc

  same-judgement : (home : Address) (names : List (List ℕ)) (s : AuditState) (first : List ℕ) (l m : Line)
      (r q : Result AuditState Cause) → line_of names first ≡ Some l → line_of names first ≡ Some m
      → AuditsLine home names s l r → AuditsLine home names s m q → r ≡ q
  same-judgement home names s first l m r q a b h k =
      judged-one home names s l r q h
      (subst (λ (z : Line). AuditsLine home names s z q) (sym (same-line names first l m a b)) k)

  audited-one : (home : Address) (names : List (List ℕ)) (s : AuditState) (n : ℕ) (lines : List (List ℕ)) (v u : Verdict)
      → HasVerdict home names s n lines v → HasVerdict home names s n lines u → v ≡ u
  audited-one home names s n [] v u over over = refl
  audited-one home names s n (first ∷ rest) v u (strange a) (strange b) = refl
  audited-one home names s n (first ∷ rest) v u (strange a) (fails {l = m} b k) = absurd (no-line names first m a b)
  audited-one home names s n (first ∷ rest) v u (strange a) (passes {l = m} b k y) = absurd (no-line names first m a b)
  audited-one home names s n (first ∷ rest) v u (fails {l = l} a h) (strange b) = absurd (no-line names first l b a)
  audited-one home names s n (first ∷ rest) v u (fails {l = l} {cause = c} a h) (fails {l = m} {cause = d} b k) =
      let e : ◌≡◌ {A = Result AuditState Cause} (Err c) (Err d) =
      same-judgement home names s first l m (Err c) (Err d) a b h k
      in let same : c ≡ d = cc in ap (verdict.No (n + 1)) same
  audited-one home names s n (first ∷ rest) v u (fails {l = l} {cause = c} a h) (passes {t = t} {l = m} b k y) =
      absurd (let e : ◌≡◌ {A = Result AuditState Cause} (Err c) (Ok t) =
      same-judgement home names s first l m (Err c) (Ok t) a b h k in cc)
  audited-one home names s n (first ∷ rest) v u (passes {l = l} a h x) (strange b) = absurd (no-line names first l b a)
  audited-one home names s n (first ∷ rest) v u (passes {t = t} {l = l} a h x) (fails {l = m} {cause = d} b k) =
      absurd (let e : ◌≡◌ {A = Result AuditState Cause} (Ok t) (Err d) =
      same-judgement home names s first l m (Ok t) (Err d) a b h k in cc)
  audited-one home names s n (first ∷ rest) v u (passes {t = t} {l = l} a h x) (passes {t = z} {l = m} b k y) =
      let e : ◌≡◌ {A = Result AuditState Cause} (Ok t) (Ok z) = same-judgement home names s first l m (Ok t) (Ok z) a b h k
      in let same : z ≡ t = cc in
      audited-one home names t (n + 1) rest v u x
      (subst (λ (p : AuditState). HasVerdict home names p (n + 1) rest u) same y)

  pub verdicts-one : VerdictsAreOne
  verdicts-one traders home log v u a b =
      audited-one home (names_of traders) _ (opening_of (lines_of log)).number (opening_of (lines_of log)).lines v u a b
