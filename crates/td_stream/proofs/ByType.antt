-- What a message to a server asks for, by its type.
use Rattle.std.proofs.Common.{◌≡◌, ◌≢◌, ◌⊎◌, ℕ, ◌<◌, ◌≤◌, Bool, true, false, eqb, List, Result, Ok, Err, IsOk, inl, inr}
use Rattle.std.proofs.Common.{refl, arith}
use Rattle.std.proofs.lemmas.Bool.{eqb-true, eqb-false, ne_eqb}
use Rattle.td_cdr.specs.declared.fault.CdrFault.{CdrFault}
use Rattle.td_cdr.specs.Place.{At}
use Rattle.td_giop.specs.Heads.{Request, request_at, locate_at, cancel_at}
use Rattle.td_giop.proofs.Cond.{cond_case}
use Rattle.td_stream.specs.Messages.{IsForServer, behind, is_closing, kind_of, minor_of}
use Rattle.td_stream.specs.declared.end.Cause.{Cause}
use Rattle.td_stream.specs.declared.end.Cause.TheVariants.{NotForServer}
use Rattle.td_stream.specs.Steps.{MessageStep, answers, closes, breaks, step_of, request_step, cancel_step, locate_step}

-- what holds of the steps of each type of message holds of the step
by_type : (P : MessageStep → Type 0) (m : List ℕ) → (kind_of m ≡ 0 → P (request_step (request_at (minor_of m) (behind m))))
    → (kind_of m ≡ 2 → P (cancel_step (cancel_at (behind m))))
    → (kind_of m ≡ 3 → P (locate_step (locate_at (behind m))))
    → (kind_of m ≡ 1 → P (breaks NotForServer)) → (kind_of m ≡ 4 → P (breaks NotForServer))
    → (kind_of m ≢ 0 → kind_of m ≢ 1 → kind_of m ≢ 2 → kind_of m ≢ 3 → kind_of m ≢ 4 → P closes) → P (step_of m)
unfolding step_of
by_type P m asks cancels locates replies located other =
    cond_case P (eqb (kind_of m) 0) _ _ (λ e. asks (eqb-true _ _ e)) (λ n0.
    cond_case P (eqb (kind_of m) 2) _ _ (λ e. cancels (eqb-true _ _ e)) (λ n2.
    cond_case P (eqb (kind_of m) 3) _ _ (λ e. locates (eqb-true _ _ e)) (λ n3.
    cond_case P (eqb (kind_of m) 1) _ _ (λ e. replies (eqb-true _ _ e)) (λ n1.
    cond_case P (eqb (kind_of m) 4) _ _ (λ e. located (eqb-true _ _ e)) (λ n4.
    other (eqb-false _ _ n0) (eqb-false _ _ n1) (eqb-false _ _ n2) (eqb-false _ _ n3) (eqb-false _ _ n4))))))

abbrev NeverBreaks : MessageStep → Type 0
NeverBreaks step = (cause : Cause) → step ≡ breaks cause → ⊥

request_good : (r : Result (Request × At) CdrFault) → IsOk r → NeverBreaks (request_step r)
request_good (Ok head) ok cause e = cc
request_good (Err fault) ok cause e = cc ok

cancel_good : (r : Result ℕ CdrFault) → IsOk r → NeverBreaks (cancel_step r)
cancel_good (Ok id) ok cause e = cc
cancel_good (Err fault) ok cause e = cc ok

locate_good : (r : Result (ℕ × List ℕ) CdrFault) → IsOk r → NeverBreaks (locate_step r)
locate_good (Ok head) ok cause e = cc
locate_good (Err fault) ok cause e = cc ok

-- the stream is never broken off at it
pub never_breaks : (m : List ℕ) → IsForServer m → NeverBreaks (step_of m)
never_breaks m fit =
    by_type NeverBreaks m (λ e. request_good _ (fit.request e)) (λ e. cancel_good _ (fit.cancel e))
    (λ e. locate_good _ (fit.locate e)) (λ e. absurd (fit.no_reply e)) (λ e. absurd (fit.no_locate_reply e))
    (λ _ _ _ _ _ cause e. cc)

request_open : (r : Result (Request × At) CdrFault) → request_step r ≡ closes → ⊥
request_open (Ok head) e = cc
request_open (Err fault) e = cc

cancel_open : (r : Result ℕ CdrFault) → cancel_step r ≡ closes → ⊥
cancel_open (Ok id) e = cc
cancel_open (Err fault) e = cc

locate_open : (r : Result (ℕ × List ℕ) CdrFault) → locate_step r ≡ closes → ⊥
locate_open (Ok head) e = cc
locate_open (Err fault) e = cc

break_open : (cause : Cause) → breaks cause ≡ closes → ⊥
break_open cause e = cc

five_or_six : (k : ℕ) (five : Bool) → eqb k 5 ≡ five → k ≤ 6 → k ≢ 0 → k ≢ 1 → k ≢ 2 → k ≢ 3 → k ≢ 4 → (k ≡ 5) ⊎ (k ≡ 6)
five_or_six k true e most n0 n1 n2 n3 n4 = inl (eqb-true k 5 e)
five_or_six k false e most n0 n1 n2 n3 n4 =
    inr (let n5 = eqb-false k 5 e in omega (arith, most, n0, n1, n2, n3, n4, n5))

last_types : (k : ℕ) → k ≤ 6 → k ≢ 0 → k ≢ 1 → k ≢ 2 → k ≢ 3 → k ≢ 4 → (k ≡ 5) ⊎ (k ≡ 6)
last_types k = five_or_six k (eqb k 5) refl

closing_types : (m : List ℕ) → (kind_of m ≡ 5) ⊎ (kind_of m ≡ 6) → is_closing m ≡ true
closing_types m (inl e) = rw e refl
closing_types m (inr e) = rw e refl

-- where it closes the stream, it is a CloseConnection or a MessageError
pub closes_only : (m : List ℕ) → IsForServer m → step_of m ≡ closes → is_closing m ≡ true
closes_only m fit =
    let good = fit.whole.good in
    by_type (λ step. step ≡ closes → is_closing m ≡ true) m
    (λ _ e. absurd (request_open _ e)) (λ _ e. absurd (cancel_open _ e)) (λ _ e. absurd (locate_open _ e))
    (λ _ e. absurd (break_open _ e)) (λ _ e. absurd (break_open _ e))
    (λ n0 n1 n2 n3 n4 _. closing_types m
    (last_types _ (let t = good.type_octet in omega (arith, t.0, t.1)) n0 n1 n2 n3 n4))

of_type : (m : List ℕ) (k : ℕ) → kind_of m ≡ k → k < 5 → is_closing m ≡ false
of_type m k e few = rw (e, ne_eqb k 5 (omega (arith, few)), ne_eqb k 6 (omega (arith, few))) refl

break_answered : (cause : Cause) → breaks cause ≡ answers → ⊥
break_answered cause e = cc

close_answered : closes ≡ answers → ⊥
close_answered e = cc

-- what is answered doesn't close the stream
pub answered_open : (m : List ℕ) → step_of m ≡ answers → is_closing m ≡ false
answered_open m =
    by_type (λ step. step ≡ answers → is_closing m ≡ false) m
    (λ e _. of_type m 0 e (omega arith)) (λ e _. of_type m 2 e (omega arith)) (λ e _. of_type m 3 e (omega arith))
    (λ _ e. absurd (break_answered _ e)) (λ _ e. absurd (break_answered _ e))
    (λ _ _ _ _ _ e. absurd (close_answered e))
