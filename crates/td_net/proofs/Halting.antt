-- Where a visit stops to wait, as its questions are asked one by one.
use Rattle.std.proofs.Common.{◌≡◌, ◌⊎◌, inl, inr, ℕ, zero, suc, ◌+◌, ◌-◌, ◌<◌, ◌≤◌, Bool, true, false, List, [], ◌∷◌}
use Rattle.std.proofs.Common.{◌++◌, length, refl, sym, ap, subst, ◌∙◌, arith, is_some}
use Rattle.std.proofs.lemmas.List.{length-append}
use Rattle.std.specs.Prelude.{Option, None, Some}
use Rattle.td_typecode.specs.declared.reference.Ior.{Ior}
use Rattle.td_ior.specs.Profiles.{iiop_of}
use Rattle.td_net.specs.Worlds.{IsDoneAt, VisitProgress, evaluate_by, forward_by, or_further, settle, settle_by}
use Rattle.td_net.specs.Worlds.{visit_progress}
use Rattle.td_net.specs.declared.call.QuestionStep.{QuestionStep}
use Rattle.td_net.specs.declared.advancing.Pending.{Pending}
use Rattle.td_net.specs.declared.advancing.Pending.TheVariants.{Nothing, SubQuery, Value}
use Rattle.td_ops.specs.declared.call.Query.{Query}
use Rattle.td_store.specs.declared.local.Local.{Local}
use Rattle.td_walk.specs.Visits.{next_of}
use Rattle.td_walk.specs.declared.answer.Next.{Next}
use Rattle.td_walk.specs.declared.answer.Next.TheVariants.{Done, Evaluate, Forward}
use Rattle.td_walk.specs.declared.answer.StepAnswer.{StepAnswer}
use Rattle.td_walk.specs.declared.answer.StepAnswer.TheVariants.{Failed}
use Rattle.td_query_walk.proofs.Spending.{ends}
use Rattle.td_query_walk.specs.Reach.{turns_of}

abbrev Further : Type 0
Further = List StepAnswer → List QuestionStep → VisitProgress

-- ---- what one question comes to

abbrev at-value : Further
at-value rs ss = visit_progress rs ss Value

abbrev at-end : Further
at-end rs ss = visit_progress rs ss Nothing

apart : (rs rs2 : List StepAnswer) (ss ss2 : List QuestionStep) → at-end rs ss ≡ at-value rs2 ss2 → ⊥
apart rs rs2 ss ss2 h = let e : Nothing ≡ Value = ap (λ (z : VisitProgress). z.pending) h in cc

asks-not : (rs rs2 : List StepAnswer) (ss ss2 : List QuestionStep) (k : ℕ) (q : Query)
    → visit_progress rs ss (SubQuery k q) ≡ at-value rs2 ss2 → ⊥
asks-not rs rs2 ss ss2 k q h = let e : SubQuery k q ≡ Value = ap (λ (z : VisitProgress). z.pending) h in cc

answers-of : (s t : VisitProgress) → s ≡ t → s.answers ≡ t.answers
answers-of s t h = ap (λ (z : VisitProgress). z.answers) h

pending-of : (s t : VisitProgress) → s ≡ t → s.pending ≡ t.pending
pending-of s t h = ap (λ (z : VisitProgress). z.pending) h

-- whatever comes behind it, the question comes to this
abbrev pub ComesTo : (Ior → Option ℕ) → Next → (rs : List StepAnswer) (ss : List QuestionStep) (rs2 : List StepAnswer)
    (ss2 : List QuestionStep) → Option Pending → Type 0
ComesTo inside n rs ss rs2 ss2 p =
    (go : List StepAnswer → List QuestionStep → VisitProgress) → settle_by go inside rs ss n ≡ or_further go rs2 ss2 p

-- one that fails adds an answer
pub record Fails (n : Next) (rs rs2 : List StepAnswer) : Type 0 where
  pub one_more : rs2 ≡ rs ++ Failed ∷ []
  pub asked : n ≡ Done → ⊥

module _ (inside : Ior → Option ℕ) (rs : List StepAnswer) (ss : List QuestionStep) (rs2 : List StepAnswer)
    (ss2 : List QuestionStep) where
  unvalued : (b : Bool) → ((go : Further) → evaluate_by go rs ss b ≡ go rs2 ss2) → rs2 ≡ rs ++ Failed ∷ []
  unvalued true h = absurd (apart rs2 rs ss2 ss (sym (h at-end)))
  unvalued false h = sym (answers-of _ _ (h at-value))

  outside : (q : Query) (k : Option ℕ) → ((go : Further) → forward_by go rs ss q k ≡ go rs2 ss2)
      → rs2 ≡ rs ++ Failed ∷ []
  outside q None h = sym (answers-of _ _ (h at-value))
  outside q (Some k) h = absurd (asks-not rs rs2 ss ss2 k q (h at-value))

  pub fails : (n : Next) → ComesTo inside n rs ss rs2 ss2 None → Fails n rs rs2
  fails Done h = absurd (apart rs rs2 ss ss2 (h at-value))
  fails (Evaluate e name r x) h = record { one_more = unvalued (is_some (iiop_of e)) h; asked = λ is. cc }
  fails (Forward t q) h = record { one_more = outside q (inside t) h; asked = λ is. cc }

  -- one that waits adds none
  abbrev Waits : Next → Pending → Type 0
  Waits n p = (rs2 ≡ rs) × (p ≡ Nothing → n ≡ Done)

  valued : (e : Ior) (name : List ℕ) (p : Pending) (b : Bool)
      → ((go : Further) → evaluate_by go rs ss b ≡ visit_progress rs2 ss2 p) → (rs2 ≡ rs) × (p ≡ Nothing → ⊥)
  valued e name p true h =
      (sym (answers-of _ _ (h at-end)), λ is. let w : Value ≡ p = pending-of _ _ (h at-end) in cc)
  valued e name p false h =
      let v : Value ≡ p = pending-of _ _ (h at-value) in
      let w : Nothing ≡ p = pending-of _ _ (h at-end) in
      absurd cc

  inner : (q : Query) (p : Pending) (k : Option ℕ) → ((go : Further) → forward_by go rs ss q k ≡ visit_progress rs2 ss2 p)
      → (rs2 ≡ rs) × (p ≡ Nothing → ⊥)
  inner q p None h =
      let v : Value ≡ p = pending-of _ _ (h at-value) in
      let w : Nothing ≡ p = pending-of _ _ (h at-end) in
      absurd cc
  inner q p (Some k) h =
      (sym (answers-of _ _ (h at-end)), λ is. let w : SubQuery k q ≡ p = pending-of _ _ (h at-end) in cc)

  pub waits : (n : Next) (p : Pending) → ComesTo inside n rs ss rs2 ss2 (Some p) → Waits n p
  waits Done p h = (sym (answers-of _ _ (h at-end)), λ is. refl)
  waits (Evaluate e name r x) p h =
      let v = valued e name p (is_some (iiop_of e)) h in (v.0, λ is. absurd (v.1 is))
  waits (Forward t q) p h = let v = inner q p (inside t) h in (v.0, λ is. absurd (v.1 is))

-- the same of a visit whose local is known otherwise
pub at-local : (inside : Ior → Option ℕ) (l m : Local) (rs : List StepAnswer) (ss : List QuestionStep)
    (rs2 : List StepAnswer) (ss2 : List QuestionStep) (o p : Option Pending) → m ≡ l → o ≡ p
    → ComesTo inside (next_of m rs) rs ss rs2 ss2 o → ComesTo inside (next_of l rs) rs ss rs2 ss2 p
at-local inside l m rs ss rs2 ss2 o p same is h =
    subst (λ (z : Local). ComesTo inside (next_of z rs) rs ss rs2 ss2 p) same
    (subst (λ z. ComesTo inside (next_of m rs) rs ss rs2 ss2 z) is h)

-- ---- all of them

module _ (inside : Ior → Option ℕ) (l : Local) where
  -- what is still to be settled is the whole
  pub record Settling (rs0 : List StepAnswer) (ss0 : List QuestionStep) (rs : List StepAnswer) (ss : List QuestionStep) : Type 0 where
    pub most : ℕ
    pub enough : turns_of l ≤ length rs + most
    pub whole : settle (turns_of l + 1) inside l rs0 ss0 ≡ settle most inside l rs ss

  pub begin : (rs : List StepAnswer) (ss : List QuestionStep) → Settling rs ss rs ss
  begin rs ss = record { most = turns_of l + 1; enough = omega arith; whole = refl }

  abbrev Asked : (rs : List StepAnswer) (ss : List QuestionStep) (rs2 : List StepAnswer) (ss2 : List QuestionStep) → Option Pending
      → Type 0
  Asked rs ss rs2 ss2 p = ComesTo inside (next_of l rs) rs ss rs2 ss2 p

  one-end : (rs : List StepAnswer) (ss : List QuestionStep) (rs2 : List StepAnswer) (ss2 : List QuestionStep) (p : Pending)
      (most : ℕ) → turns_of l ≤ length rs + most → Asked rs ss rs2 ss2 (Some p)
      → settle most inside l rs ss ≡ visit_progress rs2 ss2 p
  one-end rs ss rs2 ss2 p zero enough a =
      let done : next_of l rs ≡ Done = ends l rs (omega (arith, enough)) in
      subst (λ (n : Next). settle_by at-end inside rs ss n ≡ visit_progress rs2 ss2 p) done (a at-end)
  one-end rs ss rs2 ss2 p (suc most) enough a = a (settle most inside l)

  pub stops : (rs0 : List StepAnswer) (ss0 : List QuestionStep) (rs : List StepAnswer) (ss : List QuestionStep)
      (rs2 : List StepAnswer) (ss2 : List QuestionStep) (p : Pending) → Settling rs0 ss0 rs ss → Asked rs ss rs2 ss2 (Some p)
      → visit_progress rs2 ss2 p ≡ settle (turns_of l + 1) inside l rs0 ss0
  stops rs0 ss0 rs ss rs2 ss2 p s a = sym (s.whole ∙ one-end rs ss rs2 ss2 p s.most s.enough a)

  fits : (rs rs2 : List StepAnswer) (n : ℕ) → rs2 ≡ rs ++ Failed ∷ [] → turns_of l ≤ length rs + suc n
      → turns_of l ≤ length rs2 + n
  fits rs rs2 n e h = rw e (rw length-append (omega (arith, h)))

  one-on : (rs0 : List StepAnswer) (ss0 : List QuestionStep) (rs : List StepAnswer) (ss : List QuestionStep) (rs2 : List StepAnswer)
      (ss2 : List QuestionStep) (most : ℕ) → turns_of l ≤ length rs + most
      → settle (turns_of l + 1) inside l rs0 ss0 ≡ settle most inside l rs ss → Asked rs ss rs2 ss2 None
      → Settling rs0 ss0 rs2 ss2
  one-on rs0 ss0 rs ss rs2 ss2 zero enough whole a =
      absurd ((fails inside rs ss rs2 ss2 (next_of l rs) a).asked (ends l rs (omega (arith, enough))))
  one-on rs0 ss0 rs ss rs2 ss2 (suc most) enough whole a = record {
    most = most;
    enough = fits rs rs2 most (fails inside rs ss rs2 ss2 (next_of l rs) a).one_more enough;
    whole = whole ∙ a (settle most inside l);
  }

  pub goes : (rs0 : List StepAnswer) (ss0 : List QuestionStep) (rs : List StepAnswer) (ss : List QuestionStep)
      (rs2 : List StepAnswer) (ss2 : List QuestionStep) → Settling rs0 ss0 rs ss → Asked rs ss rs2 ss2 None
      → Settling rs0 ss0 rs2 ss2
  goes rs0 ss0 rs ss rs2 ss2 s a = one-on rs0 ss0 rs ss rs2 ss2 s.most s.enough s.whole a

  either : (a b : ℕ) → (a ≤ b) ⊎ (b < a)
  either a b = grind arith

  less : (rs rs2 : List StepAnswer) → rs2 ≡ rs ++ Failed ∷ [] → length rs < turns_of l
      → turns_of l - length rs2 < turns_of l - length rs
  less rs rs2 e h = rw e (rw length-append (omega (arith, h)))

  -- fewer questions are left
  pub falls : (rs : List StepAnswer) (ss : List QuestionStep) (rs2 : List StepAnswer) (ss2 : List QuestionStep)
      → Asked rs ss rs2 ss2 None → turns_of l - length rs2 < turns_of l - length rs
  falls rs ss rs2 ss2 a = by (either (turns_of l) (length rs))
    where
      f : Fails (next_of l rs) rs rs2
      f = fails inside rs ss rs2 ss2 (next_of l rs) a

      by : (turns_of l ≤ length rs) ⊎ (length rs < turns_of l) → turns_of l - length rs2 < turns_of l - length rs
      by (inl h) = absurd (f.asked (ends l rs h))
      by (inr h) = less rs rs2 f.one_more h

  -- a visit that stops and waits for nothing has no question left
  pub done-at : (rs : List StepAnswer) (ss : List QuestionStep) (rs2 : List StepAnswer) (ss2 : List QuestionStep) (p : Pending)
      → Asked rs ss rs2 ss2 (Some p) → IsDoneAt l rs2 p
  done-at rs ss rs2 ss2 Nothing a =
      let w = waits inside rs ss rs2 ss2 (next_of l rs) Nothing a in
      subst (λ (z : List StepAnswer). next_of l z ≡ Done) (sym w.0) (w.1 refl)
  done-at rs ss rs2 ss2 Value a = tt
  done-at rs ss rs2 ss2 (SubQuery k q) a = tt
