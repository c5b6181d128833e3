-- Readings of answers: the questions at which one stops, and what it comes to.
use Rattle.std.proofs.Common.{◌≡◌, List, [], ◌∷◌, ◌++◌, Ok, Err, refl, sym, ap, ◌∙◌, subst, append_assoc, append-nil}
use Rattle.td_cdr.specs.Format.{◌>>=◌}
use Rattle.td_walk.specs.Visits.{AnswersRead, ask}
use Rattle.td_walk.specs.declared.answer.Next.{Next}
use Rattle.td_walk.specs.declared.answer.StepAnswer.{StepAnswer}

abbrev pub Reading : Type 0 → Type 0
Reading X = List StepAnswer → AnswersRead X

-- behind the answers before, the reading stops at these questions, one for each of the later answers
abbrev pub Stops : {X : Type 0} → Reading X → (before : List StepAnswer) → List Next → (later : List StepAnswer)
    → Type 0
Stops R before [] [] = Unit {0}
Stops R before (q ∷ qs) (a ∷ later) = (R before ≡ Err q) × Stops R (before ++ a ∷ []) qs later
Stops R before [] (a ∷ later) = ⊥
Stops R before (q ∷ qs) [] = ⊥

-- it reads these answers to these questions and no more, and comes to this
pub record Takes {X : Type 0} (R : Reading X) (qs : List Next) (answers : List StepAnswer) (x : X) : Type 0 where
  pub stops : Stops R [] qs answers
  pub comes : (rest : List StepAnswer) → R (answers ++ rest) ≡ Ok (x, rest)

pub takes-none : {X : Type 0} (x : X) → Takes (λ (answers : List StepAnswer). let r : AnswersRead X = Ok (x, answers) in r) [] [] x
takes-none x = record { stops = tt; comes = λ rest. refl }

pub takes-ask : (q : Next) (a : StepAnswer) → Takes (λ (answers : List StepAnswer). ask q answers) (q ∷ []) (a ∷ []) a
takes-ask q a = record { stops = (refl, tt); comes = λ rest. refl }

-- ---- one reading after another

module _ {X Y : Type 0} (R : Reading X) (S : X → Reading Y) where
  abbrev pub both : Reading Y
  both answers = R answers >>= λ r. S r.0 r.1

  both-stops : (before : List StepAnswer) (q : Next) → R before ≡ Err q → both before ≡ Err q
  both-stops before q e = ap (λ (r : AnswersRead X). r >>= λ s. S s.0 s.1) e

  both-goes : (answers rest : List StepAnswer) (x : X) → R answers ≡ Ok (x, rest) → both answers ≡ S x rest
  both-goes answers rest x e = ap (λ (r : AnswersRead X). r >>= λ s. S s.0 s.1) e

  stops-later : (x : X) (first : List StepAnswer)
      → ((rest : List StepAnswer) → R (first ++ rest) ≡ Ok (x, rest)) → (before : List StepAnswer) (rs : List Next)
      (later : List StepAnswer) → Stops (S x) before rs later → Stops both (first ++ before) rs later
  stops-later x first comes before [] [] h = tt
  stops-later x first comes before (r ∷ rs) (a ∷ later) h = (
    both-goes (first ++ before) before x (comes before) ∙ h.0,
    subst (λ (z : List StepAnswer). Stops both z rs later) (sym (append_assoc first before (a ∷ [])))
        (stops-later x first comes (before ++ a ∷ []) rs later h.1),
  )
  stops-later x first comes before [] (a ∷ later) h = h
  stops-later x first comes before (r ∷ rs) [] h = h

  stops-joined : (before : List StepAnswer) (qs : List Next) (first : List StepAnswer) (rs : List Next)
      (later : List StepAnswer) → Stops R before qs first → Stops both (before ++ first) rs later
      → Stops both before (qs ++ rs) (first ++ later)
  stops-joined before [] [] rs later h k =
      subst (λ (z : List StepAnswer). Stops both z rs later) (append-nil before) k
  stops-joined before (q ∷ qs) (a ∷ first) rs later h k = (
    both-stops before q h.0,
    stops-joined (before ++ a ∷ []) qs first rs later h.1
        (subst (λ (z : List StepAnswer). Stops both z rs later) (sym (append_assoc before (a ∷ []) first)) k),
  )
  stops-joined before [] (a ∷ first) rs later h k = absurd h
  stops-joined before (q ∷ qs) [] rs later h k = absurd h

  pub takes-then : (qs : List Next) (first : List StepAnswer) (x : X) (rs : List Next) (later : List StepAnswer) (y : Y)
      → Takes R qs first x → Takes (S x) rs later y → Takes both (qs ++ rs) (first ++ later) y
  takes-then qs first x rs later y h k = record {
    stops = stops-joined [] qs first rs later h.stops
        (subst (λ (z : List StepAnswer). Stops both z rs later) (append-nil first)
        (stops-later x first h.comes [] rs later k.stops));
    comes = λ rest.
        ap both (append_assoc first later rest)
        ∙ (both-goes (first ++ (later ++ rest)) (later ++ rest) x (h.comes (later ++ rest)) ∙ k.comes rest);
  }

-- what is read is told otherwise
pub takes-map : {X Y : Type 0} (R : Reading X) (f : X → Y) (qs : List Next) (answers : List StepAnswer) (x : X)
    → Takes R qs answers x
    → Takes (λ (a : List StepAnswer). R a >>= λ r. let s : AnswersRead Y = Ok (f r.0, r.1) in s) qs answers (f x)
takes-map {X} {Y} R f qs answers x h =
    let content : Reading Y = λ a. R a >>= λ r. Ok (f r.0, r.1) in
    let all : Takes content (qs ++ []) (answers ++ []) (f x) =
    takes-then R (λ (y : X) (a : List StepAnswer). let s : AnswersRead Y = Ok (f y, a) in s) qs answers x [] [] (f x) h
    (takes-none (f x)) in
    subst (λ (z : List Next). Takes content z answers (f x)) (append-nil qs)
    (subst (λ (z : List StepAnswer). Takes content (qs ++ []) z (f x)) (append-nil answers) all)

-- ---- back from what was read

pub record Parted {X Y : Type 0} (r : AnswersRead X) (f : X × List StepAnswer → AnswersRead Y) (z : Y × List StepAnswer) : Type 0
  where
    pub part : X × List StepAnswer
    pub first : r ≡ Ok part
    pub second : f part ≡ Ok z

pub parted : {X Y : Type 0} (r : AnswersRead X) (f : X × List StepAnswer → AnswersRead Y) (z : Y × List StepAnswer)
    → (r >>= f) ≡ Ok z → Parted r f z
parted (Ok p) f z e = record { part = p; first = refl; second = e }
parted (Err q) f z e = absurd cc

abbrev pub read : {X : Type 0} → X → List StepAnswer → AnswersRead X
read x answers = Ok (x, answers)

pub is-read : {X : Type 0} (x : X) (answers : List StepAnswer) (z : X × List StepAnswer) → read x answers ≡ Ok z
    → (x ≡ z.0) × (answers ≡ z.1)
is-read {X} x answers z e =
    let w : X × List StepAnswer = (x, answers) in
    let same : w ≡ z = cc in
    (ap (λ (p : X × List StepAnswer). p.0) same, ap (λ (p : X × List StepAnswer). p.1) same)
