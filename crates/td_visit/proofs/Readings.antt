-- A reading takes answers from the front, whatever comes behind them, and each question at which it stops is one.
use Rattle.std.proofs.Common.{◌≡◌, ℕ, nat_le, Bool, true, false, List, [], ◌∷◌, ◌++◌, length, Option, Some, None}
use Rattle.std.proofs.Common.{Ok, Err, refl, sym, ap, ◌∙◌, append_assoc, if◌then◌else◌}
use Rattle.td_cdr.specs.Format.{◌>>=◌}
use Rattle.td_eval.specs.Mentioning.{Names, names_asked}
use Rattle.td_store.specs.declared.local.Local.{Local}
use Rattle.td_store.specs.declared.record.OfferRecord.{OfferRecord}
use Rattle.td_value.specs.declared.structures.DynamicProp.{DynamicProp}
use Rattle.td_value.specs.declared.structures.Property.{Property}
use Rattle.td_value.specs.declared.unions.SpecifiedProps.{SpecifiedProps}
use Rattle.td_walk.specs.Resolving.{dynamic_named, is_evaluated}
use Rattle.td_visit.specs.Resuming.{tried_on, searched_on}
use Rattle.td_walk.specs.Visits.{AnswersRead, ask, question_on, evaluation, evaluated_property, evaluated_name}
use Rattle.td_walk.specs.Visits.{evaluate_names}
use Rattle.td_walk.specs.Visits.{matches_all, if_matching, is_ordinary, desired_names, complete_offer, all_completed}
use Rattle.td_walk.specs.declared.answer.Next.{Next}
use Rattle.td_walk.specs.declared.answer.Next.TheVariants.{Done}
use Rattle.td_walk.specs.declared.answer.StepAnswer.{StepAnswer}
use Rattle.td_walk.specs.declared.evaluation.Evaluation.{Evaluation}
use Rattle.td_walk.specs.declared.found.Found.{Found}

-- these answers are taken, and those are left
pub record Takes {X : Type 0} (r : List StepAnswer → AnswersRead X) (xs : List StepAnswer) (x : X) (ys : List StepAnswer)
    : Type 0 where
  pub front : List StepAnswer
  pub whole : xs ≡ front ++ ys
  pub goes : (rest : List StepAnswer) → r (front ++ rest) ≡ Ok (x, rest)

pub record Reading {X : Type 0} (r : List StepAnswer → AnswersRead X) : Type 0 where
  pub takes : (xs : List StepAnswer) (x : X) (ys : List StepAnswer) → r xs ≡ Ok (x, ys) → Takes r xs x ys
  pub asks : (xs : List StepAnswer) (q : Next) → r xs ≡ Err q → q ≡ Done → ⊥

-- what is read is read with more answers behind
pub longer : {X : Type 0} (r : List StepAnswer → AnswersRead X) (xs : List StepAnswer) (x : X) (ys rest : List StepAnswer)
    → Reading r → r xs ≡ Ok (x, ys) → r (xs ++ rest) ≡ Ok (x, ys ++ rest)
longer r xs x ys rest h e =
    let t = h.takes xs x ys e in
    let is : xs ++ rest ≡ t.front ++ (ys ++ rest) =
    ap (λ (zs : List StepAnswer). zs ++ rest) t.whole ∙ append_assoc t.front ys rest in
    ap r is ∙ t.goes (ys ++ rest)

-- ---- how readings are put together

abbrev pub nothing_read : {X : Type 0} → X → List StepAnswer → AnswersRead X
nothing_read x answers = Ok (x, answers)

abbrev pub then_by : {X Y : Type 0} → (List StepAnswer → AnswersRead X) → (X → List StepAnswer → AnswersRead Y)
    → List StepAnswer → AnswersRead Y
then_by r k answers = r answers >>= λ p. k p.0 p.1

abbrev pub if_by : {X : Type 0} → Bool → (List StepAnswer → AnswersRead X) → (List StepAnswer → AnswersRead X)
    → List StepAnswer → AnswersRead X
if_by b r s answers = if b then r answers else s answers

pub same-ok : {X : Type 0} (p q : X × List StepAnswer) → ◌≡◌ {A = AnswersRead X} (Ok p) (Ok q) → p ≡ q
same-ok p q e = cc

reading-ok : {X : Type 0} (x : X) → Reading (nothing_read x)
reading-ok {X} x = record {
  takes = λ xs y ys e.
      let p = same-ok {X = X} (x, xs) (y, ys) e in
      record {
        front = [];
        whole = ap (λ (z : X × List StepAnswer). z.1) p;
        goes = λ rest. ap (λ (z : X × List StepAnswer). nothing_read z.0 rest) p;
      };
  asks = λ xs q e last. let f : ◌≡◌ {A = AnswersRead X} (Ok (x, xs)) (Err q) = e in absurd cc;
}

module _ {X Y : Type 0} (r : List StepAnswer → AnswersRead X) (k : X → List StepAnswer → AnswersRead Y) (h : Reading r)
    (g : (x : X) → Reading (k x)) where
  then-takes : (xs : List StepAnswer) (y : Y) (ys : List StepAnswer) (o : AnswersRead X) → r xs ≡ o
      → (o >>= λ p. k p.0 p.1) ≡ Ok (y, ys) → Takes (then_by r k) xs y ys
  then-takes xs y ys (Err q) is e = absurd cc
  then-takes xs y ys (Ok p) is e =
      let one = h.takes xs p.0 p.1 is in
      let two = (g p.0).takes p.1 y ys e in
      record {
        front = one.front ++ two.front;
        whole =
            one.whole ∙ (ap (λ (zs : List StepAnswer). one.front ++ zs) two.whole
            ∙ sym (append_assoc one.front two.front ys));
        goes = λ rest.
            ap (λ (zs : List StepAnswer). then_by r k zs) (append_assoc one.front two.front rest)
            ∙ (ap (λ (o : AnswersRead X). o >>= λ p. k p.0 p.1) (one.goes (two.front ++ rest)) ∙ two.goes rest);
      }

  then-asks : (xs : List StepAnswer) (q : Next) (o : AnswersRead X) → r xs ≡ o → (o >>= λ p. k p.0 p.1) ≡ Err q
      → q ≡ Done → ⊥
  then-asks xs q (Err p) is e last = let s : p ≡ q = cc in h.asks xs p is (s ∙ last)
  then-asks xs q (Ok p) is e last = (g p.0).asks p.1 q e last

  reading-then : Reading (then_by r k)
  reading-then = record {
    takes = λ xs y ys e. then-takes xs y ys (r xs) refl e;
    asks = λ xs q e last. then-asks xs q (r xs) refl e last;
  }

reading-if : {X : Type 0} (b : Bool) (r s : List StepAnswer → AnswersRead X) → Reading r → Reading s → Reading (if_by b r s)
reading-if true r s h k = h
reading-if false r s h k = k

ask-takes : (question : Next) (xs : List StepAnswer) (x : StepAnswer) (ys : List StepAnswer)
    → ask question xs ≡ Ok (x, ys) → Takes (ask question) xs x ys
ask-takes question [] x ys e = absurd cc
ask-takes question (a ∷ more) x ys e =
    let p = same-ok {X = StepAnswer} (a, more) (x, ys) e in
    record {
      front = a ∷ [];
      whole = ap (λ (z : StepAnswer × List StepAnswer). a ∷ z.1) p;
      goes = λ rest. ap (λ (z : StepAnswer × List StepAnswer). nothing_read z.0 rest) p;
    }

ask-asks : (question : Next) (xs : List StepAnswer) (q : Next) → (question ≡ Done → ⊥) → ask question xs ≡ Err q
    → q ≡ Done → ⊥
ask-asks question [] q never e last = let s : question ≡ q = cc in never (s ∙ last)
ask-asks question (a ∷ more) q never e last = absurd cc

reading-ask : (question : Next) → (question ≡ Done → ⊥) → Reading (ask question)
reading-ask question never = record {
  takes = ask-takes question;
  asks = λ xs q e last. ask-asks question xs q never e last;
}

-- ---- evaluations

never-evaluate : (name : List ℕ) (d : DynamicProp) → question_on name d ≡ Done → ⊥
never-evaluate name d e = absurd cc

reading-property : (made : List Evaluation) (name : List ℕ) (o : Option DynamicProp)
    → Reading (evaluated_property made name o)
reading-property made name None = reading-ok made
reading-property made name (Some d) =
    reading-then (ask (question_on name d)) (λ a. nothing_read (made ++ evaluation name d a ∷ []))
    (reading-ask (question_on name d) (never-evaluate name d)) (λ a. reading-ok (made ++ evaluation name d a ∷ []))

pub reading-name : (ps : List Property) (made : List Evaluation) (name : List ℕ)
    → Reading (evaluated_name ps made name)
reading-name ps made name =
    reading-if (is_evaluated made name) (nothing_read made) (evaluated_property made name (dynamic_named ps name))
    (reading-ok made) (reading-property made name (dynamic_named ps name))

pub reading-evaluated : (ps : List Property) (made : List Evaluation) (names : Names)
    → Reading (evaluate_names ps made names)
reading-evaluated ps made [] = reading-ok made
reading-evaluated ps made (name ∷ names) =
    reading-then (evaluated_name ps made name) (λ m. evaluate_names ps m names) (reading-name ps made name)
    (λ m. reading-evaluated ps m names)

-- ---- the search

abbrev alone : OfferRecord → List Evaluation → List Found
alone o made = record { offer = o; made = made } ∷ []

pub reading-tried : (l : Local) (o : OfferRecord) (made : List Evaluation) → Reading (tried_on l o made)
reading-tried l o made =
    reading-if (matches_all o.proxy) (nothing_read (alone o made))
    (then_by (evaluate_names o.properties made (names_asked l.constraint l.preference))
    (λ m. nothing_read (if_matching l o m)))
    (reading-ok (alone o made))
    (reading-then (evaluate_names o.properties made (names_asked l.constraint l.preference))
    (λ m. nothing_read (if_matching l o m))
    (reading-evaluated o.properties made (names_asked l.constraint l.preference))
    (λ m. reading-ok (if_matching l o m)))

pub reading-searched : (l : Local) (os : List OfferRecord) (found : List Found) (made : List Evaluation)
    → Reading (searched_on l os found made)
reading-searched l [] found made = reading-ok found
reading-searched l (o ∷ os) found made =
    reading-if (nat_le l.effective.match_card (length found)) (nothing_read found)
    (then_by (tried_on l o made) (λ r. searched_on l os (found ++ r) []))
    (reading-ok found)
    (reading-then (tried_on l o made) (λ r. searched_on l os (found ++ r) []) (reading-tried l o made)
    (λ r. reading-searched l os (found ++ r) []))

-- ---- desired properties

pub reading-completed : (desired : SpecifiedProps) (o : OfferRecord) (made : List Evaluation)
    → Reading (complete_offer desired o made)
reading-completed desired o made =
    reading-if (is_ordinary o) (evaluate_names o.properties made (desired_names desired o.properties)) (nothing_read made)
    (reading-evaluated o.properties made (desired_names desired o.properties)) (reading-ok made)

pub reading-all : (desired : SpecifiedProps) (before fs : List Found) → Reading (all_completed desired before fs)
reading-all desired before [] = reading-ok before
reading-all desired before (f ∷ fs) =
    reading-then (complete_offer desired f.offer f.made) (λ m. all_completed desired (before ++ alone f.offer m) fs)
    (reading-completed desired f.offer f.made) (λ m. reading-all desired (before ++ alone f.offer m) fs)
