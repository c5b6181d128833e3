-- The items of a walk show the calls that were made of peers.
use Rattle.std.proofs.Common.{◌≡◌, ℕ, List, [], ◌∷◌, ◌++◌, append_assoc, append-nil, refl, sym, ap, ◌∙◌}
use Rattle.std.specs.Prelude.{Option}
use Rattle.td_typecode.specs.declared.reference.Ior.{Ior}
use Rattle.td_ops.specs.declared.call.Query.{Query}
use Rattle.td_store.specs.declared.local.Local.{Local}
use Rattle.td_walk.specs.Peering.{Exchange, Querying, Evaluating}
use Rattle.td_walk.specs.Peering.{Answered as Replied, Evaluated as Valued, Failed as Missed}
use Rattle.td_walk.specs.declared.answer.Next.{Next}
use Rattle.td_walk.specs.declared.answer.StepAnswer.{StepAnswer}
use Rattle.td_walk.specs.declared.trace.TraceItem.{TraceItem}
use Rattle.td_walk.specs.declared.trace.TraceItem.TheVariants as item
use Rattle.td_walk.specs.declared.trace.Visit.{Visit}
use Rattle.td_query_walk.specs.WalkLaws.{BeginsIn, Group, ShowsCalls}
use Rattle.td_query_walk.specs.Walks.{WalkState, OpensWith, Start, Step, Steps, Walk, given_in, peer_answers, shown_by}
use Rattle.td_query_walk.specs.Walks.{searching, passing, refused, repeat, asking, done, asked, visited, outside}
use Rattle.td_query_walk.specs.Walks.{no_memory_with, evaluated, unevaluated, unreachable}

-- ---- items and calls, one after the other

pub given-append : (xs ys : List Exchange) → given_in (xs ++ ys) ≡ given_in xs ++ given_in ys
given-append [] ys = refl
given-append (x ∷ xs) ys = ap (λ t. x.gave ∷ t) (given-append xs ys)

pub shown-append : (is js : List TraceItem) → peer_answers (is ++ js) ≡ peer_answers is ++ peer_answers js
shown-append [] js = refl
shown-append (i ∷ is) js =
    ap (λ t. shown_by i ++ t) (shown-append is js) ∙ sym (append_assoc (shown_by i) (peer_answers is) (peer_answers js))

-- no call was made
none-made : (items : List TraceItem) (calls : List Exchange) → [] ≡ peer_answers items → ShowsCalls items calls calls
none-made items calls quiet = record { made = []; calls = sym (append-nil calls); asked = quiet }

-- one call was made
one-made : (items : List TraceItem) (calls : List Exchange) (e : Exchange) → e.gave ∷ [] ≡ peer_answers items
    → ShowsCalls items calls (calls ++ e ∷ [])
one-made items calls e is = record { made = e ∷ []; calls = refl; asked = is }

joined : (t ts : List TraceItem) (a b c : List Exchange) → ShowsCalls t a b → ShowsCalls ts b c → ShowsCalls (t ++ ts) a c
joined t ts a b c h k = record {
  made = h.made ++ k.made;
  calls = k.calls ∙ (ap (λ x. x ++ k.made) h.calls ∙ append_assoc a h.made k.made);
  asked = given-append h.made k.made
      ∙ (ap (λ g. g ++ given_in k.made) h.asked ∙ (ap (λ g. peer_answers t ++ g) k.asked ∙ sym (shown-append t ts)));
}

-- a visit begins and ends without a call
within : (head : TraceItem) (t : List TraceItem) (a b c : List Exchange) → shown_by head ≡ [] → ShowsCalls t a b → c ≡ b
    → ShowsCalls (head ∷ t ++ item.Leave ∷ []) a c
within head t a b c quiet h same = record {
  made = h.made;
  calls = same ∙ h.calls;
  asked = h.asked ∙ sym (ap (λ x. x ++ peer_answers (t ++ item.Leave ∷ [])) quiet
      ∙ (shown-append t (item.Leave ∷ []) ∙ append-nil (peer_answers t)));
}

opens-quiet : {trader : ℕ} {l : Local} {start : Start} {head : TraceItem} → OpensWith trader l start head
    → shown_by head ≡ []
opens-quiet searching = refl
opens-quiet passing = refl

-- ---- walks

mutual
  pub walk-shows : {World : Type 0} {Begins : World → (trader : ℕ) → Query → Start → World → Type 0}
      {inside : World → (target : Ior) → Option ℕ} {s : WalkState World} {k : ℕ} {q : Query} {t : List TraceItem}
      {v : Visit} {u : WalkState World} → Walk Begins inside s k q t v u → ShowsCalls t s.calls u.calls
  walk-shows (refused {s = s} b) = none-made _ s.calls refl
  walk-shows (repeat {s = s} b) = none-made _ s.calls refl
  walk-shows (asking {s = s} {head = head} {t = t} {m = m} {u = u} b o steps ends) =
      within head t s.calls m.calls u.calls (opens-quiet o) (steps-show steps) ends.calls

  pub steps-show : {World : Type 0} {Begins : World → (trader : ℕ) → Query → Start → World → Type 0}
      {inside : World → (target : Ior) → Option ℕ} {s : WalkState World} {l : Local} {answers : List StepAnswer}
      {t : List TraceItem} {all : List StepAnswer} {u : WalkState World} → Steps Begins inside s l answers t all u
      → ShowsCalls t s.calls u.calls
  steps-show (done {s = s} e) = none-made [] s.calls refl
  steps-show (asked {s = s} {t = t} {m = m} {ts = ts} {u = u} step more) =
      joined t ts s.calls m.calls u.calls (step-shows step) (steps-show more)

  pub step-shows : {World : Type 0} {Begins : World → (trader : ℕ) → Query → Start → World → Type 0}
      {inside : World → (target : Ior) → Option ℕ} {s : WalkState World} {question : Next} {t : List TraceItem}
      {r : StepAnswer} {u : WalkState World} → Step Begins inside s question t r u → ShowsCalls t s.calls u.calls
  step-shows (visited i w) = walk-shows w
  step-shows (outside {s = s} {target = target} {q = q} {a = a} i small) =
      one-made (item.Outside a ∷ []) s.calls (record { call = Querying target q; gave = Replied a }) refl
  step-shows (no_memory_with {s = s} {target = target} {q = q} {f = f} i m) =
      one-made (item.Failed f ∷ []) s.calls (record { call = Querying target q; gave = Missed f }) refl
  step-shows (evaluated {s = s} {e = e} {name = name} {returned = c} {extra = x} {value = v} i) =
      one-made (item.Evaluated v ∷ []) s.calls (record { call = Evaluating e name c x; gave = Valued v }) refl
  step-shows (unevaluated {s = s} {e = e} {name = name} {returned = c} {extra = x} {f = f} i m) =
      one-made (item.Failed f ∷ []) s.calls (record { call = Evaluating e name c x; gave = Missed f }) refl
  step-shows (unreachable {s = s} i) = none-made _ s.calls refl

pub all-show : (group : Group) (inside : ℕ → Ior → Option ℕ) (s u : WalkState ℕ) (trader : ℕ) (q : Query)
    (items : List TraceItem) (v : Visit) → Walk (BeginsIn group) inside s trader q items v u
    → ShowsCalls items s.calls u.calls
all-show group inside s u trader q items v w = walk-shows w
