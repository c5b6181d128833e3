-- What the code writes into the list of calls is what the events say.
use Rattle.std.proofs.Common.{◌≡◌, ℕ, zero, suc, ◌+◌, ◌<◌, ◌≤◌, Bool, true, false, List, [], ◌∷◌, ◌++◌, length}
use Rattle.std.proofs.Common.{slice_get, slice_set, slice_index_or, refl, sym, ◌∙◌, ap, subst, arith, is_some}
use Rattle.std.proofs.lemmas.List.{length-append, length-set}
use Rattle.std.proofs.lemmas.Option.{slice_get_within, slice_get_read}
use Rattle.std.specs.Prelude.{Option, None, Some, Result, Ok, Err, OnOk, OnErr}
use Rattle.std.specs.Option.{option_and_then}
use Rattle.td_cdr.specs.declared.memory.Memory.{Memory}
use Rattle.td_net.proofs.Counting.{counted, has-drawn}
use Rattle.td_net.specs.Supplies.{IsTrimmed, WordSupply, drawn_after, word_of, words_from}
use Rattle.td_net.specs.Worlds.{Becomes, Closing, HasGroup, HasVisits, KeepsEnded, Moved, VisitProgress, World, after}
use Rattle.td_net.specs.Worlds.{visit_answer, end_call, drawn_by, ended_call, evaluating_call, frame_in, goes_on}
use Rattle.td_net.specs.Worlds.{inside, place_visit}
use Rattle.td_net.specs.Worlds.{placed_by, sent, settle, visit_progress, visit_state, takes, visit_at, visit_in}
use Rattle.td_net.specs.Worlds.{waiting_call}
use Rattle.td_net.specs.Worlds.{with_calls}
use Rattle.td_net.specs.declared.call.Call.{Call}
use Rattle.td_net.specs.declared.call.Stage.{Stage}
use Rattle.td_net.specs.declared.call.Stage.TheVariants.{Sent, Running, Evaluating, Waiting, Ended}
use Rattle.td_net.specs.declared.call.QuestionStep.{QuestionStep}
use Rattle.td_net.specs.declared.advancing.Pending.{Pending}
use Rattle.td_net.specs.declared.advancing.Pending.TheVariants as pending
use Rattle.td_ops.specs.declared.call.Query.{Query}
use Rattle.td_store.specs.declared.local.Local.{Local}
use Rattle.td_trader.specs.PlainTraders.{PlainTrader}
use Rattle.td_visit.specs.Standing.{FrameState}
use Rattle.td_walk.specs.Answers.{HasDrawn, IsAnswer}
use Rattle.td_walk.specs.declared.answer.StepAnswer.{StepAnswer}
use Rattle.td_walk.specs.declared.answer.SubAnswer.{SubAnswer}
use Rattle.td_walk.specs.declared.trace.Address.{Address}
use Rattle.td_walk.specs.declared.trace.Visit.{Visit}
use Rattle.td_query_walk.specs.Reach.{turns_of}

-- ---- places in a list

-- what stands at a place that the code reads
pub read : {A : Type 0} (xs : List A) (i : ℕ) (k x : A) → slice_get xs i ≡ Some k → x ≡ slice_index_or xs i x → k ≡ x
read xs i k x is value = let a = slice_get_read xs (length xs) i x refl (slice_get_within xs i k is) value in cc

pub set-set : {A : Type 0} (xs : List A) (i : ℕ) (x y : A) → slice_set (slice_set xs i x) i y ≡ slice_set xs i y
set-set [] i x y = refl
set-set (z ∷ zs) zero x y = refl
set-set (z ∷ zs) (suc i) x y = ap (λ w. z ∷ w) (set-set zs i x y)

-- what stands at a place was written there
pub get-set_same : {A : Type 0} (xs : List A) (i : ℕ) (x y : A) → slice_get xs i ≡ Some x
    → slice_get (slice_set xs i y) i ≡ Some y
get-set_same [] i x y is = absurd cc
get-set_same (z ∷ zs) zero x y is = refl
get-set_same (z ∷ zs) (suc i) x y is = get-set_same zs i x y is

pub set-get : {A : Type 0} (xs : List A) (i : ℕ) (x : A) → slice_get xs i ≡ Some x → slice_set xs i x ≡ xs
set-get [] i x is = refl
set-get (z ∷ zs) zero x is = ap (λ w. w ∷ zs) (let e : z ≡ x = cc in sym e)
set-get (z ∷ zs) (suc i) x is = ap (λ w. z ∷ w) (set-get zs i x is)

pub get-front : {A : Type 0} (xs : List A) (i : ℕ) (x y : A) → slice_get xs i ≡ Some x
    → slice_get (xs ++ y ∷ []) i ≡ Some x
get-front [] i x y is = absurd cc
get-front (z ∷ zs) zero x y is = is
get-front (z ∷ zs) (suc i) x y is = get-front zs i x y is

set-front : {A : Type 0} (xs : List A) (i : ℕ) (x y k : A) → slice_get xs i ≡ Some k
    → slice_set (xs ++ y ∷ []) i x ≡ slice_set xs i x ++ y ∷ []
set-front [] i x y k is = absurd cc
set-front (z ∷ zs) zero x y k is = refl
set-front (z ∷ zs) (suc i) x y k is = ap (λ w. z ∷ w) (set-front zs i x y k is)

pub some-there : {A : Type 0} (xs : List A) (i : ℕ) → i < length xs → (x : A) × (slice_get xs i ≡ Some x)
some-there [] i h = absurd (omega (arith, h))
some-there (x ∷ xs) zero h = (x, refl)
some-there (x ∷ xs) (suc i) h = some-there xs i (omega (arith, h))

pub get-end : {A : Type 0} (xs : List A) (x : A) → slice_get (xs ++ x ∷ []) (length xs) ≡ Some x
get-end [] x = refl
get-end (y ∷ ys) x = get-end ys x

-- behind an opened call a place is there still
pub still-there : (calls list : List Call) (c : ℕ) (opened : Call → Call) → c < length calls
    → ((k : Call) → slice_get calls c ≡ Some k → list ≡ calls ++ opened k ∷ []) → c < length list
still-there calls list c opened h longer =
    let k = some-there calls c h in
    rw (longer k.0 k.1) (rw length-append (omega (arith, h)))

pub ok_then : {P Q : Type 0} (r : Result Unit Memory) → OnOk r P → (P → Q) → OnOk r Q
ok_then (Ok x) h f = f h
ok_then (Err e) h f = tt

pub err_then : {P Q : Type 0} (r : Result Unit Memory) → OnErr r P → (P → Q) → OnErr r Q
err_then (Ok x) h f = tt
err_then (Err e) h f = f h

pub err-any : {P : Type 0} (r : Result Unit Memory) → P → OnErr r P
err-any (Ok x) h = tt
err-any (Err e) h = h

-- ---- what becomes of a visit

-- a call has ended
pub closes : (calls : List Call) (c : ℕ) (s t : WordSupply) (l m : Local) (rs : List StepAnswer) (ss : List QuestionStep)
    (a : SubAnswer) (v : Visit) (drawn : ℕ) (x new : Call) → m ≡ l → v ≡ visit_answer m a → drawn ≡ s.drawn
    → x ≡ slice_index_or calls c x → new ≡ ended_call x ss drawn v
    → IsAnswer l rs (word_of s) a → HasDrawn l rs (word_of s) (word_of t) → t.all ≡ s.all
    → s.drawn ≤ length s.all → t.drawn ≤ length t.all → IsTrimmed s.all
    → (k : Call) (w : World) → slice_get calls c ≡ Some k → HasVisits w calls s
    → Becomes w (Closing w c k l rs ss) (after w (slice_set calls c new) t.drawn)
closes calls c s t l m rs ss a v drawn x new local visit_is number value written answer draws all within within2 trimmed
    k w is h =
    let n = drawn_by l rs in
    let kx : k ≡ x = read calls c k x is value in
    let vl : v ≡ visit_answer l a = visit_is ∙ ap (λ (z : Local). visit_answer z a) local in
    let same : word_of s ≡ words_from w.words w.drawn =
    ap (λ z. words_from z s.drawn) (sym h.words_are) ∙ ap (words_from w.words) (sym h.drawn_is) in
    let to_come : (j : ℕ) → words_from s.all t.drawn j ≡ words_from s.all s.drawn (j + n) =
    λ j. ap (λ z. words_from z t.drawn j) (sym all) ∙ has-drawn l rs (word_of s) (word_of t) draws j in
    let count : t.drawn ≡ drawn_after s.all s.drawn n =
    counted s.all s.drawn t.drawn n trimmed within (subst (λ z. t.drawn ≤ length z) all within2) to_come in
    let count2 : t.drawn ≡ drawn_after w.words w.drawn n =
    count
    ∙ (ap (λ z. drawn_after z s.drawn n) (sym h.words_are) ∙ ap (λ z. drawn_after w.words z n) (sym h.drawn_is)) in
    let one : new ≡ ended_call k ss w.drawn (visit_answer l a) =
    written
    ∙ (ap (λ z. ended_call z ss drawn v) (sym kx)
    ∙ (ap (λ z. ended_call k ss z v) (number ∙ sym h.drawn_is) ∙ ap (ended_call k ss w.drawn) vl)) in
    let list : slice_set calls c new ≡ slice_set w.calls c (ended_call k ss w.drawn (visit_answer l a)) =
    ap (λ z. slice_set calls c z) one
    ∙ ap (λ z. slice_set z c (ended_call k ss w.drawn (visit_answer l a))) (sym h.calls_are) in (
      a,
      subst (λ z. IsAnswer l rs z a) same answer,
      ap (λ z. after w z t.drawn) list
          ∙ ap (λ z. after w (slice_set w.calls c (ended_call k ss w.drawn (visit_answer l a))) z) count2,
    )

-- a visit waits for a value
pub waits-for-value : (calls : List Call) (c : ℕ) (s : WordSupply) (l : Local) (f : FrameState) (ss : List QuestionStep)
    (x new : Call) → f.local ≡ l → x ≡ slice_index_or calls c x → new ≡ record x { stage = Evaluating f; steps = ss }
    → (k : Call) (w : World) → slice_get calls c ≡ Some k → HasVisits w calls s
    → Becomes w (placed_by w c k l f.answers ss pending.Value) (after w (slice_set calls c new) s.drawn)
waits-for-value calls c s l f ss x new local value written k w is h =
    let kx : k ≡ x = read calls c k x is value in
    let now = evaluating_call k l f.answers ss in
    let one : new ≡ now =
    written
    ∙ (ap (λ (z : Local). evaluating_call x z f.answers ss) local ∙ ap (λ z. evaluating_call z l f.answers ss) (sym kx)) in
    ap (λ z. after w (slice_set calls c z) s.drawn) one
    ∙ (ap (λ z. after w (slice_set z c now) s.drawn) (sym h.calls_are)
    ∙ ap (λ z. after w (slice_set w.calls c now) z) (sym h.drawn_is))

-- a visit waits for a call that it opens
pub waits-for-call : (calls list : List Call) (c : ℕ) (s : WordSupply) (l : Local) (f : FrameState) (ss : List QuestionStep)
    (target sub : ℕ) (q : Query) (x new : Call) → f.local ≡ l → sub ≡ length calls
    → ((k : Call) → slice_get calls c ≡ Some k → list ≡ calls ++ sent target q k.root (Some c) ∷ [])
    → x ≡ slice_index_or list c x → new ≡ record x { stage = Waiting f sub; steps = ss }
    → (k : Call) (w : World) → slice_get calls c ≡ Some k → HasVisits w calls s
    → Becomes w (placed_by w c k l f.answers ss (pending.SubQuery target q)) (after w (slice_set list c new) s.drawn)
waits-for-call calls list c s l f ss target sub q x new local number opened value written k w is h =
    let d = sent target q k.root (Some c) in
    let longer : list ≡ calls ++ d ∷ [] = opened k is in
    let there : slice_get list c ≡ Some k =
    subst (λ z. slice_get z c ≡ Some k) (sym longer) (get-front calls c k d is) in
    let kx : k ≡ x = read list c k x there value in
    let now = waiting_call k l f.answers ss (length calls) in
    let one : new ≡ now =
    written
    ∙ (ap (λ (z : Local). waiting_call x z f.answers ss sub) local
    ∙ (ap (λ z. waiting_call z l f.answers ss sub) (sym kx) ∙ ap (waiting_call k l f.answers ss) number)) in
    let whole : slice_set list c new ≡ slice_set calls c now ++ d ∷ [] =
    ap (λ z. slice_set list c z) one
    ∙ (ap (λ z. slice_set z c now) longer ∙ set-front calls c now d k is) in
    ap (λ z. after w z s.drawn)
    (whole ∙ ap (λ z. slice_set z c (waiting_call k l f.answers ss (length z)) ++ d ∷ []) (sym h.calls_are))
    ∙ ap (λ z. after w (slice_set w.calls c (waiting_call k l f.answers ss (length w.calls)) ++ d ∷ []) z) (sym h.drawn_is)

-- where a visit stands that has gone on
pub as-settled : (w : World) (c : ℕ) (k : Call) (l : Local) (rs0 : List StepAnswer) (ss0 : List QuestionStep)
    (rs : List StepAnswer) (ss : List QuestionStep) (p : Pending) (ts : List PlainTrader) (home : Address) (u : World)
    → visit_progress rs ss p ≡ settle (turns_of l + 1) (inside ts home) l rs0 ss0 → HasGroup w ts home
    → Becomes w (placed_by w c k l rs ss p) u → Becomes w (goes_on w c k l rs0 ss0) u
as-settled w c k l rs0 ss0 rs ss p ts home u is h b =
    let same : visit_progress rs ss p ≡ settle (turns_of l + 1) (inside w.traders w.home) l rs0 ss0 =
    is
    ∙ (ap (λ z. settle (turns_of l + 1) (inside z home) l rs0 ss0) (sym h.traders_are)
    ∙ ap (λ z. settle (turns_of l + 1) (inside w.traders z) l rs0 ss0) (sym h.home_is)) in
    subst (λ (z : VisitProgress). Becomes w (place_visit w c k l z) u) same b

-- what is promised of a visit that goes on
abbrev GoesOn : List PlainTrader → Address → (calls : List Call) → WordSupply → (c : ℕ) → FrameState → List QuestionStep
    → (u : List Call) → (drawn : ℕ) → Type 0
GoesOn ts home calls s c f ss u drawn =
    (k : Call) (w : World) → slice_get calls c ≡ Some k → HasGroup w ts home → HasVisits w calls s
    → Becomes w (goes_on w c k f.local f.answers ss) (after w u drawn)

-- a visit that has no answer yet
pub opens : (r : Result Unit Memory) (ts : List PlainTrader) (home : Address) (calls : List Call) (s : WordSupply)
    (c : ℕ) (f : FrameState) (l : Local) (ss : List QuestionStep) (u : List Call) (drawn : ℕ) → f ≡ visit_state l [] → ss ≡ []
    → OnOk r (GoesOn ts home calls s c f ss u drawn) → OnOk r (GoesOn ts home calls s c (visit_state l []) [] u drawn)
opens r ts home calls s c f l ss u drawn frame steps h =
    subst (λ (z : FrameState). OnOk r (GoesOn ts home calls s c z [] u drawn)) frame
    (subst (λ z. OnOk r (GoesOn ts home calls s c f z u drawn)) steps h)

-- ---- calls that are written anew

-- a call whose stage and steps are written anew may hold others meanwhile
pub placed-anew : (v w : World) (c : ℕ) (k m : Call) (l : Local) (rs : List StepAnswer) (ss : List QuestionStep) (p : Pending)
    (u : List Call) (drawn : ℕ) → record m { stage = k.stage; steps = k.steps } ≡ k
    → Becomes (with_calls w (slice_set w.calls c m)) (placed_by (with_calls w (slice_set w.calls c m)) c m l rs ss p)
    (after w u drawn) → Becomes v (placed_by w c k l rs ss p) (after w u drawn)
placed-anew v w c k m l rs ss pending.Nothing u drawn rest b =
    let a = visit_answer l b.0 in (
      b.0,
      b.1,
      b.2
          ∙ ap (λ z. after w z (drawn_after w.words w.drawn (drawn_by l rs)))
          (set-set w.calls c m _ ∙ ap (λ (z : Call). slice_set w.calls c (ended_call z ss w.drawn a)) rest),
    )
placed-anew v w c k m l rs ss pending.Value u drawn rest b =
    b
    ∙ ap (λ z. with_calls w z)
    (set-set w.calls c m _ ∙ ap (λ (z : Call). slice_set w.calls c (evaluating_call z l rs ss)) rest)
placed-anew v w c k m l rs ss (pending.SubQuery t q) u drawn rest b =
    b
    ∙ ap (λ z. with_calls w z)
    (ap (λ z. z ++ sent t q m.root (Some c) ∷ []) (set-set w.calls c m _)
    ∙ (ap (λ n. slice_set w.calls c (waiting_call m l rs ss n) ++ sent t q m.root (Some c) ∷ []) (length-set w.calls c m)
    ∙ ap
    (λ (z : Call). slice_set w.calls c (waiting_call z l rs ss (length w.calls)) ++ sent t q z.root (Some c) ∷ []) rest))

-- the visit of a call has taken an answer
pub taken : (ts : List PlainTrader) (home : Address) (calls : List Call) (s : WordSupply) (p : ℕ) (x m : Call)
    (f g : FrameState) (step : QuestionStep) (a : StepAnswer) (ss : List QuestionStep) (u : List Call) (drawn : ℕ)
    → x ≡ slice_index_or calls p x → frame_in x.stage ≡ Some f → record m { stage = x.stage; steps = x.steps } ≡ x
    → g ≡ visit_state f.local (f.answers ++ a ∷ []) → ss ≡ x.steps ++ step ∷ []
    → ((k : Call) (w : World) → slice_get (slice_set calls p m) p ≡ Some k → HasGroup w ts home
    → HasVisits w (slice_set calls p m) s → Becomes w (goes_on w p k g.local g.answers ss) (after w u drawn))
    → (k : Call) (w : World) (h : FrameState) → slice_get calls p ≡ Some k → frame_in k.stage ≡ Some h
    → HasGroup w ts home → HasVisits w calls s → Becomes w (takes w p k h step a) (after w u drawn)
taken ts home calls s p x m f g step a ss u drawn value some rest next steps_are later k w h is holds group visits =
    let kx : k ≡ x = read calls p k x is value in
    let hf : h ≡ f = same_some h f (sym holds ∙ (ap (λ (z : Call). frame_in z.stage) kx ∙ some)) in
    let w1 : World = with_calls w (slice_set w.calls p m) in
    let group1 : HasGroup w1 ts home = record { traders_are = group.traders_are; home_is = group.home_is } in
    let visits1 : HasVisits w1 (slice_set calls p m) s = record {
      calls_are = ap (λ z. slice_set z p m) visits.calls_are;
      words_are = visits.words_are;
      drawn_is = visits.drawn_is;
    } in
    let went : Becomes w1 (goes_on w1 p m g.local g.answers ss) (after w u drawn) =
    later m w1 (get-set_same calls p k m is) group1 visits1 in
    let to = settle (turns_of g.local + 1) (inside w.traders w.home) g.local g.answers ss in
    let anew : Becomes w (goes_on w p x g.local g.answers ss) (after w u drawn) =
    placed-anew w w p x m g.local to.answers to.steps to.pending u drawn rest went in
    let one : Becomes w (goes_on w p k g.local g.answers ss) (after w u drawn) =
    subst (λ (z : Call). Becomes w (goes_on w p z g.local g.answers ss) (after w u drawn)) (sym kx) anew in
    let two : Becomes w (goes_on w p k f.local (f.answers ++ a ∷ []) ss) (after w u drawn) =
    subst (λ (z : FrameState). Becomes w (goes_on w p k z.local z.answers ss) (after w u drawn)) next one in
    let three : Becomes w (goes_on w p k f.local (f.answers ++ a ∷ []) (k.steps ++ step ∷ [])) (after w u drawn) =
    subst (λ z. Becomes w (goes_on w p k f.local (f.answers ++ a ∷ []) z) (after w u drawn))
    (steps_are ∙ ap (λ (z : Call). z.steps ++ step ∷ []) (sym kx)) two in
    subst (λ (z : FrameState). Becomes w (takes w p k z step a) (after w u drawn)) (sym hf) three
  where
    same_some : (y z : FrameState) → Some y ≡ Some z → y ≡ z
    same_some y z e = cc

-- ---- calls that have ended

visit-of : Option Call → Option Visit
visit-of o = option_and_then (λ (k : Call). visit_in k.stage) o

-- where a call is written anew that hasn't ended, all that have stay so
pub keeps-others : (calls : List Call) (c : ℕ) (k x : Call) → slice_get calls c ≡ Some k → visit_in k.stage ≡ None
    → KeepsEnded calls (slice_set calls c x)
keeps-others [] c k x is unended d v ended = ended
keeps-others (y ∷ ys) zero k x is unended zero v ended =
    let e : y ≡ k = cc in
    let none : visit_in y.stage ≡ None = ap (λ (z : Call). visit_in z.stage) e ∙ unended in
    absurd (let bad : ◌≡◌ {A = Option Visit} None (Some v) = sym none ∙ ended in cc)
keeps-others (y ∷ ys) zero k x is unended (suc d) v ended = ended
keeps-others (y ∷ ys) (suc c) k x is unended zero v ended = ended
keeps-others (y ∷ ys) (suc c) k x is unended (suc d) v ended = keeps-others ys c k x is unended d v ended

-- and where a call is opened
pub keeps-longer : (calls : List Call) (x : Call) → KeepsEnded calls (calls ++ x ∷ [])
keeps-longer [] x d v ended = absurd cc
keeps-longer (y ∷ ys) x zero v ended = ended
keeps-longer (y ∷ ys) x (suc d) v ended = keeps-longer ys x d v ended

-- a call that waits hasn't ended
pub open-waiting : (stage : Stage) → is_some (frame_in stage) ≡ true → visit_in stage ≡ None
open-waiting Sent h = refl
open-waiting Running h = refl
open-waiting (Evaluating f) h = refl
open-waiting (Waiting f d) h = refl
open-waiting (Ended v) h = absurd (let e : false ≡ true = h in cc)
