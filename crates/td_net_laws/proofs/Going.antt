-- A visit that goes on keeps what holds of each call: it ends, or waits for a value, or opens a call and waits for it.
use Rattle.std.proofs.Common.{◌≡◌, ℕ, zero, suc, ◌+◌, ◌<◌, ◌≤◌, List, [], ◌∷◌, ◌++◌, length, slice_get, slice_set}
use Rattle.std.proofs.Common.{Option}
use Rattle.std.proofs.Common.{Some, None, is_some, Bool, true, false, refl, sym, ◌∙◌, ap, subst, arith, length-append}
use Rattle.std.proofs.Common.{◌⊎◌, inl, inr}
use Rattle.std.proofs.lemmas.List.{length-set}
use Rattle.std.proofs.lemmas.Option.{slice_get_within}
use Rattle.td_typecode.specs.declared.code.Any.{Any}
use Rattle.td_typecode.specs.declared.code.TypeCode.{TypeCode}
use Rattle.td_typecode.specs.declared.reference.Ior.{Ior}
use Rattle.td_ior.specs.Profiles.{iiop_of}
use Rattle.td_net.specs.Worlds.{World, VisitProgress, Becomes, settle, settle_by, evaluate_by, forward_by, sent}
use Rattle.td_net.specs.Worlds.{waiting_call}
use Rattle.td_net.specs.Worlds.{evaluating_call}
use Rattle.td_net.specs.Worlds.{ended_call, visit_answer, placed_by, goes_on, inside}
use Rattle.td_net.specs.declared.call.Call.{Call}
use Rattle.td_net.specs.declared.call.Delivery.{Delivery}
use Rattle.td_net.specs.declared.call.Stage.{Stage}
use Rattle.td_net.specs.declared.call.Stage.TheVariants.{Evaluating, Waiting, Ended}
use Rattle.td_net.specs.declared.call.QuestionStep.{QuestionStep}
use Rattle.td_net.specs.declared.call.QuestionStep.TheVariants as step
use Rattle.td_net.specs.declared.advancing.Pending.{Pending}
use Rattle.td_net.specs.declared.advancing.Pending.TheVariants as pending
use Rattle.td_net_laws.proofs.Below.{IsLocal, asks-once, asks-read, carried, done-after, forward-before, hands-on}
use Rattle.td_net_laws.proofs.Below.{identifier-stated}
use Rattle.td_net_laws.proofs.Places.{get-set_same, get-set, get-more, get-last, get-append}
use Rattle.td_net_laws.proofs.Rights.{AsksCall, AsksValue, CallerRight, Later, Over, Right, RootRight, Rights, Same}
use Rattle.td_net_laws.proofs.Rights.{Stands}
use Rattle.td_net_laws.proofs.Rights.{StageRight, later-more, later-on, later-set, led-later, right-later}
use Rattle.td_net_laws.proofs.Rights.{rights-set, seeks}
use Rattle.td_net_laws.proofs.Rights.{visits_by}
use Rattle.td_net_laws.proofs.Waits.{Kids, NobodyFor, NoKids, Waits, WaitsAt, caller-old, kids-open, kids-set}
use Rattle.td_net_laws.proofs.Waits.{waits-open}
use Rattle.td_net_laws.proofs.Waits.{waits-set}
use Rattle.td_net_laws.specs.Arrivals.{Way, Nowhere, Along, Here, HasReadPolicies, identifier_at, is_here, path_at}
use Rattle.td_net_laws.specs.Arrivals.{search_at}
use Rattle.td_net_laws.specs.Arrivals.{stated_identifier, way_of}
use Rattle.td_net_laws.specs.Steps.{GivesAnswer, AsksEach, EndedAs, Led, IsSubCall, HasSteps, outside, unreachable}
use Rattle.td_ops.specs.declared.call.Query.{Query}
use Rattle.td_store.specs.declared.local.Local.{Local}
use Rattle.td_trader.specs.PlainTraders.{PlainTrader}
use Rattle.td_visit.specs.Standing.{FrameState}
use Rattle.td_walk.specs.Visits.{next_of}
use Rattle.td_walk.specs.declared.answer.Next.{Next}
use Rattle.td_walk.specs.declared.answer.Next.TheVariants.{Done, Evaluate, Forward}
use Rattle.td_walk.specs.declared.answer.StepAnswer.{StepAnswer}
use Rattle.td_walk.specs.declared.answer.StepAnswer.TheVariants as given
use Rattle.td_walk.specs.declared.answer.SubAnswer.{SubAnswer}
use Rattle.td_walk.specs.declared.trace.Visit.{Visit}
use Rattle.td_query_walk.specs.Reach.{turns_of}
use Rattle.td_query_walk.specs.Walks.{answer_in}

-- ---- where a visit stands still

module _ (calls : List Call) (within : Ior → Option ℕ) (c : ℕ) (l : Local) (least : ℕ) where
  abbrev pub SettledBy : List StepAnswer → List QuestionStep → Pending → Type 0
  SettledBy rs ss pending.Nothing = Led calls within c l rs ss × (next_of l rs ≡ Done)
  SettledBy rs ss pending.Value = Led calls within c l rs ss × AsksValue l rs
  SettledBy rs ss (pending.SubQuery k q) =
      Led calls within c l rs ss × (target : Ior) × (next_of l rs ≡ Forward target q) × (within target ≡ Some k)
      × (least ≤ length rs)

  abbrev pub SettledRight : VisitProgress → Type 0
  SettledRight s = SettledBy s.answers s.steps s.pending

  module _ (inside : Ior → Option ℕ) (same : (x : Ior) → inside x ≡ within x) where
    pub settle-right : (f : ℕ) (rs : List StepAnswer) (ss : List QuestionStep) → Led calls within c l rs ss
        → turns_of l ≤ length rs + f → least ≤ length rs → SettledRight (settle f inside l rs ss)
    settle-right zero rs ss led far from = (led, done-after l rs (omega arith))
    settle-right (suc f) rs ss led far from =
        go (next_of l rs) refl
        (λ target q is out. settle-right f (rs ++ given.Failed ∷ []) (ss ++ step.Outside ∷ []) (outside led is out)
        (rw length-append (omega arith)) (rw length-append (omega arith)))
        (λ e name returned extra is out. settle-right f (rs ++ given.Failed ∷ []) (ss ++ step.Unreachable ∷ [])
        (unreachable led is out) (rw length-append (omega arith)) (rw length-append (omega arith)))
      where
        go : (x : Next) → next_of l rs ≡ x
            → ((target : Ior) (q : Query) → next_of l rs ≡ Forward target q → within target ≡ None
            → SettledRight (settle f inside l (rs ++ given.Failed ∷ []) (ss ++ step.Outside ∷ [])))
            → ((e : Ior) (name : List ℕ) (returned : TypeCode) (extra : Any)
            → next_of l rs ≡ Evaluate e name returned extra → is_some (iiop_of e) ≡ false
            → SettledRight (settle f inside l (rs ++ given.Failed ∷ []) (ss ++ step.Unreachable ∷ [])))
            → SettledRight (settle_by (settle f inside l) inside rs ss x)
        go Done is more far = (led, is)
        go (Evaluate e name returned extra) is more far = by_reach (is_some (iiop_of e)) refl
          where
            by_reach : (b : Bool) → is_some (iiop_of e) ≡ b → SettledRight (evaluate_by (settle f inside l) rs ss b)
            by_reach true t = (
              led,
              record {
                evaluator = e;
                name = name;
                returned = returned;
                extra = extra;
                asks = is;
                reachable = t;
              },
            )
            by_reach false t = far e name returned extra is t
        go (Forward target q) is more far = by_place (inside target) refl
          where
            by_place : (o : Option ℕ) → inside target ≡ o → SettledRight (forward_by (settle f inside l) rs ss q o)
            by_place (Some k) e = (led, target, is, sym (same target) ∙ e, from)
            by_place None e = more target q is (sym (same target) ∙ e)

-- ---- the visit of the call c goes on

-- the world behind it; c was k, and is m as it goes on
pub record Went (within : Ior → Option ℕ) (w u : World) : Type 0 where
  pub traders : u.traders ≡ w.traders
  pub home : u.home ≡ w.home
  pub words : u.words ≡ w.words
  pub rights : Rights u.calls within w.words
  pub waits : Waits u.calls
  pub kids : Kids u.calls
  pub goes : Later w.calls u.calls

module _ (w : World) (c : ℕ) (k m : Call) (d : Delivery) (l : Local) (within : Ior → Option ℕ)
    (rights : Rights w.calls within w.words) (waits : Waits w.calls) (kids : Kids w.calls)
    (is : slice_get w.calls c ≡ Some k) (same : Same k m) (nobody : NobodyFor w.calls c)
    (handed : m.handed ≡ k.handed)
    (delivered : m.delivery ≡ Some d)
    (local : IsLocal (way_of d.seen.value m.query) (seeks d.seen.value m.query) d.seen.value m.query l)
    (before : (m.delivery ≡ k.delivery) ⊎ NoKids w.calls c) (going : (v : Visit) → k.stage ≡ Ended v → ⊥) where
  abbrev calls : List Call
  calls = w.calls

  abbrev ws : List ℕ
  ws = w.words

  abbrev t : PlainTrader
  t = d.seen.value

  read : HasReadPolicies m.query
  read = asks-read t m.query (seeks t m.query) l (way_of t m.query) refl local

  answered_by : (y : Way) (s : Bool) → IsLocal y s t m.query l → (z : Call) → z.query ≡ m.query → (a : SubAnswer)
      → AsksEach calls within c (EndedAs calls) ws z a l → GivesAnswer calls within c (EndedAs calls) ws z t a y s
  answered_by Nowhere s here z q a x = elim here [ ]
  answered_by (Along link) s here z q a x =
      subst (λ j. AsksEach calls within c (EndedAs calls) ws z a j) (here ∙ ap (path_at t link) (sym q)) x
  answered_by Here false here z q a x = absurd (let y = here.0 in cc)
  answered_by Here true here z q a x =
      subst (λ j. AsksEach calls within c (EndedAs calls) ws z a j) (here.1 ∙ ap (search_at t) (sym q)) x

  staged : Stage → List QuestionStep → ℕ → Call
  staged s ss drawn = record m { stage = s; steps = ss; drawn = drawn }

  staged-same : (s : Stage) (ss : List QuestionStep) (drawn : ℕ)
      → Same k (record m { stage = s; steps = ss; drawn = drawn })
  staged-same s ss drawn = record {
    target = same.target;
    query = same.query;
    root = same.root;
    caller = same.caller;
    ended = λ a e. absurd (going a e);
    delivery = λ e y. same.delivery e y;
  }

  staged-right : (list : List Call) (s : Stage) (ss : List QuestionStep) (drawn : ℕ) → Right list within c ws k
      → StageRight list within c ws (record m { stage = s; steps = ss; drawn = drawn }) s
      → Right list within c ws (record m { stage = s; steps = ss; drawn = drawn })
  staged-right list s ss drawn r right = record {
    old = rw (same.root) r.old;
    root = record {
      call = r.root.call;
      is = rw same.root r.root.is;
      asked = r.root.asked;
      identifier = λ read id e. ap stated_identifier same.query
          ∙ r.root.identifier (subst HasReadPolicies same.query read) id e;
    };
    caller =
        subst (λ z. CallerRight list c (record m { stage = s; steps = ss; drawn = drawn }) z) (sym same.caller)
        (caller_of k.caller r.caller);
    stage = right;
  }
    where
      caller_of : (o : Option ℕ) → CallerRight list c k o
          → CallerRight list c (record m { stage = s; steps = ss; drawn = drawn }) o
      caller_of None x = same.root ∙ x
      caller_of (Some p) x = record {
        before = x.before;
        call = x.call;
        is = x.is;
        root = x.root ∙ sym same.root;
        delivery = x.delivery;
        delivered = x.delivered;
        read = x.read;
        states = λ read. ap stated_identifier same.query ∙ x.states (subst HasReadPolicies same.query read);
      }

  stands : (list : List Call) (z : Call) (rs : List StepAnswer) → z.query ≡ m.query → z.delivery ≡ m.delivery
      → Led list within c l rs z.steps → Stands list within c z (record { local = l; answers = rs })
  stands list z rs q del led = record {
    delivery = d;
    delivered = del ∙ delivered;
    local = subst (λ j. IsLocal (way_of t j) (seeks t j) t j l) (sym q) local;
    led = led;
  }

  identified-so : (id : List ℕ) → stated_identifier m.query ≡ Some id → (y : Way)
      → carried (is_here y) (stated_identifier m.query) (identifier_at t m.query) ≡ Some id
  identified-so id e Nowhere = e
  identified-so id e (Along link) = e
  identified-so id e Here = ap Some (identifier-stated t m.query id e)

  module _ (least : ℕ) (first : (1 ≤ least) ⊎ NoKids w.calls c) where
    -- it ends
    ends-so : (rs : List StepAnswer) (ss : List QuestionStep) → Led calls within c l rs ss → next_of l rs ≡ Done
        → (v u : World)
        → Becomes v (placed_by w c m l rs ss pending.Nothing) u → Went within w u
    ends-so rs ss led none v u b =
        let z : Call = ended_call m ss w.drawn (visit_answer l b.0) in
        let asked : AsksEach calls within c (EndedAs calls) ws z b.0 l =
        record { answers = rs; content = led; none_left = none; is_answer = b.1 } in
        let over : Over calls within c ws z (visit_answer l b.0) = record {
          delivery = d;
          delivered = delivered;
          is = answered_by (way_of t m.query) (seeks t m.query) local z refl b.0 asked;
        } in
        subst (Went within w) (sym b.2) record {
          traders = refl;
          home = refl;
          words = refl;
          rights =
              rights-set calls within c ws k z rights is (staged-same (Ended (visit_answer l b.0)) ss w.drawn)
              (staged-right calls (Ended (visit_answer l b.0)) ss w.drawn (rights c k is) over);
          waits = waits-set calls c k z waits is nobody same.caller (λ e. sym handed ∙ e);
          kids = kids-set calls c k z kids is same.caller same.query before;
          goes = later-set calls c k z is (staged-same (Ended (visit_answer l b.0)) ss w.drawn);
        }

    -- it waits for a value
    evaluates-so : (rs : List StepAnswer) (ss : List QuestionStep) → Led calls within c l rs ss → AsksValue l rs
        → (v u : World)
        → Becomes v (placed_by w c m l rs ss pending.Value) u → Went within w u
    evaluates-so rs ss led asks v u b =
        let z : Call = evaluating_call m l rs ss in
        let f : FrameState = record { local = l; answers = rs } in
        subst (Went within w) (sym b) record {
          traders = refl;
          home = refl;
          words = refl;
          rights =
              rights-set calls within c ws k z rights is (staged-same (Evaluating f) ss m.drawn)
              (staged-right calls (Evaluating f) ss m.drawn (rights c k is) (stands calls z rs refl refl led, asks));
          waits = waits-set calls c k z waits is nobody same.caller (λ e. sym handed ∙ e);
          kids = kids-set calls c k z kids is same.caller same.query before;
          goes = later-set calls c k z is (staged-same (Evaluating f) ss m.drawn);
        }

    -- it opens a call
    module _ (rs : List StepAnswer) (ss : List QuestionStep) (target : Ior) (number : ℕ) (q : Query)
        (led : Led calls within c l rs ss) (asks : next_of l rs ≡ Forward target q)
        (there : within target ≡ Some number)
        (from : least ≤ length rs) where
      abbrev z : Call
      z = waiting_call m l rs ss (length calls)

      abbrev y : Call
      y = sent number q m.root (Some c)

      abbrev half : List Call
      half = slice_set calls c z

      abbrev list : List Call
      list = half ++ y ∷ []

      long : length half ≡ length calls
      long = length-set calls c z

      z-same : Same k z
      z-same = staged-same (Waiting (record { local = l; answers = rs }) (length calls)) ss m.drawn

      goes : Later calls list
      goes = later-on calls half list (later-set calls c k z is z-same) (later-more half y)

      z-half : slice_get half c ≡ Some z
      z-half = get-set_same calls c k z is

      z-there : slice_get list c ≡ Some z
      z-there = get-more half (y ∷ []) c z z-half

      y-there : slice_get list (length calls) ≡ Some y
      y-there = subst (λ x. slice_get list x ≡ Some y) long (get-last half y)

      states : HasReadPolicies q → stated_identifier q
          ≡ carried (is_here (way_of t m.query)) (stated_identifier m.query) (identifier_at t m.query)
      states r = hands-on t m.query (seeks t m.query) l (way_of t m.query) refl local rs target q asks r

      y-root : RootRight list y
      y-root =
          let rk = (rights c k is).root in
          let s = goes k.root rk.call rk.is in record {
            call = s.call;
            is = subst (λ x. slice_get list x ≡ Some s.call) (sym same.root) s.is;
            asked = s.same.caller ∙ rk.asked;
            identifier = λ r id e. states r
                ∙ identified-so id (ap stated_identifier same.query
                ∙ rk.identifier (subst HasReadPolicies same.query read) id (ap stated_identifier (sym s.same.query) ∙ e))
                (way_of t m.query);
          }

      y-right : Right list within (length calls) ws y
      y-right = record {
        old = let o = (rights c k is).old in let e = same.root in let lt = slice_get_within calls c k is in
            omega arith;
        root = y-root;
        caller = record {
          before = slice_get_within calls c k is;
          call = z;
          is = z-there;
          root = refl;
          delivery = d;
          delivered = delivered;
          read = read;
          states = states;
        };
        stage = refl;
      }

      z-right : Right list within c ws z
      z-right =
          staged-right list (Waiting (record { local = l; answers = rs }) (length calls)) ss m.drawn
          (right-later calls list within ws goes c k (rights c k is)) (
            stands list z rs refl refl (led-later calls list within ws goes led),
            record {
              target = target;
              query = q;
              number = number;
              asks = asks;
              within = there;
              opened = record { call = y; is = y-there; at = refl; asks = refl; by = refl };
            },
          )

      both : Rights list within ws
      both i x here =
          elim (get-append half y i x here) as (λ o. Right list within i ws x) [
            | inl e ↦
                subst (λ j. Right list within j ws x) (sym (e.0 ∙ long))
                (subst (λ j. Right list within (length calls) ws j) e.1 y-right)
            | inr e ↦
                elim (get-set calls c i k z x is e) as (λ o. Right list within i ws x) [
                  | inl f ↦
                      subst (λ j. Right list within j ws x) (sym f.0)
                      (subst (λ j. Right list within c ws j) f.1 z-right)
                  | inr f ↦ right-later calls list within ws goes i x (rights i x f.1)
                ]
          ]

      some_one : (u v : Call) → Some u ≡ Some v → u ≡ v
      some_one u v e = cc

      some_delivery : (u v : Delivery) → Some u ≡ Some v → u ≡ v
      some_delivery u v e = cc

      sees : (a b : Call) (u v : Delivery) → a ≡ b → u ≡ v → visits_by b v ≡ false → visits_by a u ≡ false
      sees a b u v same one h = rw (same, one) h

      only : (1 ≤ least) ⊎ NoKids calls c → NoKids half c ⊎ ((f : Call) (e : Delivery) → slice_get half c ≡ Some f
          → f.delivery ≡ Some e → visits_by f e ≡ false → ⊥)
      only (inl some) =
          inr (λ f e here del path.
          let f_is : z ≡ f = some_one z f (sym z-half ∙ here) in
          let e_is : d ≡ e = some_delivery d e (sym delivered ∙ (ap (λ (x : Call). x.delivery) f_is ∙ del)) in
          asks-once t m.query (seeks t m.query) l (way_of t m.query) local (sees z f d e f_is e_is path) rs
          (forward-before l rs target q asks) (omega arith))
      only (inr none) =
          inl (λ x f here by. let o = caller-old calls c x k z f c is same.caller here by in none x o.0 o.1 o.2)

      caller_is : (p : ℕ) → Some c ≡ Some p → c ≡ p
      caller_is p e = cc

      asks-so : (v u : World) → Becomes v (placed_by w c m l rs ss (pending.SubQuery number q)) u → Went within w u
      asks-so v u b =
          subst (Went within w) (sym b) record {
            traders = refl;
            home = refl;
            words = refl;
            rights = both;
            waits =
                waits-open half y (waits-set calls c k z waits is nobody same.caller (λ e. sym handed ∙ e))
                (λ p by. subst (λ x. WaitsAt half x (length half)) (caller_is p by)
                (record { call = z; is = z-half; waits = sym long }));
            kids =
                kids-open half y (kids-set calls c k z kids is same.caller same.query before) refl
                (λ p by. subst (λ x. NoKids half x ⊎ ((f : Call) (e : Delivery) → slice_get half x ≡ Some f
                → f.delivery ≡ Some e → visits_by f e ≡ false → ⊥)) (caller_is p by) (only first));
            goes = goes;
          }

    placed-went : (rs : List StepAnswer) (ss : List QuestionStep) (p : Pending) → SettledBy calls within c l least rs ss p
        → (v u : World) → Becomes v (placed_by w c m l rs ss p) u → Went within w u
    placed-went rs ss pending.Nothing right v u b = ends-so rs ss right.0 right.1 v u b
    placed-went rs ss pending.Value right v u b = evaluates-so rs ss right.0 right.1 v u b
    placed-went rs ss (pending.SubQuery number q) right v u b =
        asks-so rs ss right.1 number q right.0 right.2 right.3 right.4 v u b

  pub goes_on-went : ((x : Ior) → inside w.traders w.home x ≡ within x) → (rs : List StepAnswer) (ss : List QuestionStep)
      → Led calls within c l rs ss → (1 ≤ length rs) ⊎ NoKids w.calls c → (v u : World)
      → Becomes v (goes_on w c m l rs ss) u → Went within w u
  goes_on-went same_inside rs ss led first v u b =
      let s : VisitProgress = settle (turns_of l + 1) (inside w.traders w.home) l rs ss in
      placed-went (length rs) first s.answers s.steps s.pending
      (settle-right calls within c l (length rs) (inside w.traders w.home) same_inside (turns_of l + 1) rs ss led
      (omega arith) (omega arith)) v u b
