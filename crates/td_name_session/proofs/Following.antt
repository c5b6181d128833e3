-- What a turn, and a run of turns, makes of what is seen of the contexts.
use Rattle.std.proofs.Common.{◌≡◌, inl, inr, ℕ, ◌+◌, ◌-◌, ◌<◌, ◌≤◌, Bool, true, false, cond, List, [], ◌∷◌}
use Rattle.std.proofs.Common.{◌++◌, length, Option, Some, None, refl, sym, ap, subst, ◌∙◌, arith, append_assoc, true≢false}
use Rattle.std.proofs.Common.{length-append}
use Rattle.std.proofs.lemmas.Bool.{cases_Bool}
use Rattle.std.proofs.lemmas.List.{append-nil}
use Rattle.std.specs.List.{AllByRecursion}
use Rattle.std.specs.Prelude.{slice_get, ◌↔◌}
use Rattle.td_cdr.specs.Place.{At}
use Rattle.td_cdr.specs.Writing.{Draft}
use Rattle.td_typecode.specs.declared.reference.Ior.{Ior}
use Rattle.td_name_ops.specs.Outcomes.{outcome_status}
use Rattle.td_name_ops.specs.declared.call.IteratorCall.{IteratorCall}
use Rattle.td_name_ops.specs.declared.call.IteratorCall.TheVariants as iter
use Rattle.td_name_ops.specs.declared.call.NameCall.{NameCall}
use Rattle.td_name_ops.specs.declared.call.NameCall.TheVariants as call
use Rattle.td_name_ops.specs.declared.outcome.NameOutcome.{NameOutcome}
use Rattle.td_name_ops.specs.declared.outcome.NameOutcome.TheVariants as outcome
use Rattle.td_name_ops.specs.declared.outcome.NameResult.{NameResult}
use Rattle.td_name_ops.specs.declared.outcome.NameResult.TheVariants as result
use Rattle.td_names.specs.Limits.{name_fits}
use Rattle.td_names.specs.Reaching.{Reach}
use Rattle.td_names.specs.Stores.{is_live, start}
use Rattle.td_names.specs.declared.act.NameAct.{NameAct}
use Rattle.td_names.specs.declared.act.NameAct.TheVariants as act
use Rattle.td_names.specs.declared.act.NameAnswer.{NameAnswer}
use Rattle.td_names.specs.declared.act.NameAnswer.TheVariants as answer
use Rattle.td_names.specs.declared.act.NameReply.TheVariants as reply
use Rattle.td_names.specs.declared.address.Address.{Address as Home}
use Rattle.td_names.specs.declared.component.NameBinding.{NameBinding}
use Rattle.td_names.specs.declared.component.NameComponent.{NameComponent}
use Rattle.td_naming.proofs.Accepting.{legal_more, refusal_unaccepted}
use Rattle.td_naming.proofs.Following.{accepted_stand, resolves as act_resolves, stays_legal}
use Rattle.td_naming.specs.Histories.{Legal, change_at, is_accepted}
use Rattle.td_naming.specs.Views.{NamingActs, Meanwhile, View, store_seen, with_own}
use Rattle.td_naming.specs.declared.history.NameChange.{NameChange}
use Rattle.td_ior.proofs.Keys.{some-is}
use Rattle.td_name_session.proofs.Invoking.{idle_act}
use Rattle.td_name_session.specs.Judging.{JudgesOption}
use Rattle.td_name_session.specs.Keys.{context_in, key_of}
use Rattle.td_name_session.specs.Laws.{AcceptedStand, OwnPlacesAreAccepted, PointsRise, RefusalsChangeNothing}
use Rattle.td_name_session.specs.Laws.{ResolvesByReach, NeverFalls, SeenGoesOn, Stands, place_by, place_in, places_of}
use Rattle.td_name_session.specs.Outcomes.{no_memory, outcome_of}
use Rattle.td_name_session.specs.Requests.{ActComes, AnswersRequest, CallComes, OutcomeOfRequest, CutsList}
use Rattle.td_name_session.specs.Requests.{IteratorDone}
use Rattle.td_name_session.specs.Scenes.{FindsObject, Idles, IteratorList, Scene, scene}
use Rattle.td_name_session.specs.Turns.{FindsKey, IsTurn, ServedRequest, Run, Turn, journal_of, point_in, point_of}
use Rattle.td_name_session.specs.Turns.{seen_in}
use Rattle.td_name_session.specs.Turns.IsTurn.{request, locate, cancel}
use Rattle.td_name_session.specs.declared.judging.Judged.{Judged}
use Rattle.td_name_session.specs.declared.judging.Judged.TheVariants.{Call, Refused}
use Rattle.td_name_session.specs.declared.keys.NameKey.{NameKey}
use Rattle.td_name_session.specs.declared.keys.NameKey.TheVariants.{Context, Iterator}

-- ---- what is seen goes on

-- the place of an accepted change, which is the last that is seen
abbrev last_place : View → Bool → List ℕ
last_place u accepted = cond accepted ((length u.history - 1) ∷ []) []

-- What was seen was gone on with, legally. Where a change was accepted, it is the last, and the last of one's own; else
-- one's own are the same.
record Moves (v u : View) (accepted : Bool) : Type 0 where
  later : List NameChange
  history : u.history ≡ v.history ++ later
  own : u.own ≡ v.own ++ last_place u accepted
  some : accepted ≡ true → length v.history < length u.history
  legal : Legal v.home v.history → Legal u.home u.history

moves-none : (v u : View) → u ≡ v → Moves v u false
moves-none v u e = subst (λ (x : View). Moves v x false) (sym e) (record {
  later = [];
  history = sym (append-nil v.history);
  own = sym (append-nil v.own);
  some = λ is. absurd (true≢false (sym is));
  legal = λ l. l;
})

-- nothing, and then something
moves-then : (v m u : View) (accepted : Bool) → Moves v m false → Moves m u accepted → Moves v u accepted
moves-then v m u accepted f g = record {
  later = f.later ++ g.later;
  history =
      g.history ∙ ap (λ (h : List NameChange). h ++ g.later) f.history ∙ append_assoc v.history f.later g.later;
  own =
      g.own ∙ ap (λ (o : List ℕ). o ++ last_place u accepted) (f.own ∙ append-nil v.own);
  some = λ is.
      let less = g.some is in
      omega (arith, less, ap (λ (h : List NameChange). length h) f.history, length-append v.history f.later);
  legal = λ l. g.legal (f.legal l);
}

module _ (others : List NameChange → Type 0) where
  moves-meanwhile : (v u : View) → Meanwhile others v u → Moves v u false
  moves-meanwhile v u m = record {
    later = m.between;
    history = ap (λ (x : View). x.history) m.is;
    own = ap (λ (x : View). x.own) m.is ∙ sym (append-nil v.own);
    some = λ is. absurd (true≢false (sym is));
    legal = λ l.
        subst (λ (x : View). Legal x.home x.history) (sym m.is)
        (legal_more (start v.home) v.history m.between l m.legal);
  }

  moves-idle : (v u : View) → Idles others v u → Moves v u false
  moves-idle v u (inl e) = moves-none v u e
  moves-idle v u (inr m) = moves-meanwhile v u m

  moves-find : (v : View) (d : IteratorList) (key : NameKey) (live : Bool) (u : View) → FindsObject others v d key live u
      → Moves v u false
  moves-find v d (Context n) live u h = moves-meanwhile v u h.meanwhile
  moves-find v d (Iterator n) live u h = moves-none v u h.1

  moves-key : (v : View) (d : IteratorList) (key : Option NameKey) (live : Bool) (u : View) → FindsKey others v d key live u
      → Moves v u false
  moves-key v d None live u h = moves-none v u h.1
  moves-key v d (Some key) live u h = moves-find v d key live u h

  moves-judge : (v : View) (d : IteratorList) (key : Option NameKey) (operation : List ℕ) (body : At) (j : Judged) (u : View)
      → JudgesOption others v d key operation body j u → Moves v u false
  moves-judge v d None operation body j u h = moves-none v u h.1
  moves-judge v d (Some key) operation body j u h = moves-find v d key h.live u h.finds

  -- ---- a call of a context

  -- the change at the end of what others did before
  own_later : (seen u : View) (n : ℕ) (x : NameAct) (flag : Bool)
      → u ≡ cond flag (with_own seen (change_at (store_seen seen) n x)) seen → flag ≡ true
      → u.history ≡ seen.history ++ change_at (store_seen seen) n x ∷ []
  own_later seen u n x flag is e =
      ap (λ (y : View). y.history)
      (is ∙ ap (λ (b : Bool). cond b (with_own seen (change_at (store_seen seen) n x)) seen) e)

  moves-accepted : (v u : View) (n : ℕ) (x : NameAct) (r : NameAnswer) (h : NamingActs others v n x r u)
      → is_accepted x r ≡ true → Moves v u true
  moves-accepted v u n x r h flag =
      let stands = accepted_stand others v u n x r h flag in
      let change = change_at (store_seen h.seen) n x in
      let long : length u.history ≡ length stands.before + 1 =
      omega (
        arith,
        ap (λ (k : List NameChange). length k) stands.history,
        length-append stands.before (stands.change ∷ []),
      ) in
      let last : length stands.before ≡ length u.history - 1 = omega (arith, long) in
      record {
        later = h.meanwhile.between ++ change ∷ [];
        history =
            own_later h.seen u n x (is_accepted x r) h.after flag
            ∙ ap (λ (y : View). y.history ++ change ∷ []) h.meanwhile.is
            ∙ append_assoc v.history h.meanwhile.between (change ∷ []);
        own = stands.own ∙ ap (λ (k : ℕ). v.own ++ k ∷ []) last;
        some = λ is. omega (arith, long, stands.seen);
        legal = λ l. stays_legal others v u n x r h l;
      }

  moves-act : (v u : View) (n : ℕ) (x : NameAct) (r : NameAnswer) (accepted : Bool) → NamingActs others v n x r u
      → accepted ≡ is_accepted x r → Moves v u accepted
  moves-act v u n x r accepted h is = elim (cases_Bool (is_accepted x r)) [
    | inl yes_ ↦ subst (λ (b : Bool). Moves v u b) (sym (is ∙ yes_)) (moves-accepted v u n x r h yes_)
    | inr no_ ↦
        subst (λ (b : Bool). Moves v u b) (sym (is ∙ no_)) (moves-meanwhile v u (idle_act others v u n x r h no_))
  ]

  -- ---- a Request

  moves-flag : (v u : View) (accepted : Bool) → accepted ≡ false → Moves v u false → Moves v u accepted
  moves-flag v u accepted e m = subst (λ (b : Bool). Moves v u b) (sym e) m

  moves-call : (key : NameKey) (c : NameCall) (draft : Draft) (s : Scene) (o : NameOutcome) (b : Bool) (t : Scene)
      → CallComes others key c draft s o b t → Moves s.names t.names b
  moves-call key (call.Act x) draft s o b t h = moves-act s.names t.names (context_in key) x h.answer b h.acts h.is
  moves-call key (call.List n) draft s o b t h =
      moves-act s.names t.names (context_in key) act.List h.0.answer b h.0.acts h.1
  moves-call key (call.Iterator i) draft s o b t h = moves-flag s.names t.names b h.2 (moves-none s.names t.names h.1)
  moves-call key (call.IsA id) draft s o b t h =
      moves-flag s.names t.names b h.2 (moves-none s.names t.names (ap (λ (x : Scene). x.names) h.1))
  moves-call key call.NonExistent draft s o b t h =
      moves-flag s.names t.names b h.2 (moves-none s.names t.names (ap (λ (x : Scene). x.names) h.1))

  moves-answer : (j : Judged) (draft : Draft) (s : Scene) (o : NameOutcome) (b : Bool) (t : Scene)
      → AnswersRequest others j draft s o b t → Moves s.names t.names b
  moves-answer (Refused k minor) draft s o b t (inl h) =
      moves-flag s.names t.names b h.2 (moves-none s.names t.names (ap (λ (x : Scene). x.names) h.1))
  moves-answer (Call key c) draft s o b t (inl h) = moves-call key c draft s o b t h
  moves-answer j draft s o b t (inr u) = moves-flag s.names t.names b u.is (moves-idle s.names t.names u.idles)

  -- whether the turn is an accepted change
  abbrev accepts : Option ServedRequest → Bool
  accepts None = false
  accepts (Some n) = n.accepted

  moves-turn : (s : Scene) (t : Turn) → IsTurn others s t → Moves s.names t.after.names (accepts t.request)
  moves-turn s t (request r) =
      let h = r.serves in
      subst (λ (x : Option ServedRequest). Moves s.names t.after.names (accepts x)) (sym r.request)
      (moves-then s.names h.looked t.after.names h.noted.accepted
      (moves-judge s.names s.desk (key_of r.head.key) r.head.operation r.body h.noted.judged h.looked h.asks)
      (moves-answer h.noted.judged h.draft (scene h.looked s.desk) h.noted.outcome h.noted.accepted t.after h.answers))
  moves-turn s t (locate l) =
      subst (λ (x : Option ServedRequest). Moves s.names t.after.names (accepts x)) (sym l.request)
      (moves-key s.names s.desk (key_of l.key) l.live t.after.names l.finds)
  moves-turn s t (cancel c) =
      subst (λ (x : Option ServedRequest). Moves s.names t.after.names (accepts x)) (sym c.request)
      (moves-none s.names t.after.names (ap (λ (x : Scene). x.names) c.kept))

  -- ---- the point of a turn

  -- a point that is noted is the number of changes that are seen, or of those before an accepted one
  abbrev IsPoint : (seen : ℕ) → (accepted : Bool) → List ℕ → Type 0
  IsPoint seen accepted [] = accepted ≡ false
  IsPoint seen accepted (p ∷ ps) = (p ≡ point_of seen accepted) × (ps ≡ [])

  abbrev HasPoint : ℕ → Option ℕ → Option ServedRequest → Type 0
  HasPoint seen point asked = IsPoint seen (accepts asked) (point_in point)

  point_right : (s : Scene) (t : Turn) → IsTurn others s t → HasPoint (seen_in t.after) t.point t.request
  point_right s t (request r) =
      let seen = seen_in t.after in
      let here : HasPoint seen (Some r.point) (Some r.serves.noted) = (r.serves.point_is, refl) in
      subst (λ (o : Option ℕ). HasPoint seen o t.request) (sym r.point_is)
      (subst (λ (n : Option ServedRequest). HasPoint seen (Some r.point) n) (sym r.request) here)
  point_right s t (locate l) =
      let seen = seen_in t.after in
      let here : HasPoint seen (Some seen) None = (refl, refl) in
      subst (λ (o : Option ℕ). HasPoint seen o t.request) (sym l.point)
      (subst (λ (n : Option ServedRequest). HasPoint seen (Some seen) n) (sym l.request) here)
  point_right s t (cancel c) =
      let seen = seen_in t.after in
      let here : HasPoint seen None None = refl in
      subst (λ (o : Option ℕ). HasPoint seen o t.request) (sym c.point)
      (subst (λ (n : Option ServedRequest). HasPoint seen None n) (sym c.request) here)

  low_point : (v u : View) (accepted : Bool) → Moves v u accepted → length v.history ≤ point_of (length u.history) accepted
  low_point v u true m = omega (arith, m.some refl)
  low_point v u false m =
      omega (arith, ap (λ (h : List NameChange). length h) m.history, length-append v.history m.later)

  high_point : (n : ℕ) (accepted : Bool) → point_of n accepted ≤ n
  high_point n true = omega arith
  high_point n false = omega arith

  grown : (v u : View) (accepted : Bool) → Moves v u accepted → length v.history ≤ length u.history
  grown v u accepted m =
      omega (arith, ap (λ (h : List NameChange). length h) m.history, length-append v.history m.later)

  -- ---- points rise

  rises-low : (a b : ℕ) (ns : List ℕ) (high : ℕ) → a ≤ b → NeverFalls b ns high → NeverFalls a ns high
  rises-low a b [] high le h = omega (arith, le, h)
  rises-low a b (n ∷ ns) high le h = let less : a ≤ n = omega (arith, le, h.0) in (less, h.1)

  rises-on : (low : ℕ) (t : Turn) (v : View) (points ns : List ℕ) (high : ℕ)
      → IsPoint (seen_in t.after) (accepts t.request) points → Moves v t.after.names (accepts t.request)
      → low ≡ length v.history → NeverFalls (seen_in t.after) ns high
      → NeverFalls low (points ++ ns) high
  rises-on low t v [] ns high is m e h =
      rises-low low (seen_in t.after) ns high
      (let less : low ≤ seen_in t.after = omega (arith, e, grown v t.after.names (accepts t.request) m) in less) h
  rises-on low t v (p ∷ ps) ns high is m e h =
      let first : low ≤ p =
      omega (arith, e, is.0, low_point v t.after.names (accepts t.request) m) in
      let le : p ≤ seen_in t.after = omega (arith, is.0, high_point (seen_in t.after) (accepts t.request)) in (
        first,
        subst (λ (xs : List ℕ). NeverFalls p (xs ++ ns) high) (sym is.1) (rises-low p (seen_in t.after) ns high le h),
      )

  pub points-rise : PointsRise others
  points-rise s u [] r =
      let same : seen_in u ≡ seen_in s = ap (λ (x : Scene). seen_in x) r in
      let le : seen_in s ≤ seen_in u = omega (arith, same) in le
  points-rise s u (t ∷ ts) r =
      rises-on (seen_in s) t s.names (point_in t.point) (journal_of ts) (seen_in u) (point_right s t r.0)
      (moves-turn s t r.0) refl (points-rise t.after u ts r.1)

  -- ---- one's own places

  place_right : (u : View) (points : List ℕ) (asked : Option ServedRequest) → IsPoint (length u.history) (accepts asked) points
      → place_by asked points ≡ last_place u (accepts asked)
  place_right u points None is = refl
  place_right u [] (Some n) is =
      let none : List ℕ = [] in
      ap (λ (b : Bool). cond b none none) is ∙ sym (ap (λ (b : Bool). last_place u b) is)
  place_right u (p ∷ ps) (Some n) is = from n.accepted refl
    where
      from : (b : Bool) → n.accepted ≡ b → cond n.accepted (p ∷ ps) [] ≡ last_place u n.accepted
      from true flag =
          let last : ℕ = length u.history - 1 in
          let here : p ≡ last = is.0 ∙ ap (λ (x : Bool). point_of (length u.history) x) flag in
          ap (λ (b : Bool). cond b (p ∷ ps) []) flag
          ∙ ap (λ (x : ℕ). x ∷ ps) here
          ∙ ap (λ (xs : List ℕ). last ∷ xs) is.1
          ∙ sym (ap (λ (b : Bool). last_place u b) flag)
      from false flag =
          ap (λ (b : Bool). cond b (p ∷ ps) []) flag ∙ sym (ap (λ (b : Bool). last_place u b) flag)

  pub own-accepted : OwnPlacesAreAccepted others
  own-accepted s u [] r = ap (λ (x : Scene). x.names.own) r ∙ sym (append-nil s.names.own)
  own-accepted s u (t ∷ ts) r =
      own-accepted t.after u ts r.1
      ∙ ap (λ (o : List ℕ). o ++ places_of ts)
      ((moves-turn s t r.0).own
      ∙ ap (λ (o : List ℕ). s.names.own ++ o) (sym (place_right t.after.names (point_in t.point) t.request (point_right s t r.0))))
      ∙ append_assoc s.names.own (place_in t) (places_of ts)

  -- ---- what is seen goes on

  pub seen-on : SeenGoesOn others
  seen-on s u [] r = (
    ([], ap (λ (x : Scene). x.names.history) r ∙ sym (append-nil s.names.history)),
    subst (λ (x : Scene). Legal s.names.home s.names.history → Legal x.names.home x.names.history) (sym r) (λ l. l),
  )
  seen-on s u (t ∷ ts) r =
      let m = moves-turn s t r.0 in
      let rest = seen-on t.after u ts r.1 in (
        (
          m.later ++ rest.0.0,
          rest.0.1
              ∙ ap (λ (h : List NameChange). h ++ rest.0.0) m.history
              ∙ append_assoc s.names.history m.later rest.0.0,
        ),
        λ l. rest.1 (m.legal l),
      )

  -- ---- accepted changes stand

  at_seam : {X : Type 0} (xs : List X) (y : X) (ys : List X) → slice_get (xs ++ y ∷ ys) (length xs) ≡ Some y
  at_seam [] y ys = refl
  at_seam (x ∷ xs) y ys = at_seam xs y ys

  -- what rises from above a point stays above it
  above : (p low : ℕ) (ns : List ℕ) (high : ℕ) → p < low → NeverFalls low ns high → AllByRecursion (λ n. p < n) ns
  above p low [] high less h = tt
  above p low (n ∷ ns) high less h =
      let here : p < n = omega (arith, less, h.0) in (here, above p n ns high here h.1)

  -- an accepted call is one of a context
  record IsAct (v : View) (j : Judged) (u : View) : Type 0 where
    key : NameKey
    act : NameAct
    judged : j ≡ Call key (call.Act act)
    answer : NameAnswer
    acts : NamingActs others v (context_in key) act answer u
    accepted : is_accepted act answer ≡ true

  no_act : (v u : View) (j : Judged) (b : Bool) → b ≡ false → b ≡ true → IsAct v j u
  no_act v u j b no_ yes_ = absurd (true≢false (sym yes_ ∙ no_))

  call_act : (key : NameKey) (c : NameCall) (draft : Draft) (s : Scene) (o : NameOutcome) (b : Bool) (t : Scene)
      → CallComes others key c draft s o b t → b ≡ true → IsAct s.names (Call key c) t.names
  call_act key (call.Act x) draft s o b t h yes_ = record {
    key = key;
    act = x;
    judged = refl;
    answer = h.answer;
    acts = h.acts;
    accepted = sym h.is ∙ yes_;
  }
  call_act key (call.List n) draft s o b t h yes_ = no_act s.names t.names _ b h.1 yes_
  call_act key (call.Iterator i) draft s o b t h yes_ = no_act s.names t.names _ b h.2 yes_
  call_act key (call.IsA id) draft s o b t h yes_ = no_act s.names t.names _ b h.2 yes_
  call_act key call.NonExistent draft s o b t h yes_ = no_act s.names t.names _ b h.2 yes_

  answer_act : (j : Judged) (draft : Draft) (s : Scene) (o : NameOutcome) (b : Bool) (t : Scene)
      → AnswersRequest others j draft s o b t → b ≡ true → IsAct s.names j t.names
  answer_act (Refused k minor) draft s o b t (inl h) yes_ = no_act s.names t.names _ b h.2 yes_
  answer_act (Call key c) draft s o b t (inl h) yes_ = call_act key c draft s o b t h yes_
  answer_act j draft s o b t (inr u) yes_ = no_act s.names t.names _ b u.is yes_

  -- the change of a Request that was accepted, with what is seen later
  request_stands : (u : Scene) (t : Turn) (rest : List Turn) (n : ServedRequest) (point : ℕ) (looked : View)
      → t.request ≡ Some n → t.point ≡ Some point → point ≡ point_of (seen_in t.after) n.accepted → n.accepted ≡ true
      → IsAct looked n.judged t.after.names → Run others t.after rest u → Stands u t rest
  request_stands u t rest n point looked is noted point_is yes_ x run =
      let stands = accepted_stand others looked t.after.names (context_in x.key) x.act x.answer x.acts x.accepted in
      let on = (seen-on t.after u rest run).0 in
      let long : seen_in t.after ≡ length stands.before + 1 =
      omega (
        arith,
        ap (λ (k : List NameChange). length k) stands.history,
        length-append stands.before (stands.change ∷ []),
      ) in
      let content : point ≡ seen_in t.after - 1 = point_is ∙ ap (λ (b : Bool). point_of (seen_in t.after) b) yes_ in
      let here : point ≡ length stands.before = omega (arith, content, long) in
      let less : point < seen_in t.after = omega (arith, here, long) in
      let whole : u.names.history ≡ stands.before ++ stands.change ∷ on.0 =
      on.1 ∙ ap (λ (k : List NameChange). k ++ on.0) stands.history ∙ append_assoc stands.before (stands.change ∷ []) on.0 in
      record {
        point = point;
        noted = noted;
        change = stands.change;
        stands =
            ap (λ (k : List NameChange). slice_get k point) whole
            ∙ ap (λ (i : ℕ). slice_get (stands.before ++ stands.change ∷ on.0) i) here
            ∙ at_seam stands.before stands.change on.0;
        key = x.key;
        act = x.act;
        request = n;
        is = is;
        judged = x.judged;
        same = stands.is;
        later = above point (seen_in t.after) (journal_of rest) (seen_in u) less (points-rise t.after u rest run);
      }

  none-is : (t : Turn) (n : ServedRequest) → t.request ≡ None → t.request ≡ Some n → ⊥
  none-is t n e f = cc

  turn_stands : (m u : Scene) (t : Turn) (rest : List Turn) (n : ServedRequest) → IsTurn others m t → t.request ≡ Some n
      → n.accepted ≡ true → Run others t.after rest u → Stands u t rest
  turn_stands m u t rest n (request r) is yes_ run =
      let same : r.serves.noted ≡ n = some-is r.serves.noted n (sym r.request ∙ is) in
      let flag : r.serves.noted.accepted ≡ true = ap (λ (x : ServedRequest). x.accepted) same ∙ yes_ in
      request_stands u t rest r.serves.noted r.point r.serves.looked r.request r.point_is r.serves.point_is flag
      (answer_act r.serves.noted.judged r.serves.draft (scene r.serves.looked m.desk) r.serves.noted.outcome
      r.serves.noted.accepted t.after r.serves.answers flag) run
  turn_stands m u t rest n (locate l) is yes_ run = absurd (none-is t n l.request is)
  turn_stands m u t rest n (cancel c) is yes_ run = absurd (none-is t n c.request is)

  pub accepted-stand : AcceptedStand others
  accepted-stand s u [] rest t n run is yes_ = turn_stands s u t rest n run.0 is yes_ run.1
  accepted-stand s u (b ∷ bs) rest t n run is yes_ = accepted-stand b.after u bs rest t n run.1 is yes_

  -- ---- refusals

  own_same : (v u : View) → Moves v u false → u.own ≡ v.own
  own_same v u m = m.own ∙ append-nil v.own

  -- an answer that is told as an exception is no accepted change
  unaccepted : (x : NameAct) (r : NameAnswer) → (outcome_status (outcome_of r) ≡ 0 → ⊥) → is_accepted x r ≡ false
  unaccepted x (answer.Done r) h = absurd (h refl)
  unaccepted x (answer.User e) h = refusal_unaccepted x (answer.User e) refl
  unaccepted x (answer.System e) h = refusal_unaccepted x (answer.System e) refl

  refused_list : (home : Home) (r : NameAnswer) (m : ℕ) (draft : Draft) (d : IteratorList) (o : NameOutcome) (e : IteratorList)
      → CutsList home r m draft d o e → (outcome_status o ≡ 0 → ⊥) → e ≡ d
  refused_list home (answer.Done (reply.Bindings bs)) m draft d o e h no_ =
      absurd (no_ (ap (λ (x : NameOutcome). outcome_status x) h.content))
  refused_list home (answer.Done reply.Nothing) m draft d o e h no_ = h.1
  refused_list home (answer.Done (reply.Object x)) m draft d o e h no_ = h.1
  refused_list home (answer.User x) m draft d o e h no_ = h.1
  refused_list home (answer.System x) m draft d o e h no_ = h.1

  done_not : (o : NameOutcome) (r : NameResult) → o ≡ outcome.Done r → (outcome_status o ≡ 0 → ⊥) → ⊥
  done_not o r e no_ = no_ (ap (λ (x : NameOutcome). outcome_status x) e)

  refused_iterator : (n : ℕ) (left : Option (List NameBinding)) (i : IteratorCall) (draft : Draft) (d : IteratorList)
      (o : NameOutcome) (e : IteratorList) → IteratorDone n left i draft d o e → (outcome_status o ≡ 0 → ⊥) → e ≡ d
  refused_iterator n None i draft d o e h no_ = h.1
  refused_iterator n (Some left) iter.NextOne draft d o e h no_ = absurd (done_not o _ h.0 no_)
  refused_iterator n (Some left) (iter.NextN m) draft d o e h no_ = absurd (done_not o _ h.content no_)
  refused_iterator n (Some left) iter.Destroy draft d o e h no_ = absurd (done_not o _ h.0 no_)

  -- the iterators are as they were
  refused_call : (key : NameKey) (c : NameCall) (draft : Draft) (s : Scene) (o : NameOutcome) (b : Bool) (t : Scene)
      → CallComes others key c draft s o b t → (outcome_status o ≡ 0 → ⊥) → t.desk ≡ s.desk
  refused_call key (call.Act x) draft s o b t h no_ = h.desk
  refused_call key (call.List n) draft s o b t h no_ =
      refused_list s.names.home h.0.answer n draft s.desk o t.desk h.0.cuts no_
  refused_call key (call.Iterator i) draft s o b t h no_ = refused_iterator _ _ i draft s.desk o t.desk h.0 no_
  refused_call key (call.IsA id) draft s o b t h no_ = ap (λ (x : Scene). x.desk) h.1
  refused_call key call.NonExistent draft s o b t h no_ = ap (λ (x : Scene). x.desk) h.1

  refused_answer : (j : Judged) (draft : Draft) (s : Scene) (o : NameOutcome) (b : Bool) (t : Scene)
      → AnswersRequest others j draft s o b t → (outcome_status o ≡ 0 → ⊥) → t.desk ≡ s.desk
  refused_answer (Refused k minor) draft s o b t (inl h) no_ = ap (λ (x : Scene). x.desk) h.1
  refused_answer (Call key c) draft s o b t (inl h) no_ = refused_call key c draft s o b t h no_
  refused_answer j draft s o b t (inr u) no_ = u.desk

  -- and it is no accepted change
  unaccepted_call : (key : NameKey) (c : NameCall) (draft : Draft) (s : Scene) (o : NameOutcome) (b : Bool) (t : Scene)
      → CallComes others key c draft s o b t → (outcome_status o ≡ 0 → ⊥) → b ≡ false
  unaccepted_call key (call.Act x) draft s o b t h no_ =
      h.is
      ∙ unaccepted x h.answer (λ e. no_ (ap (λ (y : NameOutcome). outcome_status y) h.content ∙ e))
  unaccepted_call key (call.List n) draft s o b t h no_ = h.1
  unaccepted_call key (call.Iterator i) draft s o b t h no_ = h.2
  unaccepted_call key (call.IsA id) draft s o b t h no_ = h.2
  unaccepted_call key call.NonExistent draft s o b t h no_ = h.2

  unaccepted_answer : (j : Judged) (draft : Draft) (s : Scene) (o : NameOutcome) (b : Bool) (t : Scene)
      → AnswersRequest others j draft s o b t → (outcome_status o ≡ 0 → ⊥) → b ≡ false
  unaccepted_answer (Refused k minor) draft s o b t (inl h) no_ = h.2
  unaccepted_answer (Call key c) draft s o b t (inl h) no_ = unaccepted_call key c draft s o b t h no_
  unaccepted_answer j draft s o b t (inr u) no_ = u.is

  pub refusals : RefusalsChangeNothing others
  refusals s t n (request r) is no_ =
      let h = r.serves in
      let same : h.noted ≡ n = some-is h.noted n (sym r.request ∙ is) in
      let none : outcome_status h.noted.outcome ≡ 0 → ⊥ =
      λ e. no_ (ap (λ (x : ServedRequest). outcome_status x.outcome) (sym same) ∙ e) in
      let flag : h.noted.accepted ≡ false =
      unaccepted_answer h.noted.judged h.draft (scene h.looked s.desk) h.noted.outcome h.noted.accepted t.after
      h.answers none in
      let moved : Moves s.names t.after.names false =
      subst (λ (b : Bool). Moves s.names t.after.names b)
      (ap (λ (x : Option ServedRequest). accepts x) r.request ∙ flag) (moves-turn s t (request r)) in (
        own_same s.names t.after.names moved,
        refused_answer h.noted.judged h.draft (scene h.looked s.desk) h.noted.outcome h.noted.accepted t.after
            h.answers none,
      )
  refusals s t n (locate l) is no_ = absurd (none-is t n l.request is)
  refusals s t n (cancel c) is no_ = absurd (none-is t n c.request is)

  -- ---- names are resolved by what they reach

  -- an answer that is told as an object is one
  object_content : (r : NameAnswer) (object : Ior) → outcome_of r ≡ outcome.Done (result.Object object)
      → r ≡ answer.Done (reply.Object object)
  object_content (answer.Done reply.Nothing) object e = absurd cc
  object_content (answer.Done (reply.Object x)) object e =
      ap (λ (y : Ior). answer.Done (reply.Object y)) (let same : x ≡ object = cc in same)
  object_content (answer.Done (reply.Bindings bs)) object e = absurd cc
  object_content (answer.User x) object e = absurd cc
  object_content (answer.System x) object e = absurd cc

  resolves_call : (key : NameKey) (name : List NameComponent) (s : Scene) (o : NameOutcome) (b : Bool) (t : Scene)
      (object : Ior) → ActComes others (context_in key) (act.Resolve name) s o b t → name_fits name ≡ true
      → is_live (store_seen t.names) (context_in key) ≡ true
      → (o ≡ outcome.Done (result.Object object)) ↔ Reach (store_seen t.names) (context_in key) name object
  resolves_call key name s o b t object h fits live =
      let both =
      act_resolves others s.names t.names (context_in key) name h.answer object h.acts fits live in (
        λ done. both.0 (object_content h.answer object (sym h.content ∙ done)),
        λ reach. h.content ∙ ap outcome_of (both.1 reach),
      )

  resolves_answer : (j : Judged) (key : NameKey) (name : List NameComponent) (draft : Draft) (s : Scene)
      (o : NameOutcome) (b : Bool) (t : Scene) (object : Ior) → AnswersRequest others j draft s o b t
      → j ≡ Call key (call.Act (act.Resolve name)) → name_fits name ≡ true
      → is_live (store_seen t.names) (context_in key) ≡ true → (o ≡ no_memory → ⊥)
      → (o ≡ outcome.Done (result.Object object)) ↔ Reach (store_seen t.names) (context_in key) name object
  resolves_answer j key name draft s o b t object (inl h) is fits live some =
      resolves_call key name s o b t object (subst (λ (x : Judged). OutcomeOfRequest others x draft s o b t) is h) fits live
  resolves_answer j key name draft s o b t object (inr u) is fits live some = absurd (some u.content)

  pub resolves : ResolvesByReach others
  resolves s t n key name object (request r) is judged fits live some =
      let h = r.serves in
      let same : h.noted ≡ n = some-is h.noted n (sym r.request ∙ is) in
      subst
      (λ (x : NameOutcome). (x ≡ outcome.Done (result.Object object))
      ↔ Reach (store_seen t.after.names) (context_in key) name object)
      (ap (λ (x : ServedRequest). x.outcome) same)
      (resolves_answer h.noted.judged key name h.draft (scene h.looked s.desk) h.noted.outcome h.noted.accepted t.after
      object h.answers (ap (λ (x : ServedRequest). x.judged) same ∙ judged) fits live
      (λ e. some (ap (λ (x : ServedRequest). x.outcome) (sym same) ∙ e)))
  resolves s t n key name object (locate l) is judged fits live some = absurd (none-is t n l.request is)
  resolves s t n key name object (cancel c) is judged fits live some = absurd (none-is t n c.request is)
