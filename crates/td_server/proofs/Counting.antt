-- Each visitor is served once and handed on, and no two sessions share a change.
use Rattle.std.proofs.Common.{◌≡◌, ◌⊎◌, inl, inr, ℕ, suc, ◌+◌, Bool, true, false, List, [], ◌∷◌, ◌++◌, map, length}
use Rattle.std.proofs.Common.{Option, None, Some, option_map, IsPermutation, refl, sym, ap, subst, ◌∙◌, append_assoc}
use Rattle.std.proofs.Common.{append-nil, arith}
use Rattle.std.proofs.lemmas.List.{length-append, map-append}
use Rattle.std.proofs.lemmas.List.Sorted.{IsPermutation-append_left, IsPermutation-middle, IsPermutation-pop_more}
use Rattle.std.proofs.lemmas.List.Sorted.{IsPermutation-refl}
use Rattle.td_accept.specs.Doors.{VisitorComes, Door}
use Rattle.td_cdr.specs.Marks.{In}
use Rattle.td_workers.specs.JobSources.{came, closed, over, went}
use Rattle.td_server.specs.JobSourceLaws.{handed_all, handed_none}
use Rattle.td_server.specs.Kinds.{ServerKind, Laws}
use Rattle.td_server.specs.Sessions.{SessionStart, ComesIn, ComesToAnEnd, SessionResult, GoesOut, HandedSession}
use Rattle.td_server.specs.Sessions.{WordsBySeeding, ServesSession}
use Rattle.td_server.specs.Sessions.{ServesOn, ServerState, HandedSessions, with_session, with_sessions}
use Rattle.td_server.specs.Whole.{AreApart, AreNumbered, BeginsAfter, Every, HasChangedOnce, HaveCome, Visit}
use Rattle.td_server.specs.Whole.{Whole, handed_session}

-- ---- lists

every_snoc : {X : Type 0} (P : X → Type 0) (xs : List X) (x : X) → Every P xs → P x → Every P (xs ++ x ∷ [])
every_snoc P [] x p q = (q, tt)
every_snoc P (y ∷ xs) x p q = (p.0, every_snoc P xs x p.1 q)

every_on : {X : Type 0} (P Q : X → Type 0) (xs : List X) → ((x : X) → P x → Q x) → Every P xs → Every Q xs
every_on P Q [] f p = tt
every_on P Q (x ∷ xs) f p = (f x p.0, every_on P Q xs f p.1)

every_without : {X : Type 0} (P : X → Type 0) (before after : List X) (x : X) → Every P (before ++ x ∷ after)
    → Every P (before ++ after)
every_without P [] after x p = p.1
every_without P (y ∷ before) after x p = (p.0, every_without P before after x p.1)

every_here : {X : Type 0} (P : X → Type 0) (before after : List X) (x : X) → Every P (before ++ x ∷ after) → P x
every_here P [] after x p = p.0
every_here P (y ∷ before) after x p = every_here P before after x p.1

numbered_snoc : {k : ServerKind} {X : Type 0} (n : ℕ) (bs : List (SessionStart k X)) (b : SessionStart k X) → AreNumbered n bs
    → b.number ≡ n + length bs → AreNumbered n (bs ++ b ∷ [])
numbered_snoc n [] b p e = (e ∙ (let z : n + 0 ≡ n = omega arith in z), tt)
numbered_snoc n (x ∷ bs) b p e =
    (p.0, numbered_snoc (n + 1) bs b p.1 (e ∙ (let z : n + suc (length bs) ≡ n + 1 + length bs = omega arith in z)))

module _ {k : ServerKind} {X : Type 0} where
  -- ---- acts

  changed_more : (i : k.Thing) (place : ℕ) (vs : List (Visit k X)) (v : Visit k X) → HasChangedOnce i place (vs ++ v ∷ [])
      → HasChangedOnce i place vs ⊎ In place (k.own v.ended.last i)
  changed_more i place [] v (inl h) = inr h
  changed_more i place [] v (inr f) = absurd f
  changed_more i place (x ∷ vs) v (inl h) = inl (inl h)
  changed_more i place (x ∷ vs) v (inr h) =
      elim (changed_more i place vs v h) as (λ _. HasChangedOnce i place (x ∷ vs) ⊎ In place (k.own v.ended.last i))
      [ inl p ↦ inl (inr p) | inr p ↦ inr p ]

  changed_snoc : (i : k.Thing) (place : ℕ) (vs : List (Visit k X)) (v : Visit k X)
      → HasChangedOnce i place vs ⊎ In place (k.own v.ended.last i) → HasChangedOnce i place (vs ++ v ∷ [])
  changed_snoc i place [] v (inl f) = absurd f
  changed_snoc i place [] v (inr h) = inl h
  changed_snoc i place (x ∷ vs) v (inl (inl h)) = inl h
  changed_snoc i place (x ∷ vs) v (inl (inr h)) = inr (changed_snoc i place vs v (inl h))
  changed_snoc i place (x ∷ vs) v (inr h) = inr (changed_snoc i place vs v (inr h))

  apart_snoc : (vs : List (Visit k X)) (v : Visit k X) → AreApart vs
      → ((i : k.Thing) (place : ℕ) → HasChangedOnce i place vs → In place (k.own v.ended.last i) → ⊥) → AreApart (vs ++ v ∷ [])
  apart_snoc [] v a f = ((λ i place h z. z), tt)
  apart_snoc (x ∷ vs) v a f = (
    (λ i place h z. elim (changed_more i place vs v z) as (λ _. ⊥)
        [ inl p ↦ a.0 i place h p | inr p ↦ f i place (inl h) p ]),
    apart_snoc vs v a.1 (λ i place h. f i place (inr h)),
  )

module _ (k : ServerKind) {X : Type 0} where
  -- ---- what has come, and what was handed on

  -- these have come, and the rest is left
  abbrev CameSo : Option (Door X) → List (SessionStart k X) → Option (Door X) → Type 0
  CameSo None bs now = now ≡ None
  CameSo (Some d) bs now =
      (rest : List X) × (d.visitors ≡ map (λ (b : SessionStart k X). b.visitor) bs ++ rest)
      × (now ≡ Some (record d { visitors = rest }))

  abbrev CameBy : Bool → Option (Door X) → List (SessionStart k X) → Option (Door X) → Type 0
  CameBy true door bs now = CameSo door bs now
  CameBy false door bs now = HaveCome door bs now

  came_none : (door : Option (Door X)) → CameSo door [] door
  came_none None = refl
  came_none (Some d) = (d.visitors, refl, refl)

  came_more : (door now after : Option (Door X)) (bs : List (SessionStart k X)) (b : SessionStart k X) → CameSo door bs now
      → VisitorComes (Some b.visitor) now after → CameSo door (bs ++ b ∷ []) after
  came_more None now after bs b p q = subst (λ (o : Option (Door X)). VisitorComes (Some b.visitor) o after) p q
  came_more (Some d) now after bs b p q =
      let here : VisitorComes (Some b.visitor) (Some (record d { visitors = p.0 })) after =
      subst (λ (o : Option (Door X)). VisitorComes (Some b.visitor) o after) p.2 q in
      let visitor : SessionStart k X → X = λ (x : SessionStart k X). x.visitor in (
        here.0,
        p.1 ∙ ap (λ (l : List X). map visitor bs ++ l) here.1
            ∙ sym (append_assoc (map visitor bs) (b.visitor ∷ []) here.0)
            ∙ ap (λ (l : List X). l ++ here.0) (sym (map-append visitor bs (b ∷ []))),
        here.2,
      )

  came_all : (door now after : Option (Door X)) (bs : List (SessionStart k X)) → CameSo door bs now → VisitorComes None now after
      → HaveCome door bs after
  came_all None now after bs p q = subst (λ (o : Option (Door X)). VisitorComes {X = X} None o after) p q
  came_all (Some d) now after bs p q =
      let here : VisitorComes {X = X} None (Some (record d { visitors = p.0 })) after =
      subst (λ (o : Option (Door X)). VisitorComes {X = X} None o after) p.2 q in
      let visitor : SessionStart k X → X = λ (x : SessionStart k X). x.visitor in (
        p.1 ∙ ap (λ (l : List X). map visitor bs ++ l) here.0 ∙ append-nil (map visitor bs),
        here.1 ∙ ap (λ (l : List X). Some (record d { visitors = l })) here.0,
      )

  content_more : (content now after : Option (HandedSessions k X)) (hs : List (HandedSession k X)) (h : HandedSession k X)
      → now ≡ option_map (with_sessions {k = k} hs) content → after ≡ option_map (with_session {k = k} h) now
      → after ≡ option_map (with_sessions {k = k} (hs ++ h ∷ [])) content
  content_more content now after hs h p q = q ∙ ap (option_map (with_session {k = k} h)) p ∙ sym (handed_all content hs (h ∷ []))

-- ---- so far

abbrev begun_of : {k : ServerKind} {X : Type 0} → Visit k X → SessionStart k X
begun_of v = v.begun

abbrev of_out : {k : ServerKind} {X : Type 0} → ℕ × SessionStart k X → SessionStart k X
of_out x = x.1

module _ {k : ServerKind} (laws : Laws k) {X : Type 0} (outside_of : X → k.Outside) (seeded : X → WordsBySeeding) where
  -- on the way from s: so many have come, and these sessions go on
  record Past (more : Bool) (s h : ServerState k X) (n : ℕ) (out : List (ℕ × SessionStart k X)) : Type 0 where
    came_in : List (SessionStart k X)
    visits : List (Visit k X)
    count : length came_in ≡ n
    numbered : AreNumbered 1 came_in
    given : h.given ≡ s.given
    seed : h.seed ≡ s.seed
    on : k.Continues s.world h.world
    begin : Every (BeginsAfter s) came_in
    door : CameBy k more s.door came_in h.door
    same : IsPermutation came_in (map begun_of visits ++ map of_out out)
    under : Every (λ (x : ℕ × SessionStart k X). x.1.number ≡ x.0) out
    content : h.content ≡ option_map (with_sessions {k = k} (map handed_session visits)) s.content
    each : Every (λ (v : Visit k X). ServesSession {k = k} outside_of seeded v.begun v.ended) visits
    seen : Every (λ (v : Visit k X). k.Continues v.ended.last h.world) visits
    apart : AreApart visits
    owned : (i : k.Thing) (place : ℕ) → HasChangedOnce i place visits → In place (k.own h.world i)
    changed : (i : k.Thing) (place : ℕ) → In place (k.own h.world i) → In place (k.own s.world i) ⊎ HasChangedOnce i place visits

  past_first : (s : ServerState k X) → Past true s s 0 []
  past_first s = record {
    came_in = [];
    visits = [];
    count = refl;
    numbered = tt;
    given = refl;
    seed = refl;
    on = laws.itself s.world;
    begin = tt;
    door = came_none k s.door;
    same = IsPermutation-refl [];
    under = tt;
    content = handed_none {k = k} s.content;
    each = tt;
    seen = tt;
    apart = tt;
    owned = λ i place f. absurd f;
    changed = λ i place h. inl h;
  }

  begin_so : (s h : ServerState k X) (b : SessionStart k X) (more : Bool) (n : ℕ) (out : List (ℕ × SessionStart k X))
      → Past more s h n out → b.given ≡ h.given → b.seed ≡ h.seed → b.first ≡ k.bare h.world → BeginsAfter s b
  begin_so s h b more n out p given seed first = record {
    given = given ∙ p.given;
    seed = seed ∙ p.seed;
    seen = subst (k.Continues s.world) (sym first) (laws.to_bare s.world h.world p.on);
    nothing_own = first ∙ sym (laws.bare_twice h.world) ∙ ap k.bare (sym first);
  }

  past_came : (s h m : ServerState k X) (n : ℕ) (out : List (ℕ × SessionStart k X)) (b : SessionStart k X) → Past true s h n out
      → ComesIn h (n + 1) b m → Past true s m (n + 1) (out ++ (n + 1, b) ∷ [])
  past_came s h m n out b p c =
      let world : m.world ≡ h.world = ap (λ (t : ServerState k X). t.world) c.rest in
      let numbered : b.number ≡ n + 1 = ap (λ (x : SessionStart k X). x.number) c.begins in
      let size : length p.came_in ≡ n = p.count in
      let all : (map begun_of p.visits ++ map of_out out) ++ b ∷ []
      ≡ map begun_of p.visits ++ map of_out (out ++ (n + 1, b) ∷ []) =
      append_assoc (map begun_of p.visits) (map of_out out) (b ∷ [])
      ∙ ap (λ (l : List (SessionStart k X)). map begun_of p.visits ++ l) (sym (map-append of_out out ((n + 1, b) ∷ []))) in
      record {
        came_in = p.came_in ++ b ∷ [];
        visits = p.visits;
        count = length-append p.came_in (b ∷ []) ∙ ap (λ (j : ℕ). j + 1) size;
        numbered =
            numbered_snoc 1 p.came_in b p.numbered
            (numbered ∙ (let z : n + 1 ≡ 1 + length p.came_in = omega (arith, size) in z));
        given = ap (λ (t : ServerState k X). t.given) c.rest ∙ p.given;
        seed = ap (λ (t : ServerState k X). t.seed) c.rest ∙ p.seed;
        on = subst (k.Continues s.world) (sym world) p.on;
        begin =
            every_snoc (BeginsAfter s) p.came_in b p.begin
            (begin_so s h b true n out p (ap (λ (x : SessionStart k X). x.given) c.begins)
            (ap (λ (x : SessionStart k X). x.seed) c.begins) (ap (λ (x : SessionStart k X). x.first) c.begins));
        door = came_more k s.door h.door m.door p.came_in b p.door c.came;
        same =
            subst (IsPermutation (p.came_in ++ b ∷ [])) all
            (IsPermutation-append_left (b ∷ []) p.came_in (map begun_of p.visits ++ map of_out out) p.same);
        under = every_snoc (λ (x : ℕ × SessionStart k X). x.1.number ≡ x.0) out (n + 1, b) p.under numbered;
        content = ap (λ (t : ServerState k X). t.content) c.rest ∙ p.content;
        each = p.each;
        seen =
            subst (λ (w : k.World). Every (λ (v : Visit k X). k.Continues v.ended.last w) p.visits) (sym world)
            p.seen;
        apart = p.apart;
        owned = λ i place h. subst (λ (w : k.World). In place (k.own w i)) (sym world) (p.owned i place h);
        changed = λ i place h. p.changed i place (subst (λ (w : k.World). In place (k.own w i)) world h);
      }

  past_closed : (s h m : ServerState k X) (n : ℕ) (out : List (ℕ × SessionStart k X)) → Past true s h n out → ComesToAnEnd h m
      → Past false s m n out
  past_closed s h m n out p c =
      let world : m.world ≡ h.world = ap (λ (t : ServerState k X). t.world) c.rest in
      record {
        came_in = p.came_in;
        visits = p.visits;
        count = p.count;
        numbered = p.numbered;
        given = ap (λ (t : ServerState k X). t.given) c.rest ∙ p.given;
        seed = ap (λ (t : ServerState k X). t.seed) c.rest ∙ p.seed;
        on = subst (k.Continues s.world) (sym world) p.on;
        begin = p.begin;
        door = came_all k s.door h.door m.door p.came_in p.door c.came;
        same = p.same;
        under = p.under;
        content = ap (λ (t : ServerState k X). t.content) c.rest ∙ p.content;
        each = p.each;
        seen =
            subst (λ (w : k.World). Every (λ (v : Visit k X). k.Continues v.ended.last w) p.visits) (sym world)
            p.seen;
        apart = p.apart;
        owned = λ i place h. subst (λ (w : k.World). In place (k.own w i)) (sym world) (p.owned i place h);
        changed = λ i place h. p.changed i place (subst (λ (w : k.World). In place (k.own w i)) world h);
      }

  past_went : (more : Bool) (s h m : ServerState k X) (n : ℕ) (before after : List (ℕ × SessionStart k X)) (number : ℕ)
      (b : SessionStart k X) (e : SessionResult k X) → Past more s h n (before ++ (number, b) ∷ after) → ServesSession {k = k} outside_of seeded b e
      → GoesOut h number e m → Past more s m n (before ++ after)
  past_went more s h m n before after number b e p d g =
      let v : Visit k X = record { begun = b; ended = e } in
      let door : m.door ≡ h.door = ap (λ (t : ServerState k X). t.door) g.rest in
      let numbered : b.number ≡ number =
      every_here (λ (x : ℕ × SessionStart k X). x.1.number ≡ x.0) before after (number, b) p.under in
      let left : IsPermutation (map of_out (before ++ (number, b) ∷ after)) (b ∷ map of_out (before ++ after)) =
      subst (λ (l : List (SessionStart k X)). IsPermutation (map of_out (before ++ (number, b) ∷ after)) (b ∷ l))
      (sym (map-append of_out before after))
      (subst (λ (l : List (SessionStart k X)). IsPermutation l (b ∷ (map of_out before ++ map of_out after)))
      (sym (map-append of_out before ((number, b) ∷ after)))
      (IsPermutation-middle (map of_out before) b (map of_out after))) in
      let once : IsPermutation p.came_in ((map begun_of p.visits ++ b ∷ []) ++ map of_out (before ++ after)) =
      IsPermutation-pop_more p.came_in (map begun_of p.visits) (map of_out (before ++ (number, b) ∷ after))
      (map of_out (before ++ after)) b p.same left in
      let on : k.Continues h.world m.world = laws.before h.world e.last m.world g.joined in
      let content : m.content ≡ option_map (with_sessions {k = k} (map handed_session p.visits ++ handed_session v ∷ [])) s.content =
      content_more k s.content h.content m.content (map handed_session p.visits) (handed_session v) p.content
      (g.handed
      ∙ ap (λ (j : ℕ). option_map (with_session {k = k}
      (record { number = j; visitor = e.visitor; limited = e.limited; kept = e.kept })) h.content) (sym numbered)) in
      record {
        came_in = p.came_in;
        visits = p.visits ++ v ∷ [];
        count = p.count;
        numbered = p.numbered;
        given = ap (λ (t : ServerState k X). t.given) g.rest ∙ p.given;
        seed = ap (λ (t : ServerState k X). t.seed) g.rest ∙ p.seed;
        on = laws.on s.world h.world m.world p.on on;
        begin = p.begin;
        door = subst (λ (o : Option (Door X)). CameBy k more s.door p.came_in o) (sym door) p.door;
        same =
            subst (λ (l : List (SessionStart k X)). IsPermutation p.came_in (l ++ map of_out (before ++ after)))
            (sym (map-append begun_of p.visits (v ∷ []))) once;
        under = every_without (λ (x : ℕ × SessionStart k X). x.1.number ≡ x.0) before after (number, b) p.under;
        content =
            content ∙ ap (λ (l : List (HandedSession k X)). option_map (with_sessions {k = k} l) s.content)
            (sym (map-append handed_session p.visits (v ∷ [])));
        each = every_snoc (λ (x : Visit k X). ServesSession {k = k} outside_of seeded x.begun x.ended) p.visits v p.each d;
        seen =
            every_snoc (λ (x : Visit k X). k.Continues x.ended.last m.world) p.visits v
            (every_on (λ (x : Visit k X). k.Continues x.ended.last h.world)
            (λ (x : Visit k X). k.Continues x.ended.last m.world) p.visits
            (λ x i. laws.on x.ended.last h.world m.world i on) p.seen)
            (laws.seen h.world e.last m.world g.joined);
        apart =
            apart_snoc p.visits v p.apart
            (λ i place a z. laws.apart h.world e.last m.world i place g.joined (p.owned i place a) z);
        owned = λ i place z. laws.stays h.world e.last m.world i place g.joined
            (elim (changed_more i place p.visits v z) as (λ _. In place (k.own h.world i) ⊎ In place (k.own e.last i))
            [ inl j ↦ inl (p.owned i place j) | inr j ↦ inr j ]);
        changed = λ i place z.
            elim (laws.after h.world e.last m.world i place g.joined z) as
            (λ _. In place (k.own s.world i) ⊎ HasChangedOnce i place (p.visits ++ v ∷ [])) [
              | inl j ↦ elim (p.changed i place j) as
                  (λ _. In place (k.own s.world i) ⊎ HasChangedOnce i place (p.visits ++ v ∷ [])) [
                    | inl q ↦ inl q
                    | inr q ↦ inr (changed_snoc i place p.visits v (inl q))
                  ]
              | inr j ↦ inr (changed_snoc i place p.visits v (inr j))
            ];
      }

  past_over : (s h : ServerState k X) (n : ℕ) → Past false s h n [] → Whole {k = k} outside_of seeded s h
  past_over s h n p = record {
    came = p.came_in;
    visits = p.visits;
    numbered = p.numbered;
    have_come = p.door;
    begin = p.begin;
    same = subst (IsPermutation p.came_in) (append-nil (map begun_of p.visits)) p.same;
    content = p.content;
    each = p.each;
    seen = p.seen;
    apart = p.apart;
    changed = p.changed;
  }

  whole_from : {more : Bool} {h t : ServerState k X} {n : ℕ} {out : List (ℕ × SessionStart k X)} (s : ServerState k X)
      → ServesOn {k = k} outside_of seeded more h n out t → Past more s h n out → Whole {k = k} outside_of seeded s t
  whole_from s (came a w) p = whole_from s w (past_came s _ _ _ _ _ p a)
  whole_from s (closed c w) p = whole_from s w (past_closed s _ _ _ _ p c)
  whole_from s (went before after d few last g w) p = whole_from s w (past_went _ s _ _ _ before after _ _ _ p d g)
  whole_from s over p = past_over s _ _ p

  pub whole : (s t : ServerState k X) → ServesOn {k = k} outside_of seeded true s 0 [] t → Whole {k = k} outside_of seeded s t
  whole s t w = whole_from s w (past_first s)
