-- The calls of a trader through a pass, each as one turn.
use Rattle.std.proofs.Common.{◌≡◌, ℕ, ◌+◌, ◌<◌, zero, suc, List, [], ◌∷◌, ◌++◌, map, length, slice_get, slice_set}
use Rattle.std.proofs.Common.{option_map, Option, Some, None, Bool, cond, Result, Ok, Err, IfOk, OnErr, refl, sym}
use Rattle.std.proofs.Common.{◌∙◌, ap, ap₂, subst, arith, append-nil, length-append, lt-ltb, le-ltb, le_refl}
use Rattle.std.proofs.lemmas.Option.{slice_get-map}
use Rattle.std.specs.List.{IsDistinct}
use Rattle.std.specs.Str.{bytes_eq}
use Rattle.td_cdr.specs.Marks.{Later, Marks}
use Rattle.td_cdr.specs.declared.memory.Memory.{Memory}
use Rattle.td_cdr.proofs.Marking.{later_itself}
use Rattle.td_ops.specs.declared.call.Change.{Change}
use Rattle.td_ops.specs.declared.call.Look.{Look}
use Rattle.td_ops.specs.declared.call.Query.{Query}
use Rattle.td_ops.specs.declared.outcome.Outcome.{Outcome}
use Rattle.td_ops.specs.declared.outcome.Outcome.TheVariants.{Done, User, System}
use Rattle.td_register.specs.Entries.{entry}
use Rattle.td_register.specs.Stores.{Store}
use Rattle.td_register.specs.declared.history.Accepted.{Accepted}
use Rattle.td_changes.specs.Applying.{seek}
use Rattle.td_changes.specs.Histories.{LegalFrom}
use Rattle.td_changes.specs.Laws.{applied_after}
use Rattle.td_changes.specs.declared.bounds.Bounds.{Bounds}
use Rattle.td_cell.specs.Lists.{with_place}
use Rattle.td_cell.proofs.Chains.{just}
use Rattle.td_trader.specs.Admitted.{AreAdmitted}
use Rattle.td_trader.specs.Beginning.{begin_of, after_begin as marks_after}
use Rattle.td_trader.specs.OfferLimits.{HasLimitedOffers}
use Rattle.td_trader.specs.PlainTraders.{PlainTrader, after_outcome, store_of}
use Rattle.td_trader.specs.Worlds.{BeginsQuery, ChangesTrader, LooksAtTrader, View, Watches, after_begin}
use Rattle.td_trader.specs.Worlds.{after_own, name_at, name_in, number_between, store_seen, view_of, with_view}
use Rattle.td_trader.specs.declared.begin.Begin.{Begin}
use Rattle.td_group.specs.Seeing.{TurnAt}
use Rattle.td_group.specs.declared.shared_trader.Act.{Act}
use Rattle.td_group.specs.declared.shared_trader.Act.TheVariants as act
use Rattle.td_group.specs.declared.shared_trader.Reply.{Reply}
use Rattle.td_group.specs.declared.shared_trader.Reply.TheVariants as reply

-- ---- what is one's own after an act

own-same : (own : List ℕ) (n : ℕ) → with_place own n n ≡ own
own-same own n = ap (λ (b : Bool). cond b (own ++ n ∷ []) own) (le-ltb n n (le_refl n))

no-number : (m : Marks) → number_between m m ≡ []
no-number m = ap (λ (b : Bool). cond b (m.count ∷ []) []) (le-ltb m.count m.count (le_refl m.count))

own-more : (own : List ℕ) (h : List Accepted) (e : Accepted) → with_place own (length h) (length (h ++ e ∷ [])) ≡ own ++
    length h ∷ []
own-more own h e =
    let longer : length h < length (h ++ e ∷ []) = rw length-append (omega arith) in
    ap (λ (b : Bool). cond b (own ++ length h ∷ []) own) (lt-ltb (length h) (length (h ++ e ∷ [])) longer)

numbers-same : (numbers : List ℕ) (m : Marks) → numbers ++ number_between m m ≡ numbers
numbers-same numbers m = ap (λ (ns : List ℕ). numbers ++ ns) (no-number m) ∙ append-nil numbers

-- what is seen of c after a turn that found b
abbrev seen-after : View → PlainTrader → PlainTrader → View
seen-after v b c =
    view_of c (with_place v.own (length b.history) (length c.history)) (v.own_marks ++ number_between b.marks c.marks)

stays : (v : View) (b : PlainTrader) → v ≡ view_of b v.own v.own_marks → seen-after v b b ≡ v
stays v b is =
    ap₂ (λ (o n : List ℕ). view_of b o n) (own-same v.own (length b.history)) (numbers-same v.own_marks b.marks)
    ∙ sym is

unmoved : (v : View) (b c : PlainTrader) → v ≡ view_of b v.own v.own_marks → c ≡ b → seen-after v b c ≡ v
unmoved v b c is e = subst (λ (x : PlainTrader). seen-after v b x ≡ v) (sym e) (stays v b is)

changed : (v : View) (b : PlainTrader) (c : Change) (o : Outcome) → v ≡ view_of b v.own v.own_marks →
    seen-after v b (after_outcome b c o) ≡ after_own v c o
changed v b c (Done content) is =
    ap₂ (λ (o n : List ℕ). view_of (after_outcome b c (Done content)) o n) (own-more v.own b.history (entry c content))
    (numbers-same v.own_marks b.marks)
    ∙ ap (λ (x : View). after_own x c (Done content)) (sym is)
changed v b c (User f) is = stays v b is
changed v b c (System kind minor completion) is = stays v b is

begun : (v : View) (b : PlainTrader) (m : Marks) → v ≡ view_of b v.own v.own_marks →
    seen-after v b (record b { marks = m }) ≡ after_begin v m
begun v b m is =
    ap (λ (o : List ℕ). view_of (record b { marks = m }) o (v.own_marks ++ number_between b.marks m)) (own-same v.own
    (length b.history))
    ∙ ap (λ (x : View). after_begin x m) (sym is)

-- ---- the calls

module _ (w u : List View) (k : ℕ) where
  watched : (a : Act) (r : Reply) (t : TurnAt w k a r u) → t.after ≡ t.before → Watches AreAdmitted Later w k u
  watched a r t same = record {
    seen = t.seen;
    meanwhile = t.meanwhile;
    world = t.world ∙ ap (with_view w k) (unmoved t.seen t.before t.after t.seen_is same);
  }

  pub changes_ok : (c : Change) (r : Result Outcome Memory) → TurnAt w k (act.Change c) (reply.Changed r) u
      → IfOk r (λ o. ChangesTrader AreAdmitted Later w k c o u)
  changes_ok c (Ok o) t = record {
    seen = t.seen;
    meanwhile = t.meanwhile;
    outcome = t.acts.changes.0 ∙ ap (λ (v : View). (applied_after v.bounds v.opening v.history c).outcome) (sym t.seen_is);
    world =
        let after : t.after ≡ after_outcome t.before c o = t.acts.changes.1 ∙ ap (after_outcome t.before c) (sym t.acts.changes.0) in
        t.world
        ∙ ap (with_view w k) (ap (seen-after t.seen t.before) after ∙ changed t.seen t.before c o t.seen_is);
  }
  changes_ok c (Err e) t = tt

  pub changes_err : (c : Change) (r : Result Outcome Memory) → TurnAt w k (act.Change c) (reply.Changed r) u
      → OnErr r (Watches AreAdmitted Later w k u)
  changes_err c (Ok o) t = tt
  changes_err c (Err e) t = watched (act.Change c) (reply.Changed (Err e)) t t.acts.changes

  pub looks_ok : (l : Look) (r : Result (Outcome × ℕ) Memory) → TurnAt w k (act.Look l) (reply.Looked r) u
      → IfOk r (λ a. LooksAtTrader AreAdmitted Later w k l a u)
  looks_ok l (Ok a) t = record {
    seen = t.seen;
    meanwhile = t.meanwhile;
    answer = t.acts.0 ∙ ap (λ (v : View). seek (store_seen v) l) (sym t.seen_is);
    world = t.world ∙ ap (with_view w k) (unmoved t.seen t.before t.after t.seen_is t.acts.1);
  }
  looks_ok l (Err e) t = tt

  pub looks_err : (l : Look) (r : Result (Outcome × ℕ) Memory) → TurnAt w k (act.Look l) (reply.Looked r) u
      → OnErr r (Watches AreAdmitted Later w k u)
  looks_err l (Ok a) t = tt
  looks_err l (Err e) t = watched (act.Look l) (reply.Looked (Err e)) t t.acts

  pub begins_ok : (q : Query) (r : Result Begin Memory) → TurnAt w k (act.Query q) (reply.Begun r) u
      → IfOk r (λ b. BeginsQuery AreAdmitted Later w k q b u)
  begins_ok q (Ok b) t = record {
    seen = t.seen;
    meanwhile = t.meanwhile;
    begin =
        t.acts.begins.0
        ∙ ap (λ (v : View). begin_of v.bounds (store_seen v) (length v.history) v.marks q) (sym t.seen_is);
    limited = subst (λ (v : View). HasLimitedOffers (store_seen v)) (sym t.seen_is) t.acts.limited;
    world =
        t.world
        ∙ ap (with_view w k) (ap (seen-after t.seen t.before) t.acts.begins.1
        ∙ (begun t.seen t.before (marks_after (store_of t.before) t.before.marks q b) t.seen_is
        ∙ ap (λ (v : View). after_begin t.seen (marks_after (store_seen v) v.marks q b)) (sym t.seen_is)));
  }
  begins_ok q (Err e) t = tt

  pub begins_err : (q : Query) (r : Result Begin Memory) → TurnAt w k (act.Query q) (reply.Begun r) u
      → OnErr r (Watches AreAdmitted Later w k u)
  begins_err q (Ok b) t = tt
  begins_err q (Err e) t = watched (act.Query q) (reply.Begun (Err e)) t t.acts.begins

-- ---- no call at all

legal-none : (b : Bounds) (n : ℕ) (s : Store) → LegalFrom b n s []
unfolding LegalFrom
legal-none b n s = tt

some-at : {A : Type 0} (xs : List A) (k : ℕ) → k < length xs → (x : A) × (slice_get xs k ≡ Some x)
some-at [] k inside = absurd (omega arith)
some-at (x ∷ xs) zero inside = (x, refl)
some-at (x ∷ xs) (suc k) inside = some-at xs k (omega arith)

set-same : {A : Type 0} (xs : List A) (k : ℕ) (x : A) → slice_get xs k ≡ Some x → slice_set xs k x ≡ xs
set-same [] k x e = refl
set-same {A} (y ∷ xs) zero x e = ap (λ (z : A). z ∷ xs) (sym (just y x e))
set-same {A} (y ∷ xs) (suc k) x e = ap (λ (zs : List A). y ∷ zs) (set-same xs k x e)

pub nothing_done : (w : List View) (k : ℕ) → k < length w → Watches AreAdmitted Later w k w
nothing_done w k inside =
    let here = some-at w k inside in
    let v = here.0 in
    record {
      seen = v;
      meanwhile = record {
        view = v;
        between = [];
        marks = v.marks;
        is = here.1;
        may = tt;
        legal = legal-none v.bounds (length v.history) (store_seen v);
        may_mark = later_itself v.marks;
        seen_is = ap (λ (h : List Accepted). record v { history = h }) (sym (append-nil v.history));
      };
      world = sym (set-same w k v here.1);
    }

-- ---- names

pub names_of : {A : Type 0} (f : A → View) (ps : List A) → map (λ (v : View). v.name) (map f ps) ≡ map (λ (p : A). (f
    p).name) ps
names_of f [] = refl
names_of f (p ∷ ps) = ap (λ (ns : List (List ℕ)). (f p).name ∷ ns) (names_of f ps)

pub distinct_seen : {A : Type 0} (f : A → View) (ps : List A) (names : List (List ℕ)) → map (λ (p : A). (f p).name) ps
    ≡ names → IsDistinct bytes_eq names → IsDistinct bytes_eq (map (λ (v : View). v.name) (map f ps))
distinct_seen f ps names named d = subst (IsDistinct bytes_eq) (sym (names_of f ps ∙ named)) d

name-there : {A : Type 0} (f : A → View) (o : Option A) (n : List ℕ) → option_map (λ (p : A). (f p).name) o ≡ Some n
    → name_in (option_map f o) ≡ n
name-there f None n e = absurd (let bad : ⊥ = cc in bad)
name-there f (Some p) n e = just (f p).name n e

pub name_seen : {A : Type 0} (f : A → View) (ps : List A) (names : List (List ℕ)) (k : ℕ) (n : List ℕ)
    → map (λ (p : A). (f p).name) ps ≡ names → slice_get names k ≡ Some n → name_at (map f ps) k ≡ n
name_seen {A} f ps names k n named at =
    ap name_in (slice_get-map f ps k)
    ∙ name-there f (slice_get ps k) n (sym (slice_get-map (λ (p : A). (f p).name) ps k) ∙ (ap (λ (xs : List (List ℕ)).
    slice_get xs k) named ∙ at))
