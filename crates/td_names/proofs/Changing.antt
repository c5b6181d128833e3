-- What each call comes to: refused, accepted as one change, or nothing that changes.
use Rattle.std.proofs.Common.{◌≡◌, ℕ, ◌+◌, Bool, true, false, cond, ◌||◌, [], ◌∷◌, Option, None, Some, Result, Ok, Err}
use Rattle.std.proofs.Common.{nat_eq, refl, subst, sym}
use Rattle.std.proofs.Common.{inl, inr, List}
use Rattle.std.proofs.lemmas.Bool.{cases_Bool}
use Rattle.std.specs.Prelude.{IfErr}
use Rattle.td_typecode.specs.declared.reference.Ior.{Ior}
use Rattle.td_names.specs.Applying.{AppliesCall, at_place, bound_anew, context_bound_anew, destroy_context, done}
use Rattle.td_names.specs.Applying.{done_at}
use Rattle.td_names.specs.Applying.{done_where, next_reference, rebound, resolve_component, set_bindings, unbound}
use Rattle.td_names.specs.Applying.{unless_full, with_bound, with_bound_context, with_context, without_bound}
use Rattle.td_names.specs.Changing.{ChangesStore, change_reply, is_change}
use Rattle.td_names.specs.Changing.ChangesStore.{refused, other, accepted}
use Rattle.td_names.specs.Refusing.{is_refusal}
use Rattle.td_names.specs.Stores.{Bindings, Store, bindings_full, bindings_of, bound_in, changes_full, contexts_full}
use Rattle.td_names.specs.Limits.{name_fits}
use Rattle.td_names.specs.Walking.{holder, last_of, next_context, not_context, not_found, not_object, place, through}
use Rattle.td_names.specs.Walking.{through_context}
use Rattle.td_names.specs.declared.act.NameAct.{NameAct}
use Rattle.td_names.specs.declared.act.NameAct.TheVariants as act
use Rattle.td_names.specs.declared.act.NameAnswer.{NameAnswer}
use Rattle.td_names.specs.declared.act.NameAnswer.TheVariants.{Done, System}
use Rattle.td_names.specs.declared.act.NameRefusal.TheVariants.{ImpLimit}
use Rattle.td_names.specs.declared.act.NameReply.TheVariants as reply
use Rattle.td_names.specs.declared.component.Bound.{Bound}
use Rattle.td_names.specs.declared.component.NameComponent.{NameComponent}

abbrev Comes : Store → NameAct → Store × NameAnswer → Type 0
Comes s a p = ChangesStore s a p.1 p.0

unless : (full : Bool) (s t : Store) (a : NameAct) (r : NameAnswer) → is_change a ≡ true → r ≡ Done (change_reply s a)
    → t.changes ≡ s.changes + 1 → Comes s a (unless_full full s t r)
unless true s t a r change content more = refused refl refl
unless false s t a r change content more = accepted change content more

-- ---- a walk that ends in no context ends in a refusal

abbrev Refuses : Result ℕ NameAnswer → Type 0
Refuses p = IfErr p (λ r. is_refusal r ≡ true)

context_refuses : (o : Option ℕ) (b : Bound) (rest : List NameComponent) (go : ℕ → Result ℕ NameAnswer)
    → ((d : ℕ) → Refuses (go d)) → Refuses (through_context o b rest go)
context_refuses None b rest go h = refl
context_refuses (Some d) b rest go h = h d

bound_refuses : (flag : Bool) (s : Store) (b : Bound) (name rest : List NameComponent) (go : ℕ → Result ℕ NameAnswer)
    → ((d : ℕ) → Refuses (go d))
    → Refuses (cond flag (through_context (next_context s b) b rest go) (Err (not_found not_context name)))
bound_refuses true s b name rest go h = context_refuses (next_context s b) b rest go h
bound_refuses false s b name rest go h = refl

through_refuses : (s : Store) (o : Option Bound) (name rest : List NameComponent) (go : ℕ → Result ℕ NameAnswer)
    → ((d : ℕ) → Refuses (go d)) → Refuses (through s o name rest go)
through_refuses s None name rest go h = refl
through_refuses s (Some b) name rest go h = bound_refuses b.context s b name rest go h

holder_refuses : (s : Store) (c : ℕ) (name : List NameComponent) → Refuses (holder s c name)
holder_refuses s c [] = refl
holder_refuses s c (k ∷ []) = tt
holder_refuses s c (k ∷ l ∷ ks) =
    through_refuses s (bound_in s c k) (k ∷ l ∷ ks) (l ∷ ks) (λ d. holder s d (l ∷ ks))
    (λ d. holder_refuses s d (l ∷ ks))

fitting_refuses : (fits : Bool) (p : Result ℕ NameAnswer) → Refuses p → Refuses (cond fits p (Err (System ImpLimit)))
fitting_refuses true p h = h
fitting_refuses false p h = refl

place_refuses : (s : Store) (c : ℕ) (name : List NameComponent) → Refuses (place s c name)
place_refuses s c name = fitting_refuses (name_fits name) (holder s c name) (holder_refuses s c name)

-- ---- each call

at : (s : Store) (a : NameAct) (p : Result ℕ NameAnswer) (go : ℕ → Store × NameAnswer) → Refuses p
    → ((d : ℕ) → Comes s a (go d)) → Comes s a (at_place s p go)
at s a (Ok d) go r h = h d
at s a (Err x) go r h = refused r refl

-- where a bind is asked for, whose accepted change is answered with nothing
bound_so : (s : Store) (a : NameAct) (d : ℕ) (k : NameComponent) (b : Bound) (o : Option Bound) → is_change a ≡ true
    → done ≡ Done (change_reply s a) → Comes s a (bound_anew s d k b o)
bound_so s a d k b (Some old) change content = refused refl refl
bound_so s a d k b None change content =
    unless (changes_full s || bindings_full s) s (with_bound s d k b) a done change content refl

rebound_so : (s : Store) (name : List NameComponent) (d : ℕ) (k : NameComponent) (x : Ior) (o : Option Bound)
    → Comes s (act.Rebind name x) (rebound s d k x o)
rebound_so s name d k x None =
    unless (changes_full s || bindings_full s) s (with_bound s d k (record { context = false; object = x }))
    (act.Rebind name x) done refl refl refl
rebound_so s name d k x (Some old) = on old.context
  where
    on : (flag : Bool)
        → Comes s (act.Rebind name x) (cond flag (s, not_found not_object (k ∷ []))
        (unless_full (changes_full s) s (with_bound s d k (record { context = false; object = x })) done))
    on true = refused refl refl
    on false =
        unless (changes_full s) s (with_bound s d k (record { context = false; object = x })) (act.Rebind name x) done
        refl refl refl

resolved_so : (s : Store) (name : List NameComponent) (k : NameComponent) (o : Option Bound)
    → Comes s (act.Resolve name) (resolve_component s k o)
resolved_so s name k None = other refl refl
resolved_so s name k (Some b) = other refl refl

unbound_so : (s : Store) (name : List NameComponent) (d : ℕ) (k : NameComponent) (o : Option Bound)
    → Comes s (act.Unbind name) (unbound s d k o)
unbound_so s name d k None = refused refl refl
unbound_so s name d k (Some b) =
    unless (changes_full s) s (without_bound s d k) (act.Unbind name) done refl refl refl

context_so : (s : Store) (name : List NameComponent) (d : ℕ) (k : NameComponent) (o : Option Bound)
    → Comes s (act.BindNewContext name) (context_bound_anew s d k o)
context_so s name d k (Some old) = refused refl refl
context_so s name d k None =
    unless (changes_full s || bindings_full s || contexts_full s) s (with_bound_context s d k)
    (act.BindNewContext name) (Done (reply.Object (next_reference s))) refl refl refl

destroyed_so : (s : Store) (c : ℕ) (bs : Bindings) → Comes s act.Destroy (destroy_context s c bs)
destroyed_so s c [] = elim (cases_Bool (nat_eq c 1)) [
  | inl root ↦ rw root (refused refl refl)
  | inr not_root ↦
      rw not_root (unless (changes_full s) s (set_bindings s c None) act.Destroy done refl refl refl)
]
destroyed_so s c (b ∷ bs) = elim (cases_Bool (nat_eq c 1)) [
  | inl root ↦ rw root (refused refl refl)
  | inr not_root ↦ rw not_root (refused refl refl)
]

done_so : (s : Store) (c : ℕ) (bs : Bindings) (a : NameAct) → Comes s a (done_at s c bs a)
done_so s c bs (act.Bind name o) =
    at s (act.Bind name o) (place s c name) _ (place_refuses s c name)
    (λ d. bound_so s (act.Bind name o) d (last_of name) _ (bound_in s d (last_of name)) refl refl)
done_so s c bs (act.BindContext name o) =
    at s (act.BindContext name o) (place s c name) _ (place_refuses s c name)
    (λ d. bound_so s (act.BindContext name o) d (last_of name) _ (bound_in s d (last_of name)) refl refl)
done_so s c bs (act.Rebind name o) =
    at s (act.Rebind name o) (place s c name) _ (place_refuses s c name)
    (λ d. rebound_so s name d (last_of name) o (bound_in s d (last_of name)))
done_so s c bs (act.Resolve name) =
    at s (act.Resolve name) (place s c name) _ (place_refuses s c name)
    (λ d. resolved_so s name (last_of name) (bound_in s d (last_of name)))
done_so s c bs (act.Unbind name) =
    at s (act.Unbind name) (place s c name) _ (place_refuses s c name)
    (λ d. unbound_so s name d (last_of name) (bound_in s d (last_of name)))
done_so s c bs act.NewContext =
    unless (changes_full s || contexts_full s) s (with_context s) act.NewContext
    (Done (reply.Object (next_reference s))) refl refl refl
done_so s c bs (act.BindNewContext name) =
    at s (act.BindNewContext name) (place s c name) _ (place_refuses s c name)
    (λ d. context_so s name d (last_of name) (bound_in s d (last_of name)))
done_so s c bs act.Destroy = destroyed_so s c bs
done_so s c bs act.List = other refl refl

where_so : (s : Store) (c : ℕ) (o : Option Bindings) (a : NameAct) → Comes s a (done_where s c o a)
where_so s c None a = refused refl refl
where_so s c (Some bs) a = done_so s c bs a

pub changes_or_keeps : (s t : Store) (c : ℕ) (a : NameAct) (r : NameAnswer) → AppliesCall s c a r t → ChangesStore s a r t
changes_or_keeps s t c a r h =
    subst (λ (p : Store × NameAnswer). Comes s a p) (sym h) (where_so s c (bindings_of s c) a)
