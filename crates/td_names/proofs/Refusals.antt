-- What calls leave that are refused, and how much a call changes.
use Rattle.std.proofs.Common.{◌≡◌, ◌⊎◌, ℕ, ◌+◌, ◌-◌, ◌≤◌, Bool, true, false, cond, ◌||◌, List, [], ◌∷◌, ◌++◌, Option}
use Rattle.std.proofs.Common.{None, Some, Result, Ok, Err, length, nat_eq}
use Rattle.std.proofs.Common.{refl, sym, ◌∙◌, inl, inr, arith, true≢false}
use Rattle.std.proofs.lemmas.Bool.{cases_Bool}
use Rattle.std.proofs.lemmas.List.{length-set, length-append}
use Rattle.indexmap.specs.IndexMap.{insert_entry}
use Rattle.td_typecode.specs.declared.reference.Ior.{Ior}
use Rattle.td_names.specs.Applying.{AppliesCall, at_place, bound_anew, context_bound_anew, destroy_context, done}
use Rattle.td_names.specs.Applying.{done_at}
use Rattle.td_names.specs.Applying.{done_where, list_bindings, next_reference, or_none, rebound, resolve_component}
use Rattle.td_names.specs.Applying.{set_bindings}
use Rattle.td_names.specs.Applying.{unbound, unless_full, with_bound, with_bound_context, with_context, without_bound}
use Rattle.td_names.specs.Refusing.{is_refusal}
use Rattle.td_names.specs.Stores.{Bindings, Store, bindings_full, bindings_of, bound_in, changes_full, contexts_full}
use Rattle.td_names.specs.Stores.{same_component}
use Rattle.td_names.specs.Walking.{last_of, missing_node, not_found, not_object, place}
use Rattle.td_names.specs.declared.act.NameAct.{NameAct}
use Rattle.td_names.specs.declared.act.NameAct.TheVariants as act
use Rattle.td_names.specs.declared.act.NameAnswer.{NameAnswer}
use Rattle.td_names.specs.declared.act.NameAnswer.TheVariants.{Done, User, System}
use Rattle.td_names.specs.declared.act.NameException.TheVariants as fault
use Rattle.td_names.specs.declared.act.NameRefusal.TheVariants.{ImpLimit, NoImplement, ObjectNotExist}
use Rattle.td_names.specs.declared.act.NameReply.TheVariants as reply
use Rattle.td_names.specs.declared.component.Bound.{Bound}
use Rattle.td_names.specs.declared.component.NameComponent.{NameComponent}

-- what a call may leave: what was, or more by one change where it isn't refused
record Steps (s : Store) (p : Store × NameAnswer) : Type 0 where
  kept : (p.0 ≡ s) ⊎ (is_refusal p.1 ≡ false)
  home : p.0.home ≡ s.home
  least : s.changes ≤ p.0.changes
  most : p.0.changes ≤ s.changes + 1
  contexts : length s.contexts ≤ length p.0.contexts

same : (s : Store) (r : NameAnswer) → Steps s (s, r)
same s r = record { kept = inl refl; home = refl; least = omega arith; most = omega arith; contexts = omega arith }

unless : (full : Bool) (s t : Store) (r : NameAnswer) → is_refusal r ≡ false → t.home ≡ s.home
    → t.changes ≡ s.changes + 1 → length s.contexts ≤ length t.contexts → Steps s (unless_full full s t r)
unless true s t r accepted home more contexts = same s (System ImpLimit)
unless false s t r accepted home more contexts = record {
  kept = inr accepted;
  home = home;
  least = omega arith;
  most = omega arith;
  contexts = contexts;
}

setting : (s : Store) (n : ℕ) (bs : Option Bindings) → length s.contexts ≤ length (set_bindings s n bs).contexts
setting s n bs = omega (arith, length-set s.contexts (n - 1) bs)

pushing : (xs : List (Option Bindings)) (x : Option Bindings) → length xs ≤ length (xs ++ x ∷ [])
pushing xs x = omega (arith, length-append xs (x ∷ []))

at : (s : Store) (p : Result ℕ NameAnswer) (go : ℕ → Store × NameAnswer) → ((d : ℕ) → Steps s (go d))
    → Steps s (at_place s p go)
at s (Ok d) go h = h d
at s (Err r) go h = same s r

bound_so : (s : Store) (d : ℕ) (k : NameComponent) (b : Bound) (o : Option Bound) → Steps s (bound_anew s d k b o)
bound_so s d k b (Some old) = same s (User fault.AlreadyBound)
bound_so s d k b None =
    unless (changes_full s || bindings_full s) s (with_bound s d k b) done refl refl refl (setting s d _)

rebound_so : (s : Store) (d : ℕ) (k : NameComponent) (x : Ior) (o : Option Bound) → Steps s (rebound s d k x o)
rebound_so s d k x None =
    unless (changes_full s || bindings_full s) s (with_bound s d k (record { context = false; object = x })) done
    refl refl refl (setting s d _)
rebound_so s d k x (Some old) = on old.context
  where
    on : (flag : Bool)
        → Steps s (cond flag (s, not_found not_object (k ∷ []))
        (unless_full (changes_full s) s (with_bound s d k (record { context = false; object = x })) done))
    on true = same s (not_found not_object (k ∷ []))
    on false =
        unless (changes_full s) s (with_bound s d k (record { context = false; object = x })) done refl refl refl
        (setting s d _)

resolved_so : (s : Store) (k : NameComponent) (o : Option Bound) → Steps s (resolve_component s k o)
resolved_so s k None = same s (not_found missing_node (k ∷ []))
resolved_so s k (Some b) = same s (Done (reply.Object b.object))

unbound_so : (s : Store) (d : ℕ) (k : NameComponent) (o : Option Bound) → Steps s (unbound s d k o)
unbound_so s d k None = same s (not_found missing_node (k ∷ []))
unbound_so s d k (Some b) = unless (changes_full s) s (without_bound s d k) done refl refl refl (setting s d _)

context_so : (s : Store) (d : ℕ) (k : NameComponent) (o : Option Bound) → Steps s (context_bound_anew s d k o)
context_so s d k (Some old) = same s (User fault.AlreadyBound)
context_so s d k None =
    let bound : Bound = record { context = true; object = next_reference s } in
    let new : List (Option Bindings) = (with_bound s d k bound).contexts in
    let first : length s.contexts ≤ length new =
    setting s d (Some (insert_entry same_component (or_none (bindings_of s d)) k bound)) in
    let second : length new ≤ length (new ++ Some [] ∷ []) = pushing new (Some []) in
    unless (changes_full s || bindings_full s || contexts_full s) s (with_bound_context s d k)
    (Done (reply.Object (next_reference s))) refl refl refl (omega (arith, first, second))

destroyed_so : (s : Store) (c : ℕ) (bs : Bindings) → Steps s (destroy_context s c bs)
destroyed_so s c [] = elim (cases_Bool (nat_eq c 1)) [
  | inl root ↦ rw root (same s (System NoImplement))
  | inr other ↦
      rw other (unless (changes_full s) s (set_bindings s c None) done refl refl refl (setting s c None))
]
destroyed_so s c (b ∷ bs) = elim (cases_Bool (nat_eq c 1)) [
  | inl root ↦ rw root (same s (System NoImplement))
  | inr other ↦ rw other (same s (User fault.NotEmpty))
]

done_so : (s : Store) (c : ℕ) (bs : Bindings) (a : NameAct) → Steps s (done_at s c bs a)
done_so s c bs (act.Bind name o) = at s (place s c name) _ (λ d. bound_so s d (last_of name) _
    (bound_in s d (last_of name)))
done_so s c bs (act.BindContext name o) =
    at s (place s c name) _ (λ d. bound_so s d (last_of name) _ (bound_in s d (last_of name)))
done_so s c bs (act.Rebind name o) =
    at s (place s c name) _ (λ d. rebound_so s d (last_of name) o (bound_in s d (last_of name)))
done_so s c bs (act.Resolve name) =
    at s (place s c name) _ (λ d. resolved_so s (last_of name) (bound_in s d (last_of name)))
done_so s c bs (act.Unbind name) =
    at s (place s c name) _ (λ d. unbound_so s d (last_of name) (bound_in s d (last_of name)))
done_so s c bs act.NewContext =
    unless (changes_full s || contexts_full s) s (with_context s) (Done (reply.Object (next_reference s))) refl refl
    refl
    (pushing s.contexts (Some []))
done_so s c bs (act.BindNewContext name) =
    at s (place s c name) _ (λ d. context_so s d (last_of name) (bound_in s d (last_of name)))
done_so s c bs act.Destroy = destroyed_so s c bs
done_so s c bs act.List = same s (list_bindings bs)

where_so : (s : Store) (c : ℕ) (o : Option Bindings) (a : NameAct) → Steps s (done_where s c o a)
where_so s c None a = same s (System ObjectNotExist)
where_so s c (Some bs) a = done_so s c bs a

steps : (s t : Store) (c : ℕ) (a : NameAct) (r : NameAnswer) → AppliesCall s c a r t → Steps s (t, r)
steps s t c a r h = rw h (where_so s c (bindings_of s c) a)

pub refusal_keeps : (s t : Store) (c : ℕ) (a : NameAct) (r : NameAnswer) → AppliesCall s c a r t → is_refusal r ≡ true
    → t ≡ s
refusal_keeps s t c a r h refused = elim (steps s t c a r h).kept [
  | inl is ↦ is
  | inr accepted ↦ absurd (true≢false (sym refused ∙ accepted))
]

pub changes_once : (s t : Store) (c : ℕ) (a : NameAct) (r : NameAnswer) → AppliesCall s c a r t
    → (t.home ≡ s.home) × (s.changes ≤ t.changes) × (t.changes ≤ s.changes + 1)
    × (length s.contexts ≤ length t.contexts)
changes_once s t c a r h = let x = steps s t c a r h in (x.home, x.least, x.most, x.contexts)
