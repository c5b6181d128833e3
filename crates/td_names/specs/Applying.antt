-- What a call of a naming context answers, and what it leaves of the store (OMG's Naming Service, "Binding Objects",
-- "Resolving Names", "Unbinding Names", "Creating Naming Contexts", "Deleting Contexts", "Listing a Naming Context").
-- The order of the terms is the order of the refusals.
use Rattle.std.specs.Prelude.{◌≡◌, ℕ, ◌-◌, ◌+◌, Bool, true, false, cond, ◌||◌, nat_eq, [], ◌∷◌, ◌++◌}
use Rattle.std.specs.Prelude.{length, slice_set, Option, Some, None, Result, Ok, Err, map}
use Rattle.std.specs.Map.{remove_entry}
use Rattle.indexmap.specs.IndexMap.{insert_entry}
use Rattle.td_typecode.specs.declared.reference.Ior.{Ior}
use Rattle.td_names.specs.declared.act.NameAct.{NameAct}
use Rattle.td_names.specs.declared.act.NameAct.TheVariants as act
use Rattle.td_names.specs.declared.act.NameAnswer.{NameAnswer}
use Rattle.td_names.specs.declared.act.NameAnswer.TheVariants.{Done, User, System}
use Rattle.td_names.specs.declared.act.NameException.TheVariants as fault
use Rattle.td_names.specs.declared.act.NameRefusal.TheVariants.{ImpLimit, NoImplement, ObjectNotExist}
use Rattle.td_names.specs.declared.act.NameReply.TheVariants as reply
use Rattle.td_names.specs.declared.component.Bound.{Bound}
use Rattle.td_names.specs.declared.component.NameBinding.{NameBinding}
use Rattle.td_names.specs.declared.component.NameComponent.{NameComponent}
use Rattle.td_names.specs.References.{reference_of}
use Rattle.td_names.specs.Stores.{Bindings, Store, bindings_full, bindings_of, bound_in, changes_full, contexts_full}
use Rattle.td_names.specs.Stores.{same_component}
use Rattle.td_names.specs.Walking.{last_of, missing_node, not_found, not_object, place}

-- ---- what a change leaves

abbrev pub set_bindings : Store → ℕ → Option Bindings → Store
set_bindings s n bs = record s {
  contexts = slice_set s.contexts (n - 1) bs;
  changes = s.changes + 1;
}

abbrev pub or_none : Option Bindings → Bindings
or_none None = []
or_none (Some bs) = bs

-- with this bound in the context under the component, in its place or behind the others
abbrev pub with_bound : Store → ℕ → NameComponent → Bound → Store
with_bound s n k b = set_bindings s n
    (Some (insert_entry same_component (or_none (bindings_of s n)) k b))

abbrev pub without_bound : Store → ℕ → NameComponent → Store
without_bound s n k = set_bindings s n
    (Some (remove_entry (same_component k) (or_none (bindings_of s n))))

-- with one live context more, without bindings
abbrev pub with_context : Store → Store
with_context s = record s { contexts = s.contexts ++ Some [] ∷ []; changes = s.changes + 1 }

-- the number that the next context gets
abbrev pub next_number : Store → ℕ
next_number s = length s.contexts + 1

-- the reference that it gets
abbrev pub next_reference : Store → Ior
next_reference s = reference_of s.home (next_number s)

-- with one context more, which is bound so
abbrev pub with_bound_context : Store → ℕ → NameComponent → Store
with_bound_context s n k =
    let t = with_bound s n k (record { context = true; object = next_reference s }) in
    record t { contexts = t.contexts ++ Some [] ∷ [] }

-- ---- the calls

abbrev pub done : NameAnswer
done = Done reply.Nothing

-- changed, where no limit stands against it
abbrev pub unless_full : Bool → Store → Store → NameAnswer → Store × NameAnswer
unless_full full s t r = cond full (s, System ImpLimit) (t, r)

abbrev pub at_place : Store → Result ℕ NameAnswer → (ℕ → Store × NameAnswer) → Store × NameAnswer
at_place s (Ok d) go = go d
at_place s (Err r) go = (s, r)

-- bind and bind_context
abbrev pub bound_anew : Store → ℕ → NameComponent → Bound → Option Bound → Store × NameAnswer
bound_anew s d k b (Some old) = (s, User fault.AlreadyBound)
bound_anew s d k b None = unless_full (changes_full s || bindings_full s) s (with_bound s d k b)
    done

abbrev pub rebound : Store → ℕ → NameComponent → Ior → Option Bound → Store × NameAnswer
rebound s d k o None =
    unless_full (changes_full s || bindings_full s) s
    (with_bound s d k (record { context = false; object = o })) done
rebound s d k o (Some old) =
    cond old.context (s, not_found not_object (k ∷ []))
    (unless_full (changes_full s) s (with_bound s d k (record { context = false; object = o }))
    done)

abbrev pub resolve_component : Store → NameComponent → Option Bound → Store × NameAnswer
resolve_component s k None = (s, not_found missing_node (k ∷ []))
resolve_component s k (Some b) = (s, Done (reply.Object b.object))

abbrev pub unbound : Store → ℕ → NameComponent → Option Bound → Store × NameAnswer
unbound s d k None = (s, not_found missing_node (k ∷ []))
unbound s d k (Some b) = unless_full (changes_full s) s (without_bound s d k) done

abbrev pub fresh_context : Store → Store × NameAnswer
fresh_context s =
    unless_full (changes_full s || contexts_full s) s (with_context s)
    (Done (reply.Object (next_reference s)))

-- bind_new_context
abbrev pub context_bound_anew : Store → ℕ → NameComponent → Option Bound → Store × NameAnswer
context_bound_anew s d k (Some old) = (s, User fault.AlreadyBound)
context_bound_anew s d k None =
    unless_full (changes_full s || bindings_full s || contexts_full s) s (with_bound_context s d k)
    (Done (reply.Object (next_reference s)))

abbrev pub destroy_context : Store → ℕ → Bindings → Store × NameAnswer
destroy_context s c [] = cond (nat_eq c 1) (s, System NoImplement)
    (unless_full (changes_full s) s (set_bindings s c None) done)
destroy_context s c (b ∷ bs) = cond (nat_eq c 1) (s, System NoImplement) (s, User fault.NotEmpty)

abbrev pub binding_of : NameComponent × Bound → NameBinding
binding_of p = record { name = p.0; context = p.1.context }

abbrev pub list_bindings : Bindings → NameAnswer
list_bindings bs = Done (reply.Bindings (map binding_of bs))

-- a call of a live context
abbrev pub done_at : Store → ℕ → Bindings → NameAct → Store × NameAnswer
done_at s c bs (act.Bind name o) =
    at_place s (place s c name)
    (λ d. bound_anew s d (last_of name) (record { context = false; object = o })
    (bound_in s d (last_of name)))
done_at s c bs (act.BindContext name o) =
    at_place s (place s c name)
    (λ d. bound_anew s d (last_of name) (record { context = true; object = o })
    (bound_in s d (last_of name)))
done_at s c bs (act.Rebind name o) =
    at_place s (place s c name) (λ d. rebound s d (last_of name) o (bound_in s d (last_of name)))
done_at s c bs (act.Resolve name) =
    at_place s (place s c name) (λ d. resolve_component s (last_of name)
    (bound_in s d (last_of name)))
done_at s c bs (act.Unbind name) =
    at_place s (place s c name) (λ d. unbound s d (last_of name) (bound_in s d (last_of name)))
done_at s c bs act.NewContext = fresh_context s
done_at s c bs (act.BindNewContext name) =
    at_place s (place s c name)
    (λ d. context_bound_anew s d (last_of name) (bound_in s d (last_of name)))
done_at s c bs act.Destroy = destroy_context s c bs
done_at s c bs act.List = (s, list_bindings bs)

abbrev pub done_where : Store → ℕ → Option Bindings → NameAct → Store × NameAnswer
done_where s c None a = (s, System ObjectNotExist)
done_where s c (Some bs) a = done_at s c bs a

-- what a call leaves, and what it answers
abbrev pub apply_act : Store → ℕ → NameAct → Store × NameAnswer
apply_act s c a = done_where s c (bindings_of s c) a

-- the call, answered so, takes the store s to t
abbrev pub AppliesCall : Store → ℕ → NameAct → NameAnswer → Store → Type 0
AppliesCall s c a r t = (t, r) ≡ apply_act s c a
