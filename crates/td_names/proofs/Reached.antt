-- What names reach, by a walk and by a list of contexts.
use Rattle.std.proofs.Common.{◌≡◌, ℕ, Bool, true, false, cond, List, [], ◌∷◌, ◌++◌, Option, None, Some, Result, Ok, Err}
use Rattle.std.proofs.Common.{refl, ap, sym, ◌∙◌, inl, inr, is_some, true≢false}
use Rattle.std.proofs.lemmas.Bool.{cases_Bool}
use Rattle.td_typecode.specs.declared.reference.Ior.{Ior}
use Rattle.td_names.specs.Applying.{apply_act, at_place, done_where, resolve_component}
use Rattle.td_names.specs.Limits.{name_fits}
use Rattle.td_names.specs.Reaching.{ContextChain, Leads, Reach, last_context}
use Rattle.td_names.specs.References.{context_of_reference}
use Rattle.td_names.specs.Refusing.{is_refusal}
use Rattle.td_names.specs.Stores.{Bindings, Store, bindings_of, bound_in, is_live}
use Rattle.td_names.specs.Walking.{holder, if_live, last_of, missing_node, next_context, not_context, not_found}
use Rattle.td_names.specs.Walking.{place, through, through_context}
use Rattle.td_names.specs.declared.act.NameAct.TheVariants as act
use Rattle.td_names.specs.declared.act.NameAnswer.{NameAnswer}
use Rattle.td_names.specs.declared.act.NameAnswer.TheVariants.{Done}
use Rattle.td_names.specs.declared.act.NameReply.TheVariants as reply
use Rattle.td_names.specs.declared.component.Bound.{Bound}
use Rattle.td_names.specs.declared.component.NameComponent.{NameComponent}
use Rattle.td_names.proofs.Lasts.{last_of-push}
use Rattle.td_names.proofs.Walks.{by_parts}

-- ---- a walk, as a list of contexts

record Route (s : Store) (c : ℕ) (name : List NameComponent) (d : ℕ) : Type 0 where
  front : List NameComponent
  parts : name ≡ front ++ last_of name ∷ []
  contexts : List ℕ
  chain : ContextChain s c front contexts
  end : last_context c contexts ≡ d

longer : (s : Store) (c : ℕ) (k l : NameComponent) (ks : List NameComponent) (n d : ℕ) → Leads s c k n
    → Route s n (l ∷ ks) d
    → Route s c (k ∷ l ∷ ks) d
longer s c k l ks n d leads r = record {
  front = k ∷ r.front;
  parts = ap (λ (xs : List NameComponent). k ∷ xs) r.parts;
  contexts = n ∷ r.contexts;
  chain = (leads, r.chain);
  end = r.end;
}

led_on : (s : Store) (o : Option ℕ) (n : ℕ) → if_live s o ≡ Some n → (o ≡ Some n) × (is_live s n ≡ true)
led_on s None n h = absurd (let no_way : ⊥ = cc in no_way)
led_on s (Some m) n h = elim (cases_Bool (is_live s m)) [
  | inl live ↦
      let same : ◌≡◌ {A = Option ℕ} (Some m) (Some n) = (rw live at h) in
      let is : m ≡ n = cc in
      (same, rw is at live)
  | inr dead ↦ let bad : ◌≡◌ {A = Option ℕ} None (Some n) = (rw dead at h) in absurd (let no_way : ⊥ = cc in no_way)
]

onto_route : {P : Type 0} (s : Store) (c : ℕ) (k : NameComponent) (o : Option ℕ) (b : Bound) (rest : List NameComponent)
    (go : ℕ → Result ℕ NameAnswer) (d : ℕ) → bound_in s c k ≡ Some b → b.context ≡ true
    → if_live s (context_of_reference s.home b.object) ≡ o
    → ((n : ℕ) → Leads s c k n → go n ≡ Ok d → P) → through_context o b rest go ≡ Ok d → P
onto_route s c k None b rest go d is goes e more h = absurd (let no_way : ⊥ = cc in no_way)
onto_route s c k (Some n) b rest go d is goes e more h =
    let on = led_on s (context_of_reference s.home b.object) n e in
    more n (record { bound = b; there = is; context = goes; to = on.0; live = on.1 }) h

onto_or_not : {P : Type 0} (flag : Bool) (s : Store) (c : ℕ) (k : NameComponent) (b : Bound)
    (name rest : List NameComponent)
    (go : ℕ → Result ℕ NameAnswer) (d : ℕ) → b.context ≡ flag → bound_in s c k ≡ Some b
    → ((n : ℕ) → Leads s c k n → go n ≡ Ok d → P)
    → cond flag (through_context (next_context s b) b rest go) (Err (not_found not_context name)) ≡ Ok d → P
onto_or_not true s c k b name rest go d goes is more h = onto_route s c k (next_context s b) b rest go d is goes
    refl more h
onto_or_not false s c k b name rest go d goes is more h = absurd (let no_way : ⊥ = cc in no_way)

through_route : {P : Type 0} (s : Store) (c : ℕ) (k : NameComponent) (o : Option Bound) (name rest : List NameComponent)
    (go : ℕ → Result ℕ NameAnswer) (d : ℕ) → bound_in s c k ≡ o → ((n : ℕ) → Leads s c k n → go n ≡ Ok d → P)
    → through s o name rest go ≡ Ok d → P
through_route s c k None name rest go d is more h = absurd (let no_way : ⊥ = cc in no_way)
through_route s c k (Some b) name rest go d is more h =
    onto_or_not b.context s c k b name rest go d refl is more h

ok_is : (c d : ℕ) → ◌≡◌ {A = Result ℕ NameAnswer} (Ok c) (Ok d) → c ≡ d
ok_is c d h = cc

route : (s : Store) (c : ℕ) (name : List NameComponent) (d : ℕ) → holder s c name ≡ Ok d → Route s c name d
route s c [] d h = absurd (let no_way : ⊥ = cc in no_way)
route s c (k ∷ []) d h = record { front = []; parts = refl; contexts = []; chain = tt; end = ok_is c d h }
route s c (k ∷ l ∷ ks) d h =
    through_route s c k (bound_in s c k) (k ∷ l ∷ ks) (l ∷ ks) (λ e. holder s e (l ∷ ks)) d refl
    (λ n leads g. longer s c k l ks n d leads (route s n (l ∷ ks) d g)) h

-- ---- and back

nonempty : (fs : List NameComponent) (k : NameComponent)
    → (l : NameComponent) × (ks : List NameComponent) × (fs ++ k ∷ [] ≡ l ∷ ks)
nonempty [] k = (k, [], refl)
nonempty (f ∷ fs) k = (f, fs ++ k ∷ [], refl)

walked : (s : Store) (c : ℕ) (front : List NameComponent) (ds : List ℕ) (k : NameComponent) → ContextChain s c front ds
    → holder s c (front ++ k ∷ []) ≡ Ok (last_context c ds)
walked s c [] [] k h = refl
walked s c [] (d ∷ ds) k h = absurd h
walked s c (f ∷ fs) [] k h = absurd h
walked s c (f ∷ fs) (d ∷ ds) k h =
    let rest : holder s d (fs ++ k ∷ []) ≡ Ok (last_context d ds) = walked s d fs ds k h.1 in
    let some = nonempty fs k in
    let next : next_context s h.0.bound ≡ Some d = rw (h.0.to, h.0.live) refl in
    by_parts s c (f ∷ (fs ++ k ∷ [])) (fs ++ k ∷ []) f some.0 some.1 refl some.2
    ∙ rw (h.0.there, h.0.context, next) rest

-- ---- resolve

resolve_is : (s : Store) (c : ℕ) (name : List NameComponent) → is_live s c ≡ true → name_fits name ≡ true
    → apply_act s c (act.Resolve name)
    ≡ at_place s (holder s c name) (λ d. resolve_component s (last_of name) (bound_in s d (last_of name)))
resolve_is s c name live fits = at_live (bindings_of s c) live ∙ rw fits refl
  where
    at_live : (o : Option Bindings) → is_some o ≡ true
        → done_where s c o (act.Resolve name)
        ≡ at_place s (place s c name) (λ d. resolve_component s (last_of name) (bound_in s d (last_of name)))
    at_live None h = absurd (true≢false (sym h))
    at_live (Some bs) h = refl

-- a walk that ends at none tells a refusal
IsRefusing : Result ℕ NameAnswer → Type 0
IsRefusing (Ok d) = Unit {0}
IsRefusing (Err r) = is_refusal r ≡ true

onto_refusing : (o : Option ℕ) (b : Bound) (rest : List NameComponent) (go : ℕ → Result ℕ NameAnswer)
    → ((n : ℕ) → IsRefusing (go n)) → IsRefusing (through_context o b rest go)
unfolding IsRefusing
onto_refusing None b rest go more = refl
onto_refusing (Some n) b rest go more = more n

through_refusing : (s : Store) (o : Option Bound) (name rest : List NameComponent) (go : ℕ → Result ℕ NameAnswer)
    → ((n : ℕ) → IsRefusing (go n)) → IsRefusing (through s o name rest go)
unfolding IsRefusing
through_refusing s None name rest go more = refl
through_refusing s (Some b) name rest go more = on b.context
  where
    on : (flag : Bool)
        → IsRefusing (cond flag (through_context (next_context s b) b rest go) (Err (not_found not_context name)))
    on true = onto_refusing (next_context s b) b rest go more
    on false = refl

refusing : (s : Store) (c : ℕ) (name : List NameComponent) → IsRefusing (holder s c name)
unfolding IsRefusing
refusing s c [] = refl
refusing s c (k ∷ []) = tt
refusing s c (k ∷ l ∷ ks) =
    through_refusing s (bound_in s c k) (k ∷ l ∷ ks) (l ∷ ks) (λ e. holder s e (l ∷ ks)) (λ n. refusing s n (l ∷ ks))

content_of : (s : Store) (r q : NameAnswer) → ◌≡◌ {A = Store × NameAnswer} (s, r) (s, q) → r ≡ q
content_of s r q h = ap (λ (p : Store × NameAnswer). p.1) h

object_of : (a b : Ior) → Done (reply.Object a) ≡ Done (reply.Object b) → a ≡ b
object_of a b h = cc

bound_found : (s : Store) (c : ℕ) (name : List NameComponent) (object : Ior) (d : ℕ) (o : Option Bound)
    → Route s c name d → bound_in s d (last_of name) ≡ o
    → resolve_component s (last_of name) o ≡ (s, Done (reply.Object object)) → Reach s c name object
bound_found s c name object d None r f h =
    let bad = content_of s (not_found missing_node (last_of name ∷ [])) (Done (reply.Object object)) h in
    absurd (let no_way : ⊥ = cc in no_way)
bound_found s c name object d (Some b) r f h = record {
  front = r.front;
  last = last_of name;
  parts = r.parts;
  contexts = r.contexts;
  chain = r.chain;
  bound = b;
  there = rw r.end f;
  is = object_of b.object object (content_of s (Done (reply.Object b.object)) (Done (reply.Object object)) h);
}

found : (s : Store) (c : ℕ) (name : List NameComponent) (object : Ior) (r : Result ℕ NameAnswer) → holder s c name ≡ r
    → IsRefusing r
    → at_place s r (λ d. resolve_component s (last_of name) (bound_in s d (last_of name))) ≡ (s, Done (reply.Object object))
    → Reach s c name object
unfolding IsRefusing
found s c name object (Err x) e refuses h =
    let is : x ≡ Done (reply.Object object) = content_of s x (Done (reply.Object object)) h in
    absurd (true≢false (sym refuses ∙ ap is_refusal is))
found s c name object (Ok d) e refuses h =
    bound_found s c name object d (bound_in s d (last_of name)) (route s c name d e) refl h

pub resolved_reaches : (s : Store) (c : ℕ) (name : List NameComponent) (object : Ior) → name_fits name ≡ true
    → is_live s c ≡ true → (s, Done (reply.Object object)) ≡ apply_act s c (act.Resolve name) → Reach s c name object
resolved_reaches s c name object fits live h =
    found s c name object (holder s c name) refl (refusing s c name)
    (sym (resolve_is s c name live fits) ∙ sym h)

pub reached_resolves : (s : Store) (c : ℕ) (name : List NameComponent) (object : Ior) → name_fits name ≡ true
    → is_live s c ≡ true → Reach s c name object → (s, Done (reply.Object object)) ≡ apply_act s c (act.Resolve name)
reached_resolves s c name object fits live r =
    let walk : holder s c name ≡ Ok (last_context c r.contexts) =
    ap (holder s c) r.parts ∙ walked s c r.front r.contexts r.last r.chain in
    let last : last_of name ≡ r.last = sym (last_of-push name r.front r.last r.parts) in
    sym (resolve_is s c name live fits ∙ rw (walk, last, r.there, r.is) refl)
