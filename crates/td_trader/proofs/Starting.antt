-- The policy starting_trader is stated by a policy of that name alone, so a path that is refused is one that is stated.
use Rattle.std.proofs.Common.{◌≡◌, ℕ, Bool, true, false, cond, not, List, [], ◌∷◌, Option, Some, None, Result, Ok, Err}
use Rattle.std.proofs.Common.{◌⊎◌, inl, inr, codes, slice_get, refl, sym, ap, subst, ◌∙◌}
use Rattle.std.specs.Option.{option_and_then}
use Rattle.std.specs.List.{AllByRecursion}
use Rattle.std.specs.Map.{lookup}
use Rattle.std.specs.Str.{bytes_eq}
use Rattle.td_cdr.specs.Format.{◌>>=◌}
use Rattle.td_cdr.specs.Names.{identifier}
use Rattle.td_cdr.specs.Seen.{is_among}
use Rattle.td_policy.specs.Stated.{if_known, next_stated, nothing, policies, stated_after, stated_value, states}
use Rattle.td_policy.specs.Stated.{with_policy}
use Rattle.td_policy.specs.Fields.{Field, start, kind_of, name_of, put}
use Rattle.td_policy.specs.Values.{PolicyKind}
use Rattle.td_policy.specs.declared.fault.PolicyFault.{PolicyFault}
use Rattle.td_policy.specs.declared.fault.PolicyFault.TheVariants as fault
use Rattle.td_policy.specs.declared.stated.Stated.{Stated}
use Rattle.td_policy.proofs.Fields.{States, each}
use Rattle.td_value.specs.declared.structures.Policy.{Policy}
use Rattle.td_store.specs.LinkLists.{link_of}
use Rattle.td_store.specs.declared.record.LinkRecord.{LinkRecord}
use Rattle.td_trader.specs.Queries.{first_name, start_policy, start_cause, RefusesStart, UnknownStartsAreRefused}

-- the policy states another field
abbrev Keeps : States → Type 0
Keeps entry = (p : Policy) (s t : Stated) → entry p s ≡ Ok t → t.start ≡ s.start

same_ok : (s t : Stated) → ◌≡◌ {A = Result Stated PolicyFault} (Ok s) (Ok t) → s ≡ t
same_ok s t h = cc

put_kept : {A : Type 0} (r : Result (Option A) PolicyFault) (put : Option A → Stated → Stated) (s t : Stated)
    → ((x : Option A) (u : Stated) → (put x u).start ≡ u.start) → (r >>= (λ x. Ok (put x s))) ≡ Ok t → t.start ≡ s.start
put_kept (Ok x) put s t other h = ap (λ (z : Stated). z.start) (sym (same_ok (put x s) t h)) ∙ other x s
put_kept (Err e) put s t other h = absurd (let bad : ⊥ = cc in bad)

keeps : {A : Type 0} (kind : PolicyKind A) (put : Option A → Stated → Stated)
    → ((x : Option A) (u : Stated) → (put x u).start ≡ u.start) → Keeps (states kind put)
keeps kind put other p s t h = put_kept (stated_value kind p) put s t other h

some_is : (d e : States) → ◌≡◌ {A = Option States} (Some d) (Some e) → d ≡ e
some_is d e h = cc

-- what holds of each entry whose key passes the test holds of the one that is found
chosen : (Q : States → Type 0) (b : Bool) (d e : States) (rest : Option States) → (b ≡ true → Q d)
    → (rest ≡ Some e → Q e) → cond b (Some d) rest ≡ Some e → Q e
chosen Q true d e rest here later h = subst Q (some_is d e h) (here refl)
chosen Q false d e rest here later h = later h

looked : (test : List ℕ → Bool) (Q : States → Type 0) (entries : List (List ℕ × States))
    → AllByRecursion (λ x. test x.0 ≡ true → Q x.1) entries → (e : States) → lookup test entries ≡ Some e → Q e
looked test Q [] all e h = absurd (let bad : ⊥ = cc in bad)
looked test Q (x ∷ xs) all e h =
    chosen Q (test x.0) x.1 e (lookup test xs) all.0 (looked test Q xs all.1 e) h

module _ (name : List ℕ) where
  abbrev is_start : Type 0
  is_start = bytes_eq name (codes "starting_trader") ≡ true

  abbrev KeepsOrStarts : States → Type 0
  KeepsOrStarts entry = Keeps entry ⊎ is_start

  -- of all policies
  by_field : (f : Field) → bytes_eq name (name_of f) ≡ true → KeepsOrStarts (states (kind_of f) (put f))
  by_field start h = inr h
  by_field f h = inl (keeps (kind_of f) (put f) (λ x s. refl))

  each_keeps : AllByRecursion (λ x. bytes_eq name x.0 ≡ true → KeepsOrStarts x.1) policies
  each_keeps = each (λ x. bytes_eq name x.0 ≡ true → KeepsOrStarts x.1) by_field

  known_keeps : (found : Option States) (p : Policy) (s t : Stated) → lookup (bytes_eq name) policies ≡ found
      → if_known found p s ≡ Ok t → (t.start ≡ s.start) ⊎ is_start
  known_keeps None p s t is h = inl (ap (λ (z : Stated). z.start) (sym (same_ok s t h)))
  known_keeps (Some e) p s t is h = either (looked (bytes_eq name) KeepsOrStarts policies each_keeps e is)
    where
      either : KeepsOrStarts e → (t.start ≡ s.start) ⊎ is_start
      either (inl k) = inl (k p s t h)
      either (inr b) = inr b

unless_refused : (b : Bool) (e : PolicyFault) (r : Result Stated PolicyFault) (t : Stated) → cond b (Err e) r ≡ Ok t
    → r ≡ Ok t
unless_refused true e r t h = absurd (let bad : ⊥ = cc in bad)
unless_refused false e r t h = h

next_keeps : (earlier : List (List ℕ)) (s t : Stated) (p : Policy) → next_stated earlier s p ≡ Ok t
    → (t.start ≡ s.start) ⊎ is_start p.name
next_keeps earlier s t p h =
    known_keeps p.name (lookup (bytes_eq p.name) policies) p s t refl
    (unless_refused (is_among p.name earlier) (fault.DuplicatePolicyName p.name) (with_policy p s) t
    (unless_refused (not (identifier p.name)) (fault.IllegalPolicyName p.name) _ t h))

-- what is stated in front, and then by one policy more
bound : (r : Result Stated PolicyFault) (f : Stated → Result Stated PolicyFault) (t : Stated) → (r >>= f) ≡ Ok t
    → (u : Stated) × (r ≡ Ok u) × (f u ≡ Ok t)
bound (Ok u) f t h = (u, refl, h)
bound (Err e) f t h = absurd (let bad : ⊥ = cc in bad)

abbrev HasStart : List Policy → Type 0
HasStart ps = (p : Policy) × (start_policy ps ≡ Some p)

at_front : (p : Policy) (ps : List Policy) → is_start p.name → HasStart (p ∷ ps)
at_front p ps h = (p, rw h refl)

further : (b : Bool) (p : Policy) (rest : Option Policy) (q : Policy) → rest ≡ Some q
    → (x : Policy) × (cond b (Some p) rest ≡ Some x)
further true p rest q h = (p, refl)
further false p rest q h = (q, h)

-- by the first policy, or by those behind it, or by none
join : (s u t : Stated) (p : Policy) (ps : List Policy) → (u.start ≡ s.start) ⊎ is_start p.name
    → (t.start ≡ u.start) ⊎ HasStart ps → (t.start ≡ s.start) ⊎ HasStart (p ∷ ps)
join s u t p ps (inr b) later = inr (at_front p ps b)
join s u t p ps (inl k) (inl l) = inl (l ∙ k)
join s u t p ps (inl k) (inr has) =
    inr (further (bytes_eq p.name (codes "starting_trader")) p (start_policy ps) has.0 has.1)

after_keeps : (earlier : List (List ℕ)) (s t : Stated) (ps : List Policy) → stated_after earlier s ps ≡ Ok t
    → (t.start ≡ s.start) ⊎ HasStart ps
after_keeps earlier s t [] h = inl (ap (λ (z : Stated). z.start) (sym (same_ok s t h)))
after_keeps earlier s t (p ∷ ps) h =
    let x = bound (next_stated earlier s p) (λ u. stated_after (p.name ∷ earlier) u ps) t h in
    join s x.0 t p ps (next_keeps earlier s x.0 p x.1) (after_keeps (p.name ∷ earlier) x.0 t ps x.2)

unstated : (o : Option (List (List ℕ))) (name : List ℕ) → o ≡ None
    → option_and_then (λ names. slice_get names 0) o ≡ Some name → ⊥
unstated None name h is = cc
unstated (Some x) name h is = cc

refuses : (links : List LinkRecord) (ps : List Policy) (s : Stated) (name : List ℕ) → first_name s ≡ Some name
    → link_of links name ≡ None → HasStart ps → RefusesStart ps (start_cause links ps (first_name s))
refuses links ps s name first lost has = record {
  policy = has.0;
  stated_so = has.1;
  refused = rw (first, lost, has.1) refl;
}

content : (links : List LinkRecord) (ps : List Policy) (s : Stated) (name : List ℕ) → first_name s ≡ Some name
    → link_of links name ≡ None → (s.start ≡ None) ⊎ HasStart ps
    → RefusesStart ps (start_cause links ps (first_name s))
content links ps s name first lost (inl k) = absurd (unstated s.start name k first)
content links ps s name first lost (inr has) = refuses links ps s name first lost has

pub unknown_start : UnknownStartsAreRefused
unknown_start links ps s name h first lost = content links ps s name first lost (after_keeps [] nothing s ps h)
