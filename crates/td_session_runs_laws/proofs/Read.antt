-- The parameters of calls that are read from requests can be written.
use Rattle.std.proofs.Common.{◌≡◌, ℕ, List, Option, Some, None, refl, ap, subst, sym, ◌∙◌}
use Rattle.td_cdr.specs.Sound.{Sound, sequence, text}
use Rattle.td_cdr.specs.declared.value_fault.ValueFault.{ValueFault}
use Rattle.td_ops.specs.Called.{of_look}
use Rattle.td_ops.specs.Calls.{AdmitsCall}
use Rattle.td_ops.specs.Parameters.{query}
use Rattle.td_ops.specs.declared.call.Call.{Call}
use Rattle.td_ops.specs.declared.call.Call.TheVariants as call
use Rattle.td_ops.specs.declared.call.Look.{Look}
use Rattle.td_ops.specs.declared.call.Look.TheVariants as look
use Rattle.td_ops.specs.declared.call.Query.{Query}
use Rattle.td_trader_laws.specs.Writable.{AdmitsLook}

some-same : {X : Type 0} (a b : X) → ◌≡◌ {A = Option X} (Some a) (Some b) → a ≡ b
some-same a b h = cc

-- the members by which the parameters of a variant are told are the ones that can be written
carried : {X : Type 0} (to : X → Call) (from : Call → Option X) (g : Sound ValueFault X) (c : Call) (x : X)
    → ((z : X) → from (to z) ≡ Some z) → from c ≡ Some x → (z : X) × (to z ≡ c) × g.format.admits z
    → g.format.admits x
carried to from g c x back is h =
    subst g.format.admits (some-same h.0 x (sym (back h.0) ∙ (ap from h.1 ∙ is))) h.2

pub read-look : (l : Look) → AdmitsCall (call.Look l) → AdmitsLook l
read-look (look.Describe id) h =
    carried (λ p. call.Look (look.Describe p)) (of_look (elim [ look.Describe x ↦ Some x | _ ↦ None ])) text
    (call.Look (look.Describe id)) id (λ _. refl) refl h
read-look (look.DescribeLink name) h =
    carried (λ p. call.Look (look.DescribeLink p)) (of_look (elim [ look.DescribeLink x ↦ Some x | _ ↦ None ])) text
    (call.Look (look.DescribeLink name)) name (λ _. refl) refl h
read-look look.ListLinks h = tt
read-look (look.DescribeProxy id) h =
    carried (λ p. call.Look (look.DescribeProxy p)) (of_look (elim [ look.DescribeProxy x ↦ Some x | _ ↦ None ])) text
    (call.Look (look.DescribeProxy id)) id (λ _. refl) refl h
read-look (look.ListOffers how_many) h = tt
read-look (look.ListProxies how_many) h = tt
read-look (look.ListTypes which) h = tt
read-look (look.DescribeType name) h =
    carried (λ p. call.Look (look.DescribeType p)) (of_look (elim [ look.DescribeType x ↦ Some x | _ ↦ None ])) text
    (call.Look (look.DescribeType name)) name (λ _. refl) refl h
read-look (look.FullyDescribeType name) h =
    carried (λ p. call.Look (look.FullyDescribeType p))
    (of_look (elim [ look.FullyDescribeType x ↦ Some x | _ ↦ None ])) text
    (call.Look (look.FullyDescribeType name)) name (λ _. refl) refl h
read-look (look.Get attribute) h = tt

pub read-query : (q : Query) → AdmitsCall (call.Query q) → query.format.admits q
read-query q h =
    carried (λ p. call.Query p) (elim [ call.Query x ↦ Some x | _ ↦ None ]) query (call.Query q) q (λ _. refl) refl h

pub read-names : (names : List (List ℕ)) → AdmitsCall (call.Resolve names) → (sequence text).format.admits names
read-names names h =
    carried (λ p. call.Resolve p) (elim [ call.Resolve x ↦ Some x | _ ↦ None ]) (sequence text) (call.Resolve names)
    names (λ _. refl) refl h
