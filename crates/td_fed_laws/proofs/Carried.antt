-- What the queries state that a visit passes on: its identifier, and fewer hops than it goes by.
use Rattle.std.proofs.Common.{◌≡◌, ℕ, ◌-◌, ◌<◌, ◌≤◌, List, Option, Some, None, Ok, refl, sym, ap, subst}
use Rattle.std.proofs.Common.{◌∙◌, arith, ltb-true}
use Rattle.std.specs.Result.{result_unwrap_or}
use Rattle.std.specs.Prelude.{Result}
use Rattle.td_typecode.specs.declared.reference.Ior.{Ior}
use Rattle.td_fed_laws.proofs.Alone.{IsPathHere, IsSearchHere}
use Rattle.td_ops.specs.declared.call.Query.{Query}
use Rattle.td_policy.specs.Effective.{effective_number}
use Rattle.td_policy.specs.declared.attributes.Attributes.{Attributes}
use Rattle.td_policy.specs.Stated.{nothing as nothing_stated, stated}
use Rattle.td_policy.specs.declared.effective.Effective.{Effective}
use Rattle.td_policy.specs.declared.fault.PolicyFault.{PolicyFault}
use Rattle.td_policy.specs.declared.stated.Stated.{Stated}
use Rattle.td_register.specs.Stores.{Store}
use Rattle.td_cdr.specs.Marks.{Marks}
use Rattle.td_store.specs.declared.local.Local.{Local}
use Rattle.td_trader.specs.Queries.{parts_of}
use Rattle.td_walk.specs.SubQueries.{path_left, path_query, wanted_behind}
use Rattle.td_walk.specs.Visits.{next_of}
use Rattle.td_walk.specs.declared.answer.Next.TheVariants.{Forward}
use Rattle.td_walk.specs.declared.answer.StepAnswer.{StepAnswer}
use Rattle.td_query_walk.specs.Reach.{IsPassed, along_path, over_link, to_proxy}
use Rattle.td_query_walk.proofs.Passed.{along_a_path, over_a_link, to_a_proxy}
use Rattle.td_query_walk.proofs.Questions.{only_passed}

-- ---- what a query states, where its policies can be read

abbrev pub Says : {A : Type 0} → (Stated → A) → Query → A → Type 0
Says f q x = (s : Stated) → stated q.policies ≡ Ok s → f s ≡ x

abbrev pub request : Stated → Option (List ℕ)
request s = s.request_id

abbrev pub hop_count : Stated → Option ℕ
hop_count s = s.hops

pub says : {A : Type 0} (f : Stated → A) (q : Query) (x : A) → f (parts_of q).stated ≡ x → Says f q x
says f q x e s is =
    ap (λ (r : Result Stated PolicyFault). f (result_unwrap_or r nothing_stated)) (sym is) ∙ e

-- it goes under this identifier
abbrev pub States : List ℕ → Query → Type 0
States id q = Says request q (Some id)

-- it goes at most so many hops
abbrev pub MayGo : ℕ → Query → Type 0
MayGo n q = (s : Stated) → stated q.policies ≡ Ok s → (m : ℕ) × (s.hops ≡ Some m) × (m ≤ n)

-- ---- a search

-- what a search passes on goes under the search's identifier
pub search-states : (l : Local) (id : List ℕ) → l.path ≡ None → l.identifier ≡ Some id → (answers : List StepAnswer)
    (target : Ior) (sub : Query) → next_of l answers ≡ Forward target sub → States id sub
search-states l id none named answers target sub e s is =
    by-way (only_passed l answers target sub e) is
  where
    by-way : {target : Ior} {sub : Query} → IsPassed l target sub → stated sub.policies ≡ Ok s → s.request_id ≡ Some id
    by-way (over_link link gathered p hops some) r = (over_a_link l (wanted_behind l gathered) link s r).identifier id named
    by-way (to_proxy o part constraint gathered p hops some) r = (to_a_proxy l (wanted_behind l gathered) part constraint s r).identifier id named
    by-way (along_path link p) r = absurd (let bad : ⊥ = cc in bad)

-- and fewer hops than the search; there are hops then
pub record HasFewer (hops : ℕ) (q : Query) : Type 0 where
  pub some : 0 < hops
  pub may : MayGo (hops - 1) q

pub search-fewer : (l : Local) → l.path ≡ None → (answers : List StepAnswer) (target : Ior) (sub : Query)
    → next_of l answers ≡ Forward target sub → HasFewer l.effective.hops sub
search-fewer l none answers target sub e = by-way (only_passed l answers target sub e)
  where
    by-way : {target : Ior} {sub : Query} → IsPassed l target sub → HasFewer l.effective.hops sub
    by-way (over_link link gathered p hops some) = record {
      some = ltb-true 0 l.effective.hops hops;
      may = λ s r. (l.effective.hops - 1, (over_a_link l (wanted_behind l gathered) link s r).hops, omega arith);
    }
    by-way (to_proxy o part constraint gathered p hops some) = record {
      some = ltb-true 0 l.effective.hops hops;
      may = λ s r. (to_a_proxy l (wanted_behind l gathered) part constraint s r).hops;
    }
    by-way (along_path link p) = absurd (let bad : ⊥ = cc in bad)

-- a search goes by no more hops than its query states
pub search-hops : (s : Store) (point : ℕ) (m : Marks) (q : Query) (l : Local) → IsSearchHere s point m q l
    → (o : Option ℕ) → Says hop_count q o
    → l.effective.hops ≡ effective_number o s.attributes.def_hop_count s.attributes.max_hop_count
search-hops s point m q l here o said =
    let own = here.served.served in
    let same : l.stated.hops ≡ o = ap hop_count own.stated ∙ said (parts_of q).stated here.taken in
    ap (λ (e : Effective). e.hops) own.effective
    ∙ (ap (λ (x : Option ℕ). effective_number x l.attributes.def_hop_count l.attributes.max_hop_count) same
    ∙ ap (λ (a : Attributes). effective_number o a.def_hop_count a.max_hop_count) own.attributes)

no-more : (o : Option ℕ) (default maximum m n : ℕ) → o ≡ Some m → m ≤ n → effective_number o default maximum ≤ n
no-more None default maximum m n e le = absurd (let bad : ⊥ = cc in bad)
no-more (Some k) default maximum m n e le = let same : k ≡ m = cc in omega (arith, same, le)

pub search-most : (s : Store) (point : ℕ) (m : Marks) (q : Query) (l : Local) → IsSearchHere s point m q l → (n : ℕ)
    → MayGo n q → l.effective.hops ≤ n
search-most s point m q l here n may =
    let k = may (parts_of q).stated here.taken in
    let o = (parts_of q).stated.hops in
    let is = search-hops s point m q l here o (says hop_count q o refl) in
    let most = no-more o s.attributes.def_hop_count s.attributes.max_hop_count k.0 n k.1 k.2 in
    subst (λ (x : ℕ). x ≤ n) (sym is) most

-- ---- along a path

-- what is passed on along a path states the same
pub record Keeps (q sub : Query) : Type 0 where
  pub identifier : Says request sub (parts_of q).stated.request_id
  pub hops : Says hop_count sub (parts_of q).stated.hops

pub path-keeps : (s : Store) (point : ℕ) (q : Query) (l : Local) → IsPathHere s point q l → (answers : List StepAnswer)
    (target : Ior) (sub : Query) → next_of l answers ≡ Forward target sub → Keeps q sub
unfolding path_query
path-keeps s point q l here answers target sub e = by-way (only_passed l answers target sub e)
  where
    own : stated l.query.policies ≡ Ok l.stated
    own =
        ap (λ (x : Query). stated x.policies) here.served.served.query
        ∙ (here.taken ∙ ap (λ (x : Stated). Ok x) (sym here.served.served.stated))

    by-way : {target : Ior} {sub : Query} → IsPassed l target sub → Keeps q sub
    by-way (over_link link gathered p hops some) =
        let there : l.path ≡ Some here.link = here.served.path in
        absurd (let bad : ⊥ = cc in bad)
    by-way (to_proxy o part constraint gathered p hops some) =
        let there : l.path ≡ Some here.link = here.served.path in
        absurd (let bad : ⊥ = cc in bad)
    by-way (along_path link p) = record {
      identifier =
          λ t r. (along_a_path (path_left l.stated.start) l.query.policies l.stated t own r).identifier
          ∙ ap request here.served.served.stated;
      hops =
          λ t r. (along_a_path (path_left l.stated.start) l.query.policies l.stated t own r).hops
          ∙ ap hop_count here.served.served.stated;
    }
