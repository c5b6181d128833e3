-- A query that is passed on may go less far than the visit that passes it on.
use Rattle.std.proofs.Common.{◌≡◌, ℕ, ◌+◌, ◌-◌, ◌*◌, ◌^◌, ◌<◌, ◌≤◌, nat_le, Bool, true, false, List, [], ◌∷◌, length}
use Rattle.std.proofs.Common.{Option, Some, None, Ok, refl, sym, ap, ◌∙◌, subst, arith, codes, unwrap_or}
use Rattle.std.proofs.Common.{if◌then◌else◌}
use Rattle.std.proofs.lemmas.Bool.{leb-true, ltb-true}
use Rattle.td_typecode.specs.Labels.{ValueLayer}
use Rattle.td_typecode.specs.Same.{same}
use Rattle.td_typecode.specs.declared.code.TypeCode.TheOpen as c
use Rattle.td_typecode.specs.declared.code.Value.{Value, out-Value}
use Rattle.td_typecode.specs.declared.reference.Ior.{Ior}
use Rattle.td_ops.specs.declared.call.Query.{Query}
use Rattle.td_policy.specs.Effective.{effective_number, effective_of}
use Rattle.td_policy.specs.Stated.{stated}
use Rattle.td_policy.specs.Values.{texts, text_of, items_in, items_of, one_more}
use Rattle.td_policy.specs.declared.effective.Effective.{Effective}
use Rattle.td_policy.specs.declared.stated.Stated.{Stated}
use Rattle.td_store.specs.declared.local.Local.{Local}
use Rattle.td_store.specs.declared.record.LinkRecord.{LinkRecord}
use Rattle.td_value.specs.declared.structures.Policy.{Policy}
use Rattle.td_walk.specs.Passing.{policy_named, value_in}
use Rattle.td_walk.specs.SubQueries.{has_hops, link_query, path_query, path_left, wanted_behind}
use Rattle.td_walk.specs.Visits.{next_of}
use Rattle.td_walk.specs.declared.answer.Next.TheVariants.{Forward}
use Rattle.td_walk.specs.declared.answer.StepAnswer.{StepAnswer}
use Rattle.td_walk.proofs.Held.{held}
use Rattle.td_policy.specs.Fields as field
use Rattle.td_query_walk.proofs.Fields.{is-stated}
use Rattle.td_query_walk.specs.Reach.{weight_of, reach_by, reach_of, IsPassed, over_link, to_proxy}
use Rattle.td_query_walk.specs.Reach.{along_path, IsReadFor}
use Rattle.td_query_walk.specs.Reach.{HasReadPath, StartsPath}
use Rattle.td_query_walk.specs.SubQueryLaws.{some_left}
use Rattle.td_query_walk.proofs.Passed.{over_a_link, to_a_proxy, along_a_path}
use Rattle.td_query_walk.proofs.Questions.{only_passed}
use Rattle.td_query_walk.proofs.Stating.{IsStatedBy, some-is}

-- ---- a path that is stated has at most 64 names

as-many : (vs : List Value) (xs : List (List ℕ)) → items_of text_of vs ≡ Some xs → length xs ≡ length vs
as-many [] xs e = ap length (sym (some-is [] xs e))
as-many (v ∷ vs) xs e = by_item (as-many vs) (text_of v) (items_of text_of vs) refl e
  where
    by_item : ((ys : List (List ℕ)) → items_of text_of vs ≡ Some ys → length ys ≡ length vs) → (x : Option (List ℕ))
        (o : Option (List (List ℕ))) → items_of text_of vs ≡ o → one_more x o ≡ Some xs
        → length xs ≡ length (v ∷ vs)
    by_item rest None o is e = absurd cc
    by_item rest (Some x) None is e = absurd cc
    by_item rest (Some x) (Some ys) is e =
        let all : x ∷ ys ≡ xs = some-is (x ∷ ys) xs e in
        let fewer : length ys ≡ length vs = rest ys is in
        ap length (sym all) ∙ omega (arith, fewer)

few-items : (vs : List Value) (xs : List (List ℕ))
    → (if nat_le (length vs) 64 then items_of text_of vs else None) ≡ Some xs → length xs ≤ 64
few-items vs xs e = by_test (nat_le (length vs) 64) refl e
  where
    by_test : (b : Bool) → nat_le (length vs) 64 ≡ b → (if b then items_of text_of vs else None) ≡ Some xs
        → length xs ≤ 64
    by_test true is e = omega (arith, leb-true (length vs) 64 is, as-many vs xs e)
    by_test false is e = absurd cc

few-held : (h : ValueLayer) (xs : List (List ℕ)) → items_in text_of 64 h ≡ Some xs → length xs ≤ 64
few-held (c.Items vs) xs e = few-items vs xs e
few-held h xs e = absurd cc

few-named : (p : Policy) (xs : List (List ℕ)) → value_in (texts 64) p ≡ Some xs → length xs ≤ 64
few-named p xs e = by_type (same p.value.code (texts 64).code) e
  where
    by_type : (b : Bool) → (if b then items_in text_of 64 (out-Value p.value.value) else None) ≡ Some xs
        → length xs ≤ 64
    by_type true e = few-held (out-Value p.value.value) xs e
    by_type false e = absurd cc

few-stated : (o : Option Policy) (start : Option (List (List ℕ))) → IsStatedBy (texts 64) o None start
    → length (unwrap_or start []) ≤ 64
few-stated None start h = rw h (omega arith)
few-stated (Some p) start h =
    let is = held (texts 64) p start h in
    rw is.1 (few-named p is.0 is.2)

few-names : (ps : List Policy) (s : Stated) → stated ps ≡ Ok s → length (unwrap_or s.start []) ≤ 64
few-names ps s e = few-stated (policy_named ps (codes "starting_trader")) s.start (is-stated field.start ps s e)

-- ---- over plain numbers

less-weight : (hops n most path : ℕ) → 0 < hops → n ≤ most → most ≡ hops - 1 → path ≤ 64 → 65 * n + path < 65 * hops
less-weight hops n most path some le is few = omega (arith, some, le, is, few)

weight-is : (s : Stated) (n : ℕ) → s.hops ≡ Some n → weight_of s ≡ 65 * n + length (unwrap_or s.start [])
weight-is s n e = ap (λ (o : Option ℕ). 65 * unwrap_or o (2 ^ 32) + length (unwrap_or s.start [])) e

some-hops : (l : Local) → has_hops l ≡ true → 0 < l.effective.hops
some-hops l e = ltb-true 0 l.effective.hops e

searches : (l : Local) → l.path ≡ None → reach_of l ≡ 65 * l.effective.hops
searches l e = ap (λ (p : Option LinkRecord). reach_by p l) e

by-hops : (l : Local) (ps : List Policy) (s : Stated) (n : ℕ) → l.path ≡ None → has_hops l ≡ true → s.hops ≡ Some n
    → n ≤ l.effective.hops - 1 → stated ps ≡ Ok s → weight_of s < reach_of l
by-hops l ps s n none hops is le e =
    let weight = weight-is s n is in
    let reach = searches l none in
    let less =
    less-weight l.effective.hops n (l.effective.hops - 1) (length (unwrap_or s.start [])) (some-hops l hops) le refl
    (few-names ps s e) in
    omega (arith, weight, reach, less)

shorter : (start : Option (List (List ℕ))) → StartsPath start
    → length (unwrap_or (some_left (path_left start)) []) < length (unwrap_or start [])
shorter None h = elim h [ ]
shorter (Some []) h = elim h [ ]
shorter (Some (name ∷ [])) h = omega arith
shorter (Some (name ∷ other ∷ names)) h = omega arith

falls : (l : Local) (target : Ior) (sub : Query) (s : Stated) → HasReadPath l → IsPassed l target sub
    → stated sub.policies ≡ Ok s → weight_of s < reach_of l
unfolding path_query
falls l target sub s read (over_link link gathered none hops some) e =
    let h = over_a_link l (wanted_behind l gathered) link s e in
    by-hops l (link_query l (wanted_behind l gathered) link).policies s (l.effective.hops - 1) none hops h.hops (omega arith) e
falls l target sub s read (to_proxy o part constraint gathered none hops some) e =
    let h = to_a_proxy l (wanted_behind l gathered) part constraint s e in
    by-hops l sub.policies s h.hops.0 none hops h.hops.1 h.hops.2 e
falls l target sub s read (along_path link is) e =
    let known : IsReadFor (Some link) l = subst (λ (p : Option LinkRecord). IsReadFor p l) is read in
    let h = along_a_path (path_left l.stated.start) l.query.policies l.stated s known.0 e in
    let reach : reach_of l ≡ weight_of l.stated = ap (λ (p : Option LinkRecord). reach_by p l) is in
    let less = shorter l.stated.start known.1 in
    let hops : 65 * unwrap_or s.hops (2 ^ 32) ≡ 65 * unwrap_or l.stated.hops (2 ^ 32) =
    ap (λ (o : Option ℕ). 65 * unwrap_or o (2 ^ 32)) h.hops in
    let path : length (unwrap_or s.start []) ≡ length (unwrap_or (some_left (path_left l.stated.start)) []) =
    ap (λ (o : Option (List (List ℕ))). length (unwrap_or o [])) h.start in
    omega (arith, reach, less, hops, path)

pub falls_at_each : (l : Local) (answers : List StepAnswer) (target : Ior) (sub : Query) (s : Stated) → HasReadPath l
    → next_of l answers ≡ Forward target sub → stated sub.policies ≡ Ok s → weight_of s < reach_of l
falls_at_each l answers target sub s read asked e = falls l target sub s read (only_passed l answers target sub asked) e

-- ---- a visit reaches no farther than its query states

search-reaches : (o : Option ℕ) (default maximum path : ℕ) → maximum ≤ 2 ^ 32
    → 65 * effective_number o default maximum ≤ 65 * unwrap_or o (2 ^ 32) + path
search-reaches None default maximum path few = omega (arith, few)
search-reaches (Some n) default maximum path few = omega (arith, few)

reaches : (p : Option LinkRecord) (l : Local) → l.effective ≡ effective_of l.stated l.attributes
    → l.attributes.max_hop_count ≤ 2 ^ 32 → reach_by p l ≤ weight_of l.stated
reaches None l effective few =
    let hops : l.effective.hops ≡ effective_number l.stated.hops l.attributes.def_hop_count l.attributes.max_hop_count =
    ap (λ (e : Effective). e.hops) effective in
    rw hops
    (search-reaches l.stated.hops l.attributes.def_hop_count l.attributes.max_hop_count
    (length (unwrap_or l.stated.start [])) few)
reaches (Some link) l effective few = omega arith

pub reaches_no_farther : (l : Local) → l.effective ≡ effective_of l.stated l.attributes
    → l.attributes.max_hop_count ≤ 2 ^ 32 → reach_of l ≤ weight_of l.stated
reaches_no_farther l effective few = reaches l.path l effective few
