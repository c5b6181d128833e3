-- An offer that is put on the slab and noted under its number, or taken back.
use Rattle.std.proofs.Common.{◌≡◌, ℕ, ◌+◌, ◌<◌, Bool, true, false, not, cond, ◌||◌, eqb, List, [], ◌∷◌, ◌++◌}
use Rattle.std.proofs.Common.{length, Option, Some, refl, sym, ap, ◌∙◌, subst, arith}
use Rattle.std.specs.BTreeMap.{insert_entry}
use Rattle.std.specs.List.{AllByRecursion}
use Rattle.std.specs.Option.{MatchOption}
use Rattle.std.specs.Ordering.{nat_cmp}
use Rattle.std.specs.declared.cmp.Ordering.TheVariants.{Greater}
use Rattle.std.proofs.lemmas.Bool.{cases_eq, ne_eqb, eq-eqb, le-ltb}
use Rattle.std.proofs.lemmas.List.{length-map, append-nil}
use Rattle.std.proofs.lemmas.List.Elements.{filter-append}
use mathlib.Core.Logic.{◌≢◌}
use Rattle.td_store.specs.Puts.{IsAsBefore}
use Rattle.td_store.specs.Slabs.{Slab, is_in, chain_of, held, without, InsertsValue, RemovesValue}
use Rattle.td_store.specs.declared.record.OfferRecord.{OfferRecord}
use Rattle.td_store.proofs.Homing.{either}
use Rattle.td_store.proofs.Keeping.{without-absent}
use Rattle.td_store.proofs.Offering.{chain-map}

compared : (n k : ℕ) → k < n → nat_cmp n k ≡ Greater
compared n k l = rw (le-ltb n k (omega (arith, l)), ne_eqb n k (λ (e : n ≡ k). absurd (omega (arith, e, l)))) refl

pub insert-last : {X : Type 0} (n : ℕ) (v : X) (es : List (ℕ × X)) → AllByRecursion (λ e. e.0 < n) es
    → insert_entry nat_cmp es n v ≡ es ++ (n, v) ∷ []
insert-last n v [] h = refl
insert-last n v (e ∷ es) h = rw (compared n e.0 h.0) (ap (λ xs. e ∷ xs) (insert-last n v es h.1))

pub matched : {X : Type 0} (r : Option X) (x : X) (A : Type 0) (B : X → Type 0) → r ≡ Some x → MatchOption r A B → B x
matched {X = X} r x A B e m = subst (λ (o : Option X). MatchOption o A B) e m

gone-last : (p : ℕ) (ps : List ℕ) → is_in p ps ≡ false → without p (ps ++ p ∷ []) ≡ ps
gone-last p ps off =
    filter-append (λ (y : ℕ). not (eqb y p)) ps (p ∷ [])
    ∙ (ap (λ (xs : List ℕ). xs ++ without p (p ∷ [])) (without-absent p ps off)
    ∙ (ap (λ (b : Bool). ps ++ cond (not b) (p ∷ []) []) (eq-eqb p p refl) ∙ append-nil ps))

back-when : (b : Bool) (p : ℕ) (ps : List ℕ) → is_in p ps ≡ false → without p (cond b (ps ++ p ∷ []) ps) ≡ ps
back-when true p ps off = gone-last p ps off
back-when false p ps off = without-absent p ps off

-- put and taken back
pub put-back : (old mid new : Slab OfferRecord) (a b : ℕ) (o : OfferRecord) (p : ℕ) → InsertsValue old mid a b o p
    → RemovesValue mid new p → IsAsBefore old new
put-back old mid new a b o p put taken = record {
  values = λ q. either (cases_eq q p)
      (λ (e : q ≡ p). rw e (taken.value ∙ sym put.unused))
      (λ (d : q ≢ p). taken.others q (ne_eqb q p d) ∙ put.others q (ne_eqb q p d));
  chains = λ c. ap (λ (cs : List (List ℕ)). chain_of cs c) taken.chains ∙ (chain-map p c mid.chains
      ∙ (ap (without p) (put.chains c) ∙ back-when (eqb c a || eqb c b) p (chain_of old.chains c) (put.absent c)));
  count = ap length taken.chains ∙ (length-map mid.chains (without p) ∙ put.count);
  held = omega (arith, put.held, taken.held);
}
