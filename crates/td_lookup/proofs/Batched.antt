-- The first batch of offers.
use Rattle.std.proofs.Common.{◌≡◌, ℕ, zero, suc, ◌<◌, Bool, true, false, if◌then◌else◌, List, ◌++◌, Result, Ok, Err, OnOk, OnErr}
use Rattle.std.proofs.Common.{length, drop, refl, sym, ap, subst, ◌∙◌, arith}
use Rattle.std.proofs.Math.Seq.{drop-length}
use Rattle.std.proofs.lemmas.Bool.{both_ways}
use Rattle.td_cdr.specs.Format.{Piece}
use Rattle.td_cdr.specs.Writing.{Draft}
use Rattle.td_cdr.specs.declared.memory.Memory.{Memory as OutOfMemory}
use Rattle.td_cdr.specs.declared.order.Order.{Order}
use Rattle.td_typecode.specs.Formats.{is_nonempty}
use Rattle.td_typecode.specs.declared.reference.Ior.{Ior}
use Rattle.td_iter.specs.Batches.{GivesBatch, GivesWhole, IsBatch, PutsBatch}
use Rattle.td_iter.specs.Desks.{Live, with_added}
use Rattle.td_iter.specs.Heads.{offers_found}
use Rattle.td_iter.specs.declared.item.Item.TheVariants.{Offers}
use Rattle.td_objects.specs.References.{offer_iterator}
use Rattle.td_lookup.specs.Querying.{first_offers, offers_kept}
use Rattle.td_lookup.specs.Answering.{PutsFirst}
use Rattle.td_ops.specs.Outcomes.{outcome_piece}
use Rattle.td_value.specs.declared.structures.Offer.{Offer}
use Rattle.td_walk.specs.declared.trace.Address.{Address}

-- what is left behind a batch is kept
rest_kept : (name : List ℕ) (left rest : List Offer) (more : Bool) (d e : Live)
    → e ≡ (if more then with_added name (Offers rest) d else d) → rest ≡ left → more ≡ is_nonempty rest
    → e ≡ offers_kept name left d
rest_kept name left rest more d e made same content =
    subst (λ (xs : List Offer). e ≡ offers_kept name xs d) same
    (subst (λ (b : Bool). e ≡ (if b then with_added name (Offers rest) d else d)) content made)

-- what is less than all has something before it
dropped-some : (k : ℕ) (left rest : List Offer) → rest ≡ drop k left → length rest < length left → 0 < k
dropped-some zero left rest e less =
    let same = ap length e in absurd (let no : ⊥ = omega (arith, same, less) in no)
dropped-some (suc k) left rest e less = omega arith

-- the first batch was given, with the reference of the next iterator, and the rest is kept
pub batched : (home : Address) (name : List ℕ) (n : ℕ) (limits : List (List ℕ)) (left rest : List Offer)
    (reference : Ior) (old new : Draft) (d e : Live) (more : Bool) → reference ≡ offer_iterator home name d.1
    → GivesBatch (offers_found reference limits) left n rest old new more
    → (0 < n → 0 < length left → length rest < length left)
    → e ≡ (if more then with_added name (Offers rest) d else d) → PutsFirst home name n limits left old new d e
batched home name n limits left rest reference old new d e more own gives some made =
    let g : GivesBatch (offers_found (offer_iterator home name d.1) limits) left n rest old new more =
    subst (λ (x : Ior). GivesBatch (offers_found x limits) left n rest old new more) own gives in
    record {
      count = g.count;
      batch = g.puts.is_batch;
      bytes = g.puts.bytes;
      kept = rest_kept name (drop g.count left) rest more d e made g.rest_is g.more_is;
      some = λ asked there. dropped-some g.count left rest g.rest_is (some asked there);
    }

-- where a batch hasn't all that is left, nothing was written and all is left
pub nothing_written : (head : List Offer → Bool → Piece) (left rest : List Offer) (n : ℕ) (old new : Draft)
    (whole : Bool) → whole ≡ false → GivesWhole head left n rest old new whole
    → (new.bytes ≡ old.bytes) × (rest ≡ left)
nothing_written head left rest n old new false e g = (g.0.0, g.1)
nothing_written head left rest n old new true e g = absurd (both_ways true e refl)

pub unchanged_after : (old mid new : Draft) (d e : Live) (r : Result (Unit {0}) OutOfMemory) → mid.bytes ≡ old.bytes
    → OnErr r ((e ≡ d) × (new.bytes ≡ mid.bytes)) → OnErr r ((e ≡ d) × (new.bytes ≡ old.bytes))
unchanged_after old mid new d e (Ok b) same u = tt
unchanged_after old mid new d e (Err m) same u = (u.0, u.1 ∙ same)

module _ (home : Address) (name : List ℕ) (n : ℕ) (limits : List (List ℕ)) (offers : List Offer) where
  -- told of the trader that the label names
  pub tell_first : (trader : List ℕ) (number : ℕ) (reference : Ior) (old new : Draft) (d e : Live)
      (r : Result (Unit {0}) OutOfMemory) → trader ≡ name → reference ≡ offer_iterator home name number → number ≡ d.1
      → ((h : Address) → reference ≡ offer_iterator h trader d.1
      → OnOk r (PutsFirst h trader n limits offers old new d e)) → OnOk r (PutsFirst home name n limits offers old new d e)
  tell_first trader number reference old new d e r t made next p =
      let own : reference ≡ offer_iterator home trader d.1 =
      made ∙ ap (λ (x : ℕ). offer_iterator home name x) next ∙ ap (λ (x : List ℕ). offer_iterator home x d.1) (sym t) in
      subst (λ (x : List ℕ). OnOk r (PutsFirst home x n limits offers old new d e)) t (p home own)

  -- a batch that has all offers, behind which nothing is kept
  pub tell_whole : (left rest : List Offer) (old new : Draft) (d : Live) (whole : Bool) → left ≡ offers → whole ≡ true
      → ((r : Ior) → GivesWhole (offers_found r limits) left n rest old new whole)
      → PutsFirst home name n limits offers old new d d
  tell_whole left rest old new d false same e gives = absurd (both_ways false refl e)
  tell_whole left rest old new d true same e gives =
      let reference = offer_iterator home name d.1 in
      let p : PutsBatch (offers_found reference limits) offers n old new (length offers) =
      subst (λ (xs : List Offer). PutsBatch (offers_found reference limits) xs n old new (length xs)) same
      (gives reference).0 in
      record {
        count = length offers;
        batch = p.is_batch;
        bytes = p.bytes;
        kept = ap (λ (xs : List Offer). offers_kept name xs d) (sym (drop-length offers));
        some = λ asked there. there;
      }

  -- what was tried before and wrote nothing doesn't matter
  puts_after : (left : List Offer) (old mid new : Draft) (d e : Live) → left ≡ offers → mid.bytes ≡ old.bytes
      → mid.order ≡ old.order → PutsFirst home name n limits left mid new d e
      → PutsFirst home name n limits offers old new d e
  puts_after left old mid new d e same bytes order p =
      let q = subst (λ (xs : List Offer). PutsFirst home name n limits xs mid new d e) same p in
      let Batched = λ (xs : List ℕ) (o : Order). IsBatch (offers_found (offer_iterator home name d.1) limits) offers
      (record { bytes = xs; order = o; room = 0 }) n q.count in
      let Written = λ (xs : List ℕ) (o : Order). new.bytes ≡
      xs ++ outcome_piece (first_offers home name d.1 limits offers q.count) o (length xs) in
      record {
        count = q.count;
        batch = subst (Batched old.bytes) order (subst (λ (xs : List ℕ). Batched xs mid.order) bytes q.batch);
        bytes = subst (Written old.bytes) order (subst (λ (xs : List ℕ). Written xs mid.order) bytes q.bytes);
        kept = q.kept;
        some = q.some;
      }

  pub tell_after : (left : List Offer) (old mid new : Draft) (d e : Live) (r : Result (Unit {0}) OutOfMemory) → left ≡ offers
      → mid.bytes ≡ old.bytes → mid.order ≡ old.order → OnOk r (PutsFirst home name n limits left mid new d e)
      → OnOk r (PutsFirst home name n limits offers old new d e)
  tell_after left old mid new d e (Ok b) same bytes order p = puts_after left old mid new d e same bytes order p
  tell_after left old mid new d e (Err m) same bytes order p = tt
