-- Lists of ids, and their first batch.
use Rattle.std.proofs.Common.{◌≡◌, ℕ, Bool, true, if◌then◌else◌, List, [], ◌∷◌, drop, length}
use Rattle.std.proofs.Common.{refl, sym, ap, subst, ◌∙◌, Option, Some, None, IfOk, OnOk}
use Rattle.std.proofs.lemmas.Bool.{leb-true}
use Rattle.std.specs.List.{list_all}
use Rattle.std.specs.Prelude.{Result, Ok, Err}
use Rattle.td_cdr.specs.Writing.{Draft}
use Rattle.td_cdr.specs.declared.memory.Memory.{Memory}
use Rattle.td_typecode.specs.Formats.{is_nonempty}
use Rattle.td_typecode.specs.declared.reference.Ior.{Ior}
use Rattle.td_ior.proofs.Numbers.{and-left, and-right}
use Rattle.td_iter.specs.Batches.{GivesBatch}
use Rattle.td_iter.specs.Desks.{Live, with_added}
use Rattle.td_iter.specs.Heads.{AreSmallIds, ids_found}
use Rattle.td_iter.specs.declared.item.Item.TheVariants.{Ids}
use Rattle.td_objects.specs.References.{iterator_reference}
use Rattle.td_ops.specs.declared.outcome.Outcome.{Outcome}
use Rattle.td_walk.specs.declared.trace.Address.{Address}
use Rattle.td_servant.specs.Listing.{has_small_size}
use Rattle.td_servant.specs.Looking.{Cuts, CutsList, PutsFirst, first_ids, ids_in, kept_for}
use Rattle.td_servant.specs.declared.answer.ReplyBody.{ReplyBody}
use Rattle.td_servant.specs.declared.answer.ReplyBody.TheVariants.{Written}
use Rattle.td_servant.specs.declared.answer.ReplyBody.TheVariants as reply_body

each_small : (ids : List (List ℕ)) → list_all has_small_size ids ≡ true → AreSmallIds ids
each_small [] e = tt
each_small (id ∷ ids) e = (
  leb-true (length id) 256 (and-left (has_small_size id) (list_all has_small_size ids) e),
  each_small ids (and-right (has_small_size id) (list_all has_small_size ids) e),
)

pub all_small : (ids : List (List ℕ)) (b : Bool) → b ≡ list_all has_small_size ids → b ≡ true → AreSmallIds ids
all_small ids b is e = each_small ids (sym is ∙ e)

-- what is left behind a batch is kept
pub rest_kept : (name : List ℕ) (left rest : List (List ℕ)) (more : Bool) (d e : Live)
    → e ≡ (if more then with_added name (Ids rest) d else d) → rest ≡ left → more ≡ is_nonempty rest → e ≡ kept_for name left d
rest_kept name left rest more d e made same content =
    subst (λ (xs : List (List ℕ)). e ≡ kept_for name xs d) same
    (subst (λ (b : Bool). e ≡ (if b then with_added name (Ids rest) d else d)) content made)

-- the first batch was given, with the reference of the next iterator, and the rest is kept
pub batched : (home : Address) (name : List ℕ) (n : ℕ) (left rest : List (List ℕ)) (reference : Ior) (old new : Draft)
    (d e : Live) (more : Bool) → reference ≡ iterator_reference home name d.1
    → GivesBatch (ids_found reference) left n rest old new more
    → e ≡ (if more then with_added name (Ids rest) d else d) → PutsFirst home name n left old new d e
batched home name n left rest reference old new d e more own gives made =
    let g : GivesBatch (ids_found (iterator_reference home name d.1)) left n rest old new more =
    subst (λ (x : Ior). GivesBatch (ids_found x) left n rest old new more) own gives in
    record {
      count = g.count;
      batch = g.puts.is_batch;
      bytes = g.puts.bytes;
      kept = rest_kept name (drop g.count left) rest more d e made g.rest_is g.more_is;
    }

-- told of the trader that the label names, and of the ids that the iterator is over
pub tell_first : (home : Address) (name trader : List ℕ) (n number : ℕ) (ids left : List (List ℕ)) (reference : Ior)
    (old new : Draft) (d e : Live) (r : Result ReplyBody Memory) → trader ≡ name → left ≡ ids
    → reference ≡ iterator_reference home name number → number ≡ d.1
    → ((h : Address) → reference ≡ iterator_reference h trader d.1 → OnOk r (PutsFirst h trader n left old new d e))
    → OnOk r (PutsFirst home name n ids old new d e)
tell_first home name trader n number ids left reference old new d e r t l made next p =
    let own : reference ≡ iterator_reference home trader d.1 =
    made ∙ ap (λ (x : ℕ). iterator_reference home name x) next
    ∙ ap (λ (x : List ℕ). iterator_reference home x d.1) (sym t) in
    subst (λ (x : List ℕ). OnOk r (PutsFirst home x n ids old new d e)) t
    (subst (λ (xs : List (List ℕ)). OnOk r (PutsFirst home trader n xs old new d e)) l (p home own))

module _ (home : Address) (name : List ℕ) (n : ℕ) (found : Outcome) (old new : Draft) (d e : Live) where
  cut_first : (ids : List (List ℕ)) → ids_in found ≡ Some ids → PutsFirst home name n ids old new d e
      → Cuts home name n found old d Written new e
  cut_first ids is p = record {
    outcome = first_ids home name d.1 ids p.count;
    cut =
        subst (λ (o : Option (List (List ℕ))). CutsList home name n o found old d (first_ids home name d.1 ids p.count)
        e) (sym is) (record { count = p.count; batch = p.batch; outcome = refl; kept = p.kept });
    content = (refl, p.bytes);
  }

  pub cut_ids : (ids : List (List ℕ)) (r : Result ReplyBody Memory) → ids_in found ≡ Some ids
      → IfOk r (λ b. b ≡ Written) → OnOk r (PutsFirst home name n ids old new d e)
      → IfOk r (λ b. Cuts home name n found old d b new e)
  cut_ids ids (Ok b) is written p =
      subst (λ (x : ReplyBody). Cuts home name n found old d x new e) (sym written) (cut_first ids is p)
  cut_ids ids (Err m) is written p = tt

  pub cut_other : (o : Outcome) → ids_in found ≡ None → o ≡ found → new.bytes ≡ old.bytes → e ≡ d
      → Cuts home name n found old d (reply_body.Outcome o) new e
  cut_other o is same bytes kept = record {
    outcome = o;
    cut = subst (λ (x : Option (List (List ℕ))). CutsList home name n x found old d o e) (sym is) (same, kept);
    content = (refl, bytes);
  }
