-- A recorded reply of a list against the batch that fits with its own iterator.
use Rattle.std.proofs.Common.{◌≡◌, ℕ, Bool, true, false, not, nat_lt, List, [], ◌++◌, length}
use Rattle.std.proofs.Common.{take, MatchBool}
use Rattle.std.proofs.Common.{drop, nat_eq, ◌&&◌, if◌then◌else◌, refl, sym, ap, subst, ◌∙◌}
use Rattle.std.specs.Str.{bytes_eq}
use Rattle.std.proofs.Math.Bool.{beq}
use Rattle.std.proofs.lemmas.Bool.{eqb-true}
use Rattle.std.proofs.lemmas.List.{nil_from_length}
use Rattle.std.proofs.lemmas.Slice.Eq.{bytes_eq-Decides}
use Rattle.td_cdr.specs.Writing.{Draft}
use Rattle.td_cdr.specs.declared.order.Order.{Order}
use Rattle.td_typecode.specs.Formats.{is_nonempty}
use Rattle.td_typecode.specs.declared.reference.Ior.{Ior}
use Rattle.td_typecode.specs.declared.reference.Profile.{Profile}
use Rattle.td_giop.specs.Written.{reply_start, seal_size}
use Rattle.td_ior.specs.Nil.{is_nil, nil}
use Rattle.td_iter.proofs.Greatest.{greatest_is_one}
use Rattle.td_iter.proofs.Loading.{some-left}
use Rattle.td_iter.specs.Batches.{BatchHead, IsBatch, PutsBatch}
use Rattle.td_iter.specs.Heads.{IsSmallReference, given_or_nil, offers_found}
use Rattle.td_log.specs.Forms.{minor_of}
use Rattle.td_log.specs.declared.message.Recorded.{Recorded}
use Rattle.td_log.specs.declared.message.ReplyForm.{ReplyForm}
use Rattle.td_lookup.specs.Querying.{first_offers}
use Rattle.td_objects.specs.References.{offer_iterator}
use Rattle.td_ops.specs.Shapes.{reply_piece}
use Rattle.td_ops.specs.declared.outcome.Outcome.TheVariants.{Done}
use Rattle.td_ops.specs.declared.outcome.Reply.{Reply}
use Rattle.td_value.specs.declared.structures.Offer.{Offer}
use Rattle.td_walk.specs.declared.trace.Address.{Address}
use Rattle.td_audit.specs.Replies.{HasBatch, reply_head, ends_so, found_with, spelled_reply}

-- ---- nil references

no-items : {X : Type 0} (xs : List X) → nat_eq (length xs) 0 ≡ true → xs ≡ []
no-items xs e = nil_from_length xs (eqb-true (length xs) 0 e)

nil-parts : (r : Ior) → nat_eq (length r.id) 0 ≡ true → nat_eq (length r.profiles) 0 ≡ true → r ≡ nil
nil-parts r i p =
    let id = no-items r.id i in
    let profiles = no-items r.profiles p in
    ap (λ (bs : List ℕ). record { id = bs; profiles = r.profiles }) id
    ∙ ap (λ (ps : List Profile). record { id = []; profiles = ps }) profiles

both : (a b : Bool) → (a && b) ≡ true → (a ≡ true) × (b ≡ true)
both true true e = (refl, refl)
both true false e = absurd cc
both false b e = absurd cc

nil-is : (r : Ior) → is_nil r ≡ true → r ≡ nil
nil-is r e = let h = both (nat_eq (length r.id) 0) (nat_eq (length r.profiles) 0) e in nil-parts r h.0 h.1

-- a reference that is nil exactly where nothing is left is the one that a batch has
given-is : (r : Ior) (more : Bool) → is_nil r ≡ not more → given_or_nil r more ≡ r
given-is r true e = refl
given-is r false e = sym (nil-is r e)

apart : (a b : Bool) → beq a b ≡ false → a ≡ not b
apart true true e = absurd cc
apart true false e = refl
apart false true e = refl
apart false false e = absurd cc

together : (a b : Bool) → beq a b ≡ true → a ≡ not b → ⊥
together true true e f = cc
together true false e f = cc
together false true e f = cc
together false false e f = cc

module _ {X : Type 0} (head : Ior → BatchHead X) (content : List X → Ior → Reply)
    (spells : (r : Ior) (items : List X) (more : Bool)
    → head r items more ≡ reply_piece (content items (given_or_nil r more))) where
  -- a writer that was begun for the reply is as good as another
  batch-of : (form : ReplyForm) (n : ℕ) (items : List X) (r : Ior) (old : Draft) (k : ℕ)
      → old.bytes ≡ reply_start form.order (minor_of form.version) form.id 0 → old.order ≡ form.order
      → IsBatch (head r) items old n k → IsBatch (head r) items (reply_head form) n k
  batch-of form n items r old k bytes order b =
      let P : List ℕ → Order → Type 0 = λ bs o. IsBatch (head r) items (record { bytes = bs; order = o; room = 0 }) n k
      in subst (λ (o : Order). P (reply_start form.order (minor_of form.version) form.id 0) o) order
      (subst (λ (bs : List ℕ). P bs old.order) bytes b)

  -- the message has what was written, with the reference where something is left
  pub first-written : (form : ReplyForm) (n : ℕ) (items : List X) (r : Ior) (old new : Draft) (k : ℕ)
      → old.bytes ≡ reply_start form.order (minor_of form.version) form.id 0 → old.order ≡ form.order
      → new.order ≡ old.order → PutsBatch (head r) items n old new k
      → seal_size new.order new.bytes
      ≡ spelled_reply form (Done (content (take k items) (given_or_nil r (is_nonempty (drop k items)))))
  first-written form n items r old new k bytes order same p =
      let start = reply_start form.order (minor_of form.version) form.id 0 in
      let piece : head r (take k items) (is_nonempty (drop k items))
      ≡ reply_piece (content (take k items) (given_or_nil r (is_nonempty (drop k items)))) =
      spells r (take k items) (is_nonempty (drop k items)) in
      ap (λ (o : Order). seal_size o new.bytes) (same ∙ order)
      ∙ ap (seal_size form.order) (p.bytes
      ∙ ap (λ (bs : List ℕ). bs ++ head r (take k items) (is_nonempty (drop k items)) old.order (length bs)) bytes
      ∙ ap (λ (o : Order). start ++ head r (take k items) (is_nonempty (drop k items)) o (length start)) order
      ∙ ap (λ (q : Order → ℕ → List ℕ). start ++ q form.order (length start)) piece)

  written : (form : ReplyForm) (n : ℕ) (items : List X) (r : Ior) (old new : Draft) (k : ℕ)
      → old.bytes ≡ reply_start form.order (minor_of form.version) form.id 0 → old.order ≡ form.order
      → new.order ≡ old.order → PutsBatch (head r) items n old new k → is_nil r ≡ not (is_nonempty (drop k items))
      → seal_size new.order new.bytes ≡ spelled_reply form (Done (content (take k items) r))
  written form n items r old new k bytes order same p ends =
      first-written form n items r old new k bytes order same p
      ∙ ap (λ (z : Ior). spelled_reply form (Done (content (take k items) z))) (given-is r (is_nonempty (drop k items)) ends)

  module _ (form : ReplyForm) (n : ℕ) (items : List X) (reply : Recorded) (old new : Draft) (k : ℕ)
      (bytes : old.bytes ≡ reply_start form.order (minor_of form.version) form.id 0) (order : old.order ≡ form.order)
      (same : new.order ≡ old.order) (p : PutsBatch (head reply.iterator) items n old new k)
      (small : IsSmallReference reply.iterator) where
    pub has-batch : ends_so (is_nonempty (drop k items)) reply (seal_size new.order new.bytes) ≡ true
        → HasBatch head content form n items reply
    has-batch e = by (beq (is_nil reply.iterator) (is_nonempty (drop k items))) refl e where
      by : (b : Bool) → beq (is_nil reply.iterator) (is_nonempty (drop k items)) ≡ b
          → (if b then false else bytes_eq reply.bytes (seal_size new.order new.bytes)) ≡ true
          → HasBatch head content form n items reply
      by true d f = absurd cc
      by false d f =
          let ends = apart (is_nil reply.iterator) (is_nonempty (drop k items)) d in record {
            small = small;
            count = k;
            batch = batch-of form n items reply.iterator old k bytes order p.is_batch;
            ends = ends;
            bytes =
                (bytes_eq-Decides reply.bytes (seal_size new.order new.bytes)).0 f
                ∙ written form n items reply.iterator old new k bytes order same p ends;
          }

    pub has-none : ends_so (is_nonempty (drop k items)) reply (seal_size new.order new.bytes) ≡ false
        → HasBatch head content form n items reply → ⊥
    has-none e h = by (beq (is_nil reply.iterator) (is_nonempty (drop k items))) refl e where
      one : h.count ≡ k
      one = greatest_is_one h.batch (batch-of form n items reply.iterator old k bytes order p.is_batch)

      ends : is_nil reply.iterator ≡ not (is_nonempty (drop k items))
      ends = subst (λ (j : ℕ). is_nil reply.iterator ≡ not (is_nonempty (drop j items))) one h.ends

      is : reply.bytes ≡ seal_size new.order new.bytes
      is =
          subst (λ (j : ℕ). reply.bytes ≡ spelled_reply form (Done (content (take j items) reply.iterator))) one h.bytes
          ∙ sym (written form n items reply.iterator old new k bytes order same p ends)

      by : (b : Bool) → beq (is_nil reply.iterator) (is_nonempty (drop k items)) ≡ b
          → (if b then false else bytes_eq reply.bytes (seal_size new.order new.bytes)) ≡ false → ⊥
      by true d f = together (is_nil reply.iterator) (is_nonempty (drop k items)) d ends
      by false d f =
          let yes : bytes_eq reply.bytes (seal_size new.order new.bytes) ≡ true =
          (bytes_eq-Decides reply.bytes (seal_size new.order new.bytes)).1 is in cc

    -- the answer to whether a reply has the batch
    pub tells-batch : (b more : Bool) (message : List ℕ) → more ≡ is_nonempty (drop k items)
        → message ≡ seal_size new.order new.bytes → b ≡ ends_so more reply message
        → MatchBool b (HasBatch head content form n items reply) (HasBatch head content form n items reply → ⊥)
    tells-batch true more message m e h =
        has-batch (ap (λ (t : Bool). ends_so t reply (seal_size new.order new.bytes)) (sym m)
        ∙ (ap (ends_so more reply) (sym e) ∙ sym h))
    tells-batch false more message m e h =
        has-none (ap (λ (t : Bool). ends_so t reply (seal_size new.order new.bytes)) (sym m)
        ∙ (ap (ends_so more reply) (sym e) ∙ sym h))

-- the reply that has the first batch, as a session of its own writes it
pub first-batch : (given items : List Offer) (limits : List (List ℕ)) (home : Address) (name : List ℕ)
    (form : ReplyForm) (m n : ℕ) (r : Ior) (old new : Draft) (k : ℕ) → given ≡ items → m ≡ n
    → r ≡ offer_iterator home name 1
    → old.bytes ≡ reply_start form.order (minor_of form.version) form.id 0 → old.order ≡ form.order
    → new.order ≡ old.order → PutsBatch (offers_found r limits) given m old new k
    → IsBatch (offers_found (offer_iterator home name 1) limits) items (reply_head form) n k
    × (seal_size new.order new.bytes ≡ spelled_reply form (first_offers home name 1 limits items k))
first-batch given items limits home name form m n r old new k same-items same-n is bytes order same p =
    let spells : (q : Ior) (xs : List Offer) (more : Bool)
    → offers_found q limits xs more ≡ reply_piece (found_with limits xs (given_or_nil q more)) = λ q xs more. refl in
    let P : List Offer → ℕ → Ior → Type 0 = λ xs j q. IsBatch (offers_found q limits) xs (reply_head form) j k
    × (seal_size new.order new.bytes
    ≡ spelled_reply form (Done (found_with limits (take k xs) (given_or_nil q (is_nonempty (drop k xs)))))) in
    let first : P given m r = (
      batch-of (λ (q : Ior). offers_found q limits) (found_with limits) spells form m given r old k bytes order
          p.is_batch,
      first-written (λ (q : Ior). offers_found q limits) (found_with limits) spells form m given r old new k bytes order
          same p,
    ) in
    subst (λ (xs : List Offer). P xs n (offer_iterator home name 1)) same-items
    (subst (λ (j : ℕ). P given j (offer_iterator home name 1)) same-n (subst (λ (q : Ior). P given m q) is first))

-- what the writer's count tells
pub more-is : {X : Type 0} (k : ℕ) (items : List X) → nat_lt k (length items) ≡ is_nonempty (drop k items)
more-is k items = sym (some-left k items)
