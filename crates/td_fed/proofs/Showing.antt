-- What a trace shows, step after step.
use Rattle.std.proofs.Common.{◌≡◌, ℕ, List, [], ◌∷◌, ◌++◌, length, append_assoc, append-nil, le_refl, refl, sym, ap}
use Rattle.std.proofs.Common.{◌∙◌, subst}
use Rattle.td_fed.proofs.Rising.{flat-append, rises-on}
use Rattle.td_fed.specs.Trails.{IsShown, NeverFalls, mark_of, marks_of, own_marks_at, point_of, points_of}
use Rattle.td_trader.specs.Worlds.{View, history_at}
use Rattle.td_walk.specs.Peering.{Exchange, PeerAnswer}
use Rattle.td_query_walk.proofs.Walked.{given-append, shown-append}
use Rattle.td_query_walk.specs.Walks.{given_in, peer_answers, shown_by}
use Rattle.td_walk.specs.declared.trace.TraceItem.{TraceItem}

pub marks-append : (k : ℕ) (is js : List TraceItem) → marks_of k (is ++ js) ≡ marks_of k is ++ marks_of k js
marks-append k [] js = refl
marks-append k (i ∷ is) js =
    ap (λ t. mark_of k i ++ t) (marks-append k is js) ∙ sym (append_assoc (mark_of k i) (marks_of k is) (marks_of k js))

-- nothing was done
pub shown-none : (w : List View) (calls : List Exchange) (items : List TraceItem) → IsShown w calls items items w calls
shown-none w calls items = record {
  items = [];
  notes = sym (append-nil items);
  marks = λ k. sym (append-nil (own_marks_at w k));
  points = λ k. le_refl (length (history_at w k));
  made = [];
  calls_are = sym (append-nil calls);
  asked = refl;
}

-- one after the other
pub shown-on : (w v u : List View) (a b c : List Exchange) (x y z : List TraceItem) → IsShown w a x y v b
    → IsShown v b y z u c → IsShown w a x z u c
shown-on w v u a b c x y z p q = record {
  items = p.items ++ q.items;
  notes = q.notes ∙ (ap (λ t. t ++ q.items) p.notes ∙ append_assoc x p.items q.items);
  marks = λ k.
      q.marks k ∙ (ap (λ t. t ++ marks_of k q.items) (p.marks k)
      ∙ (append_assoc (own_marks_at w k) (marks_of k p.items) (marks_of k q.items)
      ∙ ap (λ t. own_marks_at w k ++ t) (sym (marks-append k p.items q.items))));
  points = λ k.
      subst (λ (t : List ℕ). NeverFalls (length (history_at w k)) t (length (history_at u k)))
      (sym (flat-append (point_of k) p.items q.items))
      (rises-on (length (history_at w k)) (points_of k p.items) (length (history_at v k)) (points_of k q.items)
      (length (history_at u k)) (p.points k) (q.points k));
  made = p.made ++ q.made;
  calls_are = q.calls_are ∙ (ap (λ t. t ++ q.made) p.calls_are ∙ append_assoc a p.made q.made);
  asked = given-append p.made q.made
      ∙ (ap (λ t. t ++ given_in q.made) p.asked ∙ (ap (λ t. peer_answers p.items ++ t) q.asked
      ∙ sym (shown-append p.items q.items)));
}

-- calls that come before change nothing
pub shown-later : (w u : List View) (made calls : List Exchange) (x y : List TraceItem) → IsShown w [] x y u made
    → IsShown w calls x y u (calls ++ made)
shown-later w u made calls x y p = record {
  items = p.items;
  notes = p.notes;
  marks = p.marks;
  points = p.points;
  made = made;
  calls_are = refl;
  asked = ap given_in p.calls_are ∙ p.asked;
}

-- beside calls that were made before, and with none
pub shown-beside : (w u : List View) (calls : List Exchange) (x y : List TraceItem) → IsShown w [] x y u []
    → IsShown w calls x y u calls
shown-beside w u calls x y p =
    subst (λ (now : List Exchange). IsShown w calls x y u now) (append-nil calls) (shown-later w u [] calls x y p)

-- nothing was done, and nothing noted
pub shown-same : (w : List View) (calls now : List Exchange) (x y : List TraceItem) → now ≡ calls → y ≡ x
    → IsShown w calls x y w now
shown-same w calls now x y same kept = record {
  items = [];
  notes = kept ∙ sym (append-nil x);
  marks = λ k. sym (append-nil (own_marks_at w k));
  points = λ k. le_refl (length (history_at w k));
  made = [];
  calls_are = same ∙ sym (append-nil calls);
  asked = refl;
}

-- an item that shows one call, and no mark and no point
pub shown-call : (w : List View) (calls now : List Exchange) (e : Exchange) (x z y : List TraceItem) (i : TraceItem)
    → now ≡ calls ++ e ∷ [] → z ≡ x → y ≡ z ++ i ∷ [] → ((k : ℕ) → mark_of k i ≡ [])
    → ((k : ℕ) → point_of k i ≡ []) → shown_by i ≡ e.gave ∷ [] → IsShown w calls x y w now
shown-call w calls now e x z y i called kept noted unmarked unplaced seen = record {
  items = i ∷ [];
  notes = noted ∙ ap (λ t. t ++ i ∷ []) kept;
  marks = λ k.
      sym (append-nil (own_marks_at w k)) ∙ ap (λ (t : List ℕ). own_marks_at w k ++ (t ++ [])) (sym (unmarked k));
  points = λ k.
      subst (λ (t : List ℕ). NeverFalls (length (history_at w k)) (t ++ []) (length (history_at w k))) (sym (unplaced k))
      (le_refl (length (history_at w k)));
  made = e ∷ [];
  calls_are = called;
  asked = ap (λ (t : List PeerAnswer). t ++ []) (sym seen);
}
