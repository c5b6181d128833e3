-- What is seen of each trader only grows in a walk, so that a search's store is there at its point afterwards.
use Rattle.std.proofs.Common.{◌≡◌, ℕ, Bool, true, false, nat_eq, List, [], ◌++◌, append_assoc, append-nil, length}
use Rattle.std.proofs.Common.{Some, refl, sym, ap, subst, ◌∙◌, slice_get, slice_set, eqb-true, take_at}
use Rattle.std.proofs.lemmas.Bool.{eqb-false}
use Rattle.td_cdr.specs.Marks.{Marks}
use Rattle.td_changes.specs.Histories.{after_all, at}
use Rattle.td_fed.proofs.Members.{Beginnings, Insides, get-set_other, get-set_same, same-view}
use Rattle.td_fed.specs.Visiting.{BeginsVisit}
use Rattle.td_fed_laws.proofs.Alone.{IsSearchHere, search-here}
use Rattle.td_ops.specs.declared.call.Query.{Query}
use Rattle.td_register.specs.Stores.{Store}
use Rattle.td_register.specs.declared.history.Accepted.{Accepted}
use Rattle.td_store.specs.declared.local.Local.{Local}
use Rattle.td_trader.specs.Beginning.{after_begin}
use Rattle.td_trader.specs.Worlds.{View, after_begin as seen_after, store_seen}
use Rattle.td_walk.specs.declared.answer.Next.{Next}
use Rattle.td_walk.specs.declared.answer.StepAnswer.{StepAnswer}
use Rattle.td_walk.specs.declared.trace.TraceItem.{TraceItem}
use Rattle.td_walk.specs.declared.trace.Visit.{Visit}
use Rattle.td_query_walk.specs.Walks.{WalkState, Search, Start, Step, Steps, Walk}
use Rattle.td_query_walk.specs.Walks.{asked, asking, done, evaluated, outside, refused, repeat}
use Rattle.td_query_walk.specs.Walks.{no_memory_with, unevaluated, unreachable, visited}

-- ---- one trader, and all

pub record GrownView (u : List View) (k : ℕ) (v : View) : Type 0 where
  pub now : View
  pub is : slice_get u k ≡ Some now
  pub opening : now.opening ≡ v.opening
  pub more : List Accepted
  pub history : now.history ≡ v.history ++ more

abbrev pub Grown : List View → List View → Type 0
Grown w u = (k : ℕ) (v : View) → slice_get w k ≡ Some v → GrownView u k v

unmoved : (w : List View) → Grown w w
unmoved w k v is = record { now = v; is = is; opening = refl; more = []; history = sym (append-nil v.history) }

pub grown-on : (w x u : List View) → Grown w x → Grown x u → Grown w u
grown-on w x u p q k v is =
    let a = p k v is in
    let b = q k a.now a.is in
    record {
      now = b.now;
      is = b.is;
      opening = b.opening ∙ a.opening;
      more = a.more ++ b.more;
      history =
          b.history ∙ (ap (λ (h : List Accepted). h ++ b.more) a.history ∙ append_assoc v.history a.more b.more);
    }

-- ---- a beginning

-- a search: what was seen of its trader is there behind it
pub record SearchLeft (u : List View) (k : ℕ) (q : Query) (l : Local) : Type 0 where
  pub seen : View
  pub here : IsSearchHere (store_seen seen) (length seen.history) seen.marks q l
  pub after : View
  pub is : slice_get u k ≡ Some after
  pub opening : after.opening ≡ seen.opening
  pub history : after.history ≡ seen.history

pub record Grow (B : Beginnings) : Type 0 where
  pub grows : (w : List View) (k : ℕ) (q : Query) (start : Start) (u : List View) → B w k q start u → Grown w u
  pub leaves : (w : List View) (k : ℕ) (q : Query) (l : Local) (u : List View) → B w k q (Search l) u
      → SearchLeft u k q l

-- one trader of the group is seen otherwise
put-grown : (w : List View) (k : ℕ) (v x : View) (more : List Accepted) → slice_get w k ≡ Some v
    → x.opening ≡ v.opening → x.history ≡ v.history ++ more → Grown w (slice_set w k x)
put-grown w k v x more at_k opening history j z is = by-trader (nat_eq k j) refl
  where
    by-trader : (b : Bool) → nat_eq k j ≡ b → GrownView (slice_set w k x) j z
    by-trader true e =
        let one : k ≡ j = eqb-true k j e in
        let same : v ≡ z =
        same-view (slice_get w j) v z (subst (λ (n : ℕ). slice_get w n ≡ Some v) one at_k) is in
        record {
          now = x;
          is = subst (λ (n : ℕ). slice_get (slice_set w k x) n ≡ Some x) one (get-set_same w k v x at_k);
          opening = opening ∙ ap (λ (y : View). y.opening) same;
          more = more;
          history = history ∙ ap (λ (y : View). y.history ++ more) same;
        }
    by-trader false e = record {
      now = z;
      is = get-set_other w k j x (eqb-false k j e) ∙ is;
      opening = refl;
      more = [];
      history = sym (append-nil z.history);
    }

pub grow : (others : List Accepted → Type 0) (later : Marks → Marks → Type 0) → Grow (BeginsVisit others later)
grow others later = record {
  grows =
      λ w k q start u h. let b = h.begun in
      let m = b.meanwhile in
      let x = seen_after b.seen (after_begin (store_seen b.seen) b.seen.marks q h.begin) in
      subst (Grown w) (sym b.world)
      (put-grown w k m.view x m.between m.is (ap (λ (y : View). y.opening) m.seen_is)
      (ap (λ (y : View). y.history) m.seen_is));
  leaves =
      λ w k q l u h. let b = h.begun in
      let m = b.meanwhile in
      let x = seen_after b.seen (after_begin (store_seen b.seen) b.seen.marks q h.begin) in
      record {
        seen = b.seen;
        here = search-here others later w k q l u h;
        after = x;
        is = subst (λ (y : List View). slice_get y k ≡ Some x) (sym b.world) (get-set_same w k m.view x m.is);
        opening = refl;
        history = refl;
      };
}

-- ---- a walk

mutual
  walk-grows : (B : Beginnings) (inside : Insides) (g : Grow B) {s : WalkState (List View)} {k : ℕ} {q : Query}
      {t : List TraceItem} {v : Visit} {u : WalkState (List View)} → Walk B inside s k q t v u → Grown s.world u.world
  walk-grows B inside g (refused {s = s} {k = k} {q = q} {w = w} b) = g.grows s.world k q _ w b
  walk-grows B inside g (repeat {s = s} {k = k} {q = q} {w = w} b) = g.grows s.world k q _ w b
  walk-grows B inside g (asking {s = s} {k = k} {q = q} {start = start} {w = w} {m = m} b o steps en) =
      subst (Grown s.world) (sym en.world)
      (grown-on s.world w m.world (g.grows s.world k q start w b) (steps-grow B inside g steps))

  pub steps-grow : (B : Beginnings) (inside : Insides) (g : Grow B) {s : WalkState (List View)} {l : Local}
      {answers : List StepAnswer} {t : List TraceItem} {all : List StepAnswer} {u : WalkState (List View)}
      → Steps B inside s l answers t all u → Grown s.world u.world
  steps-grow B inside g (done {s = s} e) = unmoved s.world
  steps-grow B inside g (asked {s = s} {m = m} {u = u} step steps) =
      grown-on s.world m.world u.world (step-grows B inside g step) (steps-grow B inside g steps)

  step-grows : (B : Beginnings) (inside : Insides) (g : Grow B) {s : WalkState (List View)} {question : Next}
      {t : List TraceItem} {r : StepAnswer} {u : WalkState (List View)} → Step B inside s question t r u
      → Grown s.world u.world
  step-grows B inside g (visited i walk) = walk-grows B inside g walk
  step-grows B inside g (outside {s = s} i small) = unmoved s.world
  step-grows B inside g (no_memory_with {s = s} i f) = unmoved s.world
  step-grows B inside g (evaluated {s = s} i) = unmoved s.world
  step-grows B inside g (unevaluated {s = s} i f) = unmoved s.world
  step-grows B inside g (unreachable {s = s} i) = unmoved s.world

-- ---- at its point

-- the store that a search was made at, as it stands afterwards at the search's point
pub store-there : (x u : List View) (k : ℕ) (q : Query) (l : Local) → (h : SearchLeft x k q l) → Grown x u → (z : View)
    → slice_get u k ≡ Some z → at z.opening z.history l.point ≡ store_seen h.seen
store-there x u k q l h grown z is =
    let g = grown k h.after h.is in
    let same : z ≡ g.now = same-view (slice_get u k) z g.now is g.is in
    let opening : z.opening ≡ h.seen.opening = ap (λ (y : View). y.opening) same ∙ (g.opening ∙ h.opening) in
    let history : z.history ≡ h.seen.history ++ g.more =
    ap (λ (y : View). y.history) same
    ∙ (g.history ∙ ap (λ (y : List Accepted). y ++ g.more) h.history) in
    let point : l.point ≡ length h.seen.history = h.here.served.served.point_is in
    ap (λ (y : Store). at y z.history l.point) opening
    ∙ (ap (λ (y : List Accepted). at h.seen.opening y l.point) history
    ∙ (ap (λ (n : ℕ). at h.seen.opening (h.seen.history ++ g.more) n) point
    ∙ ap (after_all h.seen.opening) (take_at h.seen.history g.more (length h.seen.history) refl)))
