-- The beginning of a query makes at most one mark.
use Rattle.std.proofs.Common.{◌≡◌, ℕ, ◌<◌, ◌≤◌, ◌^◌, inl, inr, Some, None, refl, sym, subst, arith}
use Rattle.td_cdr.specs.Marks.{Marks, Later}
use Rattle.td_cdr.proofs.Marking.{follows, later_itself}
use Rattle.td_marks.specs.Keeping.{AreRingMarks}
use Rattle.td_ops.specs.declared.call.Query.{Query}
use Rattle.td_trader.specs.BeginLaws.{AreKept}
use Rattle.td_trader.specs.Beginning.{Begins, after_begin, begin_of, begin_unless, searched_under}
use Rattle.td_register.specs.Causes.{Cause}
use Rattle.td_trader.specs.Following.{MarksOnce}
use Rattle.td_trader.specs.Queries.{parts_of, refusal}
use Rattle.td_register.specs.Stores.{Store}
use Rattle.td_trader.specs.declared.begin.Begin.{Begin}
use Rattle.td_trader.specs.declared.begin.Begin.TheVariants.{Refused, Repeat, Search, Path}
use Rattle.td_changes.specs.declared.bounds.Bounds.{Bounds}
use Rattle.td_register.specs.declared.refusal.Refusal.{Refusal}
use Rattle.td_trader.proofs.Begun.{counter_rises, unless_is}
use Rattle.td_trader.proofs.Counted.{has-room}

-- while no more marks were made values are left
pub left-over : (m : Marks) → AreRingMarks m → m.count < 2 ^ 40 → AreKept m
left-over m k few =
    let within = k.within in
    let most = k.most in
    let steps = k.steps in
    record { orderly = k.orderly; left = omega arith }

pub later-once : (m n : Marks) → MarksOnce m n → Later m n
later-once m n (inl e) = subst (Later m) (sym e) (later_itself m)
later-once m n (inr f) = f.later

module _ (bounds : Bounds) (s : Store) (point : ℕ) (m : Marks) (q : Query) where
  taken-once : AreKept m → (b : Begin) → Begins bounds s point m q b → MarksOnce m (after_begin s m q b)
  unfolding after_begin
  taken-once k (Refused o) h = inl refl
  taken-once k (Repeat number) h = inl refl
  taken-once k (Path l) h = inl refl
  taken-once k (Search l) h =
      inr (follows m (searched_under s m q).identifier (searched_under s m q).counter k.orderly
      (counter_rises m s.attributes.request_id_stem (parts_of q).stated.request_id k) h.fresh)

  unmarked : (f : Refusal) → MarksOnce m (after_begin s m q (begin_unless (Some f) s point m q))
  unfolding after_begin
  unmarked f = inl refl

  unless-once : bounds.begins ≤ 2 ^ 40 → AreRingMarks m → (cause : Cause) → refusal bounds m.count s q ≡ cause
      → MarksOnce m (after_begin s m q (begin_unless cause s point m q))
  unless-once most k (Some f) h = unmarked f
  unless-once most k None h =
      let kept = left-over m k (has-room bounds m.count s q h most) in
      taken-once kept (begin_unless None s point m q) (unless_is bounds s point m q kept None h)

  pub marked-once : bounds.begins ≤ 2 ^ 40 → AreRingMarks m → MarksOnce m (after_begin s m q (begin_of bounds s point m q))
  unfolding begin_of
  marked-once most k = unless-once most k (refusal bounds m.count s q) refl
