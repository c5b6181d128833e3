-- The laws of the identifiers that acts make.
use Rattle.std.proofs.Common.{◌≡◌, ℕ, ◌+◌, ◌-◌, ◌<◌, ◌≤◌, ◌^◌, List, [], ◌∷◌, ◌++◌, length, Option, Some, None, Result}
use Rattle.std.proofs.Common.{Ok, Err, refl, sym, ap, subst, ◌∙◌, arith}
use Rattle.td_cdr.specs.Marks.{Marks, RememberedMark, entry_of, kept_beside, last_identifier, made_identifier, add_mark}
use Rattle.td_cdr.specs.declared.memory.Memory.{Memory}
use Rattle.td_marks.specs.Keeping.{AreRingMarks as AreMarks}
use Rattle.td_marks.specs.Making.{next_value}
use Rattle.td_marks.proofs.Free.{is_next}
use Rattle.td_ops.specs.declared.call.Query.{Query}
use Rattle.td_changes.specs.declared.bounds.Bounds.{Bounds}
use Rattle.td_register.specs.Causes.{Cause}
use Rattle.td_register.specs.Stores.{Store}
use Rattle.td_register.specs.declared.refusal.Refusal.{Refusal}
use Rattle.td_trader.specs.BeginLaws.{AreKept}
use Rattle.td_trader.specs.Beginning.{after_begin, begin_of, begin_unless, query_identifier}
use Rattle.td_trader.specs.PlainTraders.{AreBounds, PlainTrader, after_begin as trader_after, begin_at, store_of}
use Rattle.td_trader.specs.Queries.{parts_of, refusal}
use Rattle.td_trader.specs.declared.begin.Begin.{Begin}
use Rattle.td_trader.specs.declared.begin.Begin.TheVariants.{Refused, Repeat, Search, Path}
use Rattle.td_trader.proofs.Counted.{has-room}
use Rattle.td_trader.proofs.Growing.{change-once, look-once}
use Rattle.td_trader.proofs.MarkedOnce.{left-over}
use Rattle.td_group.specs.Acting.{TraderActs, StartsQuery}
use Rattle.td_group.specs.Made.{MakesAt}
use Rattle.td_group.specs.declared.shared_trader.Act.{Act}
use Rattle.td_group.specs.declared.shared_trader.Act.TheVariants as act
use Rattle.td_group.specs.declared.shared_trader.Reply.{Reply}
use Rattle.td_group.specs.declared.shared_trader.Reply.TheVariants as reply

last-snoc : (es : List RememberedMark) (e : RememberedMark) → last_identifier (es ++ e ∷ [])
    ≡ e.identifier
last-snoc [] e = refl
last-snoc (f ∷ []) e = refl
last-snoc (f ∷ g ∷ es) e = last-snoc (g ∷ es) e

-- where the counter has risen from m to n, the last identifier was made of the store's stem
abbrev Makes : Store → (m n : Marks) → Type 0
Makes s m n =
    m.counter < n.counter
    → (last_identifier n.kept ≡ made_identifier s.attributes.request_id_stem (n.counter - 1))
    × (n.counter - 1 < 256 ^ 8)

makes-none : (s : Store) (m : Marks) → Makes s m m
makes-none s m = λ less. absurd (omega arith)

module _ (s : Store) (m : Marks) where
  makes-named : AreKept m → (stated : Option (List ℕ))
      → Makes s m (add_mark m (query_identifier m s.attributes.request_id_stem stated).identifier
      (query_identifier m s.attributes.request_id_stem stated).counter)
  makes-named k (Some i) = λ less. absurd (omega arith)
  makes-named k None = λ less.
      let stem = s.attributes.request_id_stem in
      let v = next_value m stem in
      let back : v + 1 - 1 ≡ v = omega arith in
      let soon = (is_next m stem k.orderly k.left).soon in
      let left = k.left in (
        last-snoc (kept_beside m) (entry_of (made_identifier stem v) (m.count + 1))
            ∙ ap (made_identifier stem) (sym back),
        omega (arith, soon, left, back),
      )

module _ (bounds : Bounds) (s : Store) (point : ℕ) (m : Marks) (q : Query) where
  makes-taken : AreKept m → (b : Begin) → Makes s m (after_begin s m q b)
  unfolding after_begin
  makes-taken k (Refused o) = makes-none s m
  makes-taken k (Repeat number) = makes-none s m
  makes-taken k (Path l) = makes-none s m
  makes-taken k (Search l) = makes-named s m k (parts_of q).stated.request_id

  makes-refused : (f : Refusal) → Makes s m (after_begin s m q (begin_unless (Some f) s point m q))
  unfolding after_begin
  makes-refused f = makes-none s m

  makes-unless : bounds.begins ≤ 2 ^ 40 → AreMarks m → (cause : Cause) → refusal bounds m.count s q
      ≡ cause → Makes s m (after_begin s m q (begin_unless cause s point m q))
  makes-unless most k (Some f) h = makes-refused f
  makes-unless most k None h =
      makes-taken (left-over m k (has-room bounds m.count s q h most))
      (begin_unless None s point m q)

  makes-begun : bounds.begins ≤ 2 ^ 40 → AreMarks m
      → Makes s m (after_begin s m q (begin_of bounds s point m q))
  unfolding begin_of
  makes-begun most k = makes-unless most k (refusal bounds m.count s q) refl

-- ---- acts

begun : (t : PlainTrader) (q : Query) → AreBounds t.bounds → AreMarks t.marks
    → MakesAt t (trader_after t q (begin_at t q))
begun t q b k = λ less.
    let h = makes-begun t.bounds (store_of t) (length t.history) t.marks q b.begins k less in
    record { is = h.0; below = h.1 }

same : (t u : PlainTrader) → u.marks ≡ t.marks → MakesAt t u
same t u e = λ less.
    let counters : u.marks.counter
    ≡ t.marks.counter = ap (λ (m : Marks). m.counter) e in absurd (omega arith)

starts : (t u : PlainTrader) (q : Query) (r : Result Begin Memory) → StartsQuery t q r u
    → MakesAt t u
starts t u q (Ok b) h =
    subst (MakesAt t) (sym (h.begins.1 ∙ ap (trader_after t q) h.begins.0))
    (begun t q h.bounds h.marks)
starts t u q (Err e) h = same t u (ap (λ (x : PlainTrader). x.marks) h.begins)

pub act_makes : (t : PlainTrader) (a : Act) (r : Reply) (u : PlainTrader) → TraderActs t a r u
    → MakesAt t u
act_makes t (act.Change c) (reply.Changed r) u h = same t u (change-once t u c r h.changes).marks
act_makes t (act.Change c) (reply.Looked r) u h = absurd h
act_makes t (act.Change c) (reply.Begun r) u h = absurd h
act_makes t (act.Look l) (reply.Changed r) u h = absurd h
act_makes t (act.Look l) (reply.Looked r) u h = same t u (look-once t u l r h).marks
act_makes t (act.Look l) (reply.Begun r) u h = absurd h
act_makes t (act.Query q) (reply.Changed r) u h = absurd h
act_makes t (act.Query q) (reply.Looked r) u h = absurd h
act_makes t (act.Query q) (reply.Begun r) u h = starts t u q r h
