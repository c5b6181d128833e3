-- The laws of a trader as the book of a cell.
use Rattle.std.proofs.Common.{◌≡◌, ◌+◌, ◌≤◌, inl, inr, List, length, length-append, sym, subst, arith}
use Rattle.td_cdr.specs.Marks.{Marks, Later}
use Rattle.td_register.specs.declared.history.Accepted.{Accepted}
use Rattle.td_cell.specs.OwnMarks.{LastIsMade, AddsMark}
use Rattle.td_trader.specs.Following.{FollowsWritably, MarksOnce as MarksAtMostOnce}
use Rattle.td_trader.specs.PlainTraders.{PlainTrader, store_of}
use Rattle.td_trader.proofs.Growing.{begin-once, begin-writable, change-once, change-writable, look-once}
use Rattle.td_trader.proofs.Growing.{look-writable, writable-itself, writable-on}
use Rattle.td_group.specs.Acting.{TraderActs}
use Rattle.td_group.specs.Made.{MakesAt}
use Rattle.td_group.specs.declared.shared_trader.Act.{Act}
use Rattle.td_group.specs.declared.shared_trader.Act.TheVariants as act
use Rattle.td_group.specs.declared.shared_trader.Reply.{Reply}
use Rattle.td_group.specs.declared.shared_trader.Reply.TheVariants as reply
use Rattle.td_group.specs.MadeLaws.{act_makes}

-- ---- what a trader may become

pub follows_itself : (t : PlainTrader) → FollowsWritably t t
follows_itself t = writable-itself t

pub follows_on : (t u v : PlainTrader) → FollowsWritably t u → FollowsWritably u v
    → FollowsWritably t v
follows_on t u v p q = writable-on t u v p q

pub grows : (t u : PlainTrader) → FollowsWritably t u → length t.history ≤ length u.history
grows t u f = rw (f.follows.history, length-append) (omega arith)

pub marks_later : (t u : PlainTrader) → FollowsWritably t u → Later t.marks u.marks
marks_later t u f = f.follows.marks

-- ---- what an act makes of it

pub acts_follow : (t : PlainTrader) (a : Act) (r : Reply) (u : PlainTrader) → TraderActs t a r u
    → FollowsWritably t u
acts_follow t (act.Change c) (reply.Changed r) u h = change-writable t u c r h.admitted h.changes
acts_follow t (act.Change c) (reply.Looked r) u h = absurd h
acts_follow t (act.Change c) (reply.Begun r) u h = absurd h
acts_follow t (act.Look l) (reply.Changed r) u h = absurd h
acts_follow t (act.Look l) (reply.Looked r) u h = look-writable t u l r h
acts_follow t (act.Look l) (reply.Begun r) u h = absurd h
acts_follow t (act.Query q) (reply.Changed r) u h = absurd h
acts_follow t (act.Query q) (reply.Looked r) u h = absurd h
acts_follow t (act.Query q) (reply.Begun r) u h = begin-writable t u q r h.bounds h.marks h.begins

within : (xs ys : List Accepted) → xs ≡ ys → length xs ≤ length ys + 1
within xs ys e =
    let most : length ys ≤ length ys + 1 = omega arith in
    subst (λ (zs : List Accepted). length zs ≤ length ys + 1) (sym e) most

pub acts_within : (t : PlainTrader) (a : Act) (r : Reply) (u : PlainTrader) → TraderActs t a r u
    → length u.history ≤ length t.history + 1
acts_within t (act.Change c) (reply.Changed r) u h = (change-once t u c r h.changes).once
acts_within t (act.Change c) (reply.Looked r) u h = absurd h
acts_within t (act.Change c) (reply.Begun r) u h = absurd h
acts_within t (act.Look l) (reply.Changed r) u h = absurd h
acts_within t (act.Look l) (reply.Looked r) u h = (look-once t u l r h).once
acts_within t (act.Look l) (reply.Begun r) u h = absurd h
acts_within t (act.Query q) (reply.Changed r) u h = absurd h
acts_within t (act.Query q) (reply.Looked r) u h = absurd h
acts_within t (act.Query q) (reply.Begun r) u h =
    within u.history t.history (begin-once t u q r h.bounds h.marks h.begins).history

last_made : (t u : PlainTrader) → MakesAt t u → LastIsMade t.marks u.marks
last_made t u h = λ less. let m = h less in
    record { stem = (store_of u).attributes.request_id_stem; is = m.is; below = m.below }

new_mark : (m n : Marks) → MarksAtMostOnce m n → LastIsMade m n → AddsMark m n
new_mark m n (inl e) makes = inl e
new_mark m n (inr f) makes = inr (f.new, makes)

pub makes_one_mark : (t : PlainTrader) (a : Act) (r : Reply) (u : PlainTrader) → TraderActs t a r u
    → AddsMark t.marks u.marks
makes_one_mark t (act.Change c) (reply.Changed r) u h = inl (change-once t u c r h.changes).marks
makes_one_mark t (act.Change c) (reply.Looked r) u h = absurd h
makes_one_mark t (act.Change c) (reply.Begun r) u h = absurd h
makes_one_mark t (act.Look l) (reply.Changed r) u h = absurd h
makes_one_mark t (act.Look l) (reply.Looked r) u h = inl (look-once t u l r h).marks
makes_one_mark t (act.Look l) (reply.Begun r) u h = absurd h
makes_one_mark t (act.Query q) (reply.Changed r) u h = absurd h
makes_one_mark t (act.Query q) (reply.Looked r) u h = absurd h
makes_one_mark t (act.Query q) (reply.Begun r) u h =
    new_mark t.marks u.marks (begin-once t u q r h.bounds h.marks h.begins).once
    (last_made t u (act_makes t (act.Query q) (reply.Begun r) u h))
