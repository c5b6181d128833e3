-- What is seen of a trader once a call has come to it.
use Rattle.std.proofs.Common.{◌≡◌, ℕ, zero, suc, ◌-◌, ◌<◌, List, [], ◌∷◌, ◌++◌, length, slice_get, slice_set, Some}
use Rattle.std.proofs.Common.{refl}
use Rattle.std.proofs.Common.{sym, ap, subst, ◌∙◌, arith, length-append}
use Rattle.std.proofs.lemmas.List.{length-set}
use Rattle.td_cdr.specs.Marks.{Marks}
use Rattle.td_cdr.specs.Names.{IsTraderName}
use Rattle.td_ops.specs.declared.call.Change.{Change}
use Rattle.td_ops.specs.declared.call.Look.{Look}
use Rattle.td_ops.specs.declared.outcome.Outcome.{Outcome}
use Rattle.td_ops.specs.declared.outcome.Outcome.TheVariants.{Done, User, System}
use Rattle.td_register.specs.Entries.{entry}
use Rattle.td_register.specs.declared.history.Accepted.{Accepted}
use Rattle.td_trader.specs.Worlds.{ChangesTrader, LooksAtTrader, View, Watches, after_own, history_at, history_in}
use Rattle.td_trader.specs.Worlds.{name_at, name_in}
use Rattle.td_trader.specs.Worlds.{Meanwhile, with_view}
use Rattle.td_servant.specs.Answers.{AnswersPlainly}
use Rattle.td_servant.specs.Changing.{ChangeComes, changes_before}
use Rattle.td_servant.specs.Objects.{IsNamed}
use Rattle.td_servant.specs.declared.answer.ReplyBody.TheVariants as reply_body
use Rattle.td_servant.specs.declared.entry.Entry.{Entry}
use Rattle.td_servant.specs.declared.entry.Entry.TheVariants.{Point}

-- ---- one of a list that is set

set_at : {X : Type 0} (xs : List X) (k : ℕ) (x y : X) → slice_get xs k ≡ Some x
    → slice_get (slice_set xs k y) k ≡ Some y
set_at [] k x y e = absurd (let bad : ⊥ = cc in bad)
set_at (z ∷ xs) zero x y e = refl
set_at (z ∷ xs) (suc k) x y e = set_at xs k x y e

-- of a trader that is seen anew
pub slice_behind : (w u : List View) (k : ℕ) (old new : View) → slice_get w k ≡ Some old → u ≡ with_view w k new
    → slice_get u k ≡ Some new
slice_behind w u k old new at e = ap (λ (x : List View). slice_get x k) e ∙ set_at w k old new at

pub history_behind : (w u : List View) (k : ℕ) (old new : View) → slice_get w k ≡ Some old → u ≡ with_view w k new
    → history_at u k ≡ new.history
history_behind w u k old new at e =
    ap (λ (x : List View). history_at x k) e ∙ ap history_in (set_at w k old new at)

name_behind : (w u : List View) (k : ℕ) (old new : View) → slice_get w k ≡ Some old → u ≡ with_view w k new
    → name_at u k ≡ new.name
name_behind w u k old new at e = ap (λ (x : List View). name_at x k) e ∙ ap name_in (set_at w k old new at)

within_behind : (w u : List View) (k : ℕ) (new : View) → k < length w → u ≡ with_view w k new → k < length u
within_behind w u k new h e =
    let long : length u ≡ length w = ap (λ (x : List View). length x) e ∙ length-set w k new in omega (arith, long)

own_history : (v : View) (c : Change) (o : Outcome) → length v.history ≡ changes_before o (length (after_own v c
    o).history)
own_history v c (Done content) =
    let long = length-append v.history (entry c content ∷ []) in
    let one : length v.history ≡ length (v.history ++ entry c content ∷ []) - 1 = omega (arith, long) in one
own_history v c (User e) = refl
own_history v c (System kind minor completion) = refl

module _ (others : List Accepted → Type 0) (later : Marks → Marks → Type 0) where
  -- ---- a change

  pub changed_within : (w u : List View) (k : ℕ) (c : Change) (o : Outcome) → k < length w
      → ChangesTrader others later w k c o u → k < length u
  changed_within w u k c o h r = within_behind w u k (after_own r.seen c o) h r.world

  pub changed_point : (w u : List View) (k : ℕ) (c : Change) (o : Outcome) (r : ChangesTrader others later w k c o u)
      → changes_before o (length (history_at u k)) ≡ length r.seen.history
  changed_point w u k c o r =
      ap (λ (h : List Accepted). changes_before o (length h))
      (history_behind w u k r.meanwhile.view (after_own r.seen c o) r.meanwhile.is r.world)
      ∙ sym (own_history r.seen c o)

  pub change_content : (w u : List View) (k : ℕ) (c : Change) (o : Outcome) (point : ℕ)
      → ChangesTrader others later w k c o u → point ≡ changes_before o (length (history_at u k))
      → AnswersPlainly (λ (x : Outcome) (e : Entry). ChangeComes others later w k c x e u)
      (record { body = reply_body.Outcome o; entry = Point k point })
  change_content w u k c o point r e = record {
    outcome = o;
    comes = record { changes = r; noted = ap (λ (n : ℕ). Point k n) (e ∙ changed_point w u k c o r) };
    content = refl;
  }

  -- ---- a look

  pub look_in : (w u : List View) (k : ℕ) (l : Look) (a : Outcome × ℕ) → k < length w
      → LooksAtTrader others later w k l a u → k < length u
  look_in w u k l a h r = within_behind w u k r.seen h r.world

  pub look_point : (w u : List View) (k : ℕ) (l : Look) (a : Outcome × ℕ) (r : LooksAtTrader others later w k l a u)
      → length (history_at u k) ≡ length r.seen.history
  look_point w u k l a r =
      ap (λ (h : List Accepted). length h) (history_behind w u k r.meanwhile.view r.seen r.meanwhile.is r.world)

  seen_name : (w : List View) (k : ℕ) (seen : View) → Meanwhile others later w k seen → seen.name ≡ name_at w k
  seen_name w k seen m = ap (λ (v : View). v.name) m.seen_is ∙ ap name_in (sym m.is)

  pub look_named : (w u : List View) (k : ℕ) (l : Look) (a : Outcome × ℕ) → IsNamed w k
      → LooksAtTrader others later w k l a u → IsNamed u k
  look_named w u k l a n r = record {
    within = look_in w u k l a n.within r;
    named =
        subst IsTraderName (sym (name_behind w u k r.meanwhile.view r.seen r.meanwhile.is r.world
        ∙ seen_name w k r.seen r.meanwhile)) n.named;
  }

  pub look_watches : (w u : List View) (k : ℕ) (l : Look) (a : Outcome × ℕ) → LooksAtTrader others later w k l a u
      → Watches others later w k u
  look_watches w u k l a r = record { seen = r.seen; meanwhile = r.meanwhile; world = r.world }

  pub watched_within : (w u : List View) (k : ℕ) → k < length w → Watches others later w k u → k < length u
  watched_within w u k h r = within_behind w u k r.seen h r.world
