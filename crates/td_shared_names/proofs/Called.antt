-- A call of contexts that one alone calls, as an act on the book.
use Rattle.std.proofs.Common.{◌≡◌, ℕ, Bool, true, false, cond, List, [], ◌∷◌, ◌++◌, Result, Ok, Err, IfOk, OnErr}
use Rattle.std.proofs.Common.{refl, ap, ◌∙◌}
use Rattle.std.proofs.lemmas.List.{append-nil}
use Rattle.td_cdr.specs.declared.memory.Memory.{Memory}
use Rattle.td_names.specs.declared.act.NameAct.{NameAct}
use Rattle.td_names.specs.declared.act.NameAnswer.{NameAnswer}
use Rattle.td_naming.specs.Alone.{no_changes, solo_view}
use Rattle.td_naming.specs.Histories.{Past, change_at, is_accepted, past}
use Rattle.td_naming.specs.Views.{NamingActs, Meanwhile, View, after_others, after_own, answer_at, with_own}
use Rattle.td_naming.specs.declared.history.NameChange.{NameChange}
use Rattle.td_shared_names.specs.Acting.{AnswersCall, CallsOrNot, store_of}

-- where others change nothing, what was seen is what is seen
same_seen : (v u : View) → Meanwhile no_changes v u → u ≡ v
same_seen v u m =
    m.is
    ∙ ap (λ (h : List NameChange). after_others v h) m.may
    ∙ ap (λ (h : List NameChange). let x : View = record { home = v.home; history = h; own = v.own } in x)
    (append-nil v.history)

-- a history with its home
abbrev past_in : View → Past
past_in v = past v.home v.history

left_by : (v : View) (e : NameChange) (flag : Bool)
    → past_in (cond flag (with_own v e) v) ≡ past v.home (cond flag (v.history ++ e ∷ []) v.history)
left_by v e true = refl
left_by v e false = refl

calls : (p q : Past) (c : ℕ) (a : NameAct) (r : NameAnswer) → NamingActs no_changes (solo_view p) c a r (solo_view q)
    → AnswersCall p c a r q
calls p q c a r h =
    let same : h.seen ≡ solo_view p = same_seen (solo_view p) h.seen h.meanwhile in
    let after : solo_view q ≡ after_own (solo_view p) c a r =
    h.after ∙ ap (λ (v : View). after_own v c a r) same in
    record {
      answer = h.answer ∙ ap (λ (v : View). answer_at v c a) same;
      left = ap past_in after ∙ left_by (solo_view p) (change_at (store_of p) c a) (is_accepted a r);
    }

pub called : (p q : Past) (c : ℕ) (a : NameAct) (r : Result NameAnswer Memory)
    → IfOk r (λ x. NamingActs no_changes (solo_view p) c a x (solo_view q)) → OnErr r (q ≡ p) → CallsOrNot p c a r q
called p q c a (Ok x) ok err = calls p q c a x ok
called p q c a (Err memory) ok err = err
